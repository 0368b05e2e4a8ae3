-- The winner that the rules compute is the one of 01's sentence.
use Rattle.std.proofs.Common.{◌≡◌, ℕ, zero, suc, ◌<◌, ◌≤◌, Bool, true, false, ◌&&◌, eqb, ltb, leb, ◌⊎◌, sym, refl, ap, ◌∙◌, inl, inr, ⊎_elim, arith, ltb-false, ltb-true, eq-eqb, le-leb, leb-true}
use Rattle.pic.specs.declared.Controller.{Controller}
use Rattle.pic_source.specs.declared.Rank.{Rank}
use Rattle.pic_comparator.specs.declared.Winner.{Winner}
use Rattle.pic.specs.Sources.{rank_at, enable_at, pending_at, eligible_at, entry_at, winner_to, winner_of, Eligible, Before, IsWinner, is_eligible}
use Rattle.pic_comparator.specs.Comparator.{no_winner, better_of, Entered}
use Rattle.pic_comparator.proofs.Comparing.{passes, stays, neutral, entry-eligible, entry-none, entry-entered}
use Rattle.std.proofs.lemmas.Bool.{and_parts, cases_eq}
use Rattle.pic_source.proofs.Bools.{never}
use Rattle.pic.proofs.Soundness.{Sound, rank-small}

-- An eligible source is enabled, pending, and of rank 1 or more.
pub eligible-parts : (c : Controller) (s : ℕ) → eligible_at c s ≡ true → (eqb (enable_at c s) 1 ≡ true) × (pending_at c s ≡ true) × (1 ≤ (rank_at c s).0)
unfolding is_eligible
eligible-parts c s e =
    let p = and_parts (eqb (enable_at c s) 1 && pending_at c s) (leb 1 (rank_at c s).0) e in
    let q = and_parts (eqb (enable_at c s) 1) (pending_at c s) p.0 in
    (q.0, q.1, leb-true 1 (rank_at c s).0 p.1)

module _ (c : Controller) (n : ℕ) where
  -- One of the sources 1 to n + 1 is the last, or one of the others.
  split : (s : ℕ) → Eligible c (suc n) s → (s ≡ suc n) ⊎ Eligible c n s
  split s h = ⊎_elim (λ e. inl e) (λ e. inr (record { least = h.least; most = omega (arith, h.most); eligible = h.eligible })) (cases_eq s (suc n))

  more : (s : ℕ) → Eligible c n s → Eligible c (suc n) s
  more s h = record { least = h.least; most = omega (arith, h.most); eligible = h.eligible }

  -- The last source is not eligible.
  passed : (w : Winner) → eligible_at c (suc n) ≡ false → IsWinner c n w → IsWinner c (suc n) w
  passed w e (inl h) =
      inl (record { eligible = more _ h.eligible; ranked = h.ranked; best = λ s a d. ⊎_elim (λ z. gone s z a) (λ b. h.best s b d) (split s a) })
    where
      gone : (s : ℕ) → s ≡ suc n → Eligible c (suc n) s → Before c w s
      gone s z a = never (sym e ∙ ap (eligible_at c) (sym z) ∙ a.eligible)
  passed w e (inr h) =
      inr (record { none = λ s a. ⊎_elim (λ z. never (sym e ∙ ap (eligible_at c) (sym z) ∙ a.eligible)) (λ b. h.none s b) (split s a); is_none = h.is_none })

  -- The last source is of a strictly higher rank than the winner of the others.
  taken : (w : Winner) → eligible_at c (suc n) ≡ true → w.rank.0 < (rank_at c (suc n)).0 → IsWinner c n w
      → IsWinner c (suc n) (record { source = suc n; rank = rank_at c (suc n) })
  taken w e l h =
      inl (record {
        eligible = record { least = omega arith; most = omega arith; eligible = e };
        ranked = refl;
        best = λ s a d. ⊎_elim (λ z. absurd (d z)) (λ b. inl (lower s b h)) (split s a);
      })
    where
      lower : (s : ℕ) → Eligible c n s → IsWinner c n w → (rank_at c s).0 < (rank_at c (suc n)).0
      lower s b (inl k) =
          ⊎_elim
          (λ z. let f : (rank_at c s).0 ≡ w.rank.0 = ap (λ (i : ℕ). (rank_at c i).0) z ∙ sym (ap (λ (r : Rank). r.0) k.ranked) in omega arith)
          (λ z. ⊎_elim (λ f. omega arith) (λ f. omega (arith, f.0)) (k.best s b z))
          (cases_eq s w.source)
      lower s b (inr k) = absurd (k.none s b)

  -- The last source is eligible, and of no higher rank.
  left : (w : Winner) → eligible_at c (suc n) ≡ true → (rank_at c (suc n)).0 ≤ w.rank.0 → IsWinner c n w → IsWinner c (suc n) w
  left w e l (inl h) =
      inl (record { eligible = more _ h.eligible; ranked = h.ranked; best = λ s a d. ⊎_elim (λ z. behind s z) (λ b. h.best s b d) (split s a) })
    where
      behind : (s : ℕ) → s ≡ suc n → Before c w s
      behind s z =
          let f : (rank_at c s).0 ≤ w.rank.0 = rw z l in
          ⊎_elim (λ g. inr (g, omega (arith, h.eligible.most))) (λ g. inl (omega (arith, g))) (cases_eq (rank_at c s).0 w.rank.0)
  left w e l (inr h) =
      let z : w.rank.0 ≡ 0 = ap (λ (v : Winner). v.rank.0) h.is_none in
      absurd (omega (arith, (eligible-parts c (suc n) e).2))

  one_more : IsWinner c n (winner_to c n) → IsWinner c (suc n) (winner_to c (suc n))
  unfolding winner_to
  one_more h = go (eligible_at c (suc n)) refl
    where
      under : (t : Bool) → eligible_at c (suc n) ≡ true → ltb (winner_to c n).rank.0 (rank_at c (suc n)).0 ≡ t
          → IsWinner c (suc n) (better_of (winner_to c n) (record { source = suc n; rank = rank_at c (suc n) }))
      under true e f =
          let l = ltb-true _ _ f in rw (passes (winner_to c n) (record { source = suc n; rank = rank_at c (suc n) }) l) (taken (winner_to c n) e l h)
      under false e f =
          let l = ltb-false _ _ f in rw (stays (winner_to c n) (record { source = suc n; rank = rank_at c (suc n) }) l) (left (winner_to c n) e l h)

      go : (t : Bool) → eligible_at c (suc n) ≡ t
          → IsWinner c (suc n) (better_of (winner_to c n) (entry_at c (suc n)))
      go true e = rw (entry-eligible (suc n) (rank_at c (suc n)) e) (under (ltb (winner_to c n).rank.0 (rank_at c (suc n)).0) e refl)
      go false e = rw (entry-none (suc n) (rank_at c (suc n)) e, neutral.right (winner_to c n)) (passed (winner_to c n) e h)

winner-to : (c : Controller) (n : ℕ) → IsWinner c n (winner_to c n)
unfolding winner_to
winner-to c zero = inr (record { none = λ s h. omega (arith, h.least, h.most); is_none = refl })
winner-to c (suc n) = one_more c n (winner-to c n)

-- The winner is the eligible source of highest rank, of equals the lowest number; with none it is 0, of rank 0.
pub winner-is : (c : Controller) → IsWinner c c.sources (winner_of c)
winner-is c = winner-to c c.sources

-- The winner of a sound controller is a source or 0, of rank 0..15.
pub winner-small : (c : Controller) → Sound c → ((winner_of c).source ≤ c.sources) × ((winner_of c).rank.0 ≤ 15)
winner-small c h = go (winner-is c)
  where
    go : IsWinner c c.sources (winner_of c) → ((winner_of c).source ≤ c.sources) × ((winner_of c).rank.0 ≤ 15)
    go (inl s) =
        (s.eligible.most, rw s.ranked (rank-small c (winner_of c).source h s.eligible.least s.eligible.most))
    go (inr i) = rw i.is_none (omega arith, omega arith)

-- And back.
pub eligible-is : (c : Controller) (s : ℕ) → enable_at c s ≡ 1 → pending_at c s ≡ true → 1 ≤ (rank_at c s).0 → eligible_at c s ≡ true
unfolding is_eligible
eligible-is c s e p h = rw (eq-eqb (enable_at c s) 1 e, p, le-leb 1 (rank_at c s).0 h)

-- The scan, for the crates above: it begins with no source and goes on with the next; each enters with a rank of 1 or more, or as (0, 0).
pub winner-none : (c : Controller) → winner_to c 0 ≡ no_winner
unfolding winner_to
winner-none c = refl

pub winner-next : (c : Controller) (n : ℕ) → winner_to c (suc n) ≡ better_of (winner_to c n) (entry_at c (suc n))
unfolding winner_to
winner-next c n = refl

pub source-entered : (c : Controller) (s : ℕ) → Entered (entry_at c s)
source-entered c s = entry-entered (eligible_at c s) s (rank_at c s) (λ e. (eligible-parts c s e).2)
