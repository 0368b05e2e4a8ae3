-- The winner from the sets worked out afresh is 01's.
use Prim.Native.Nat.{ℕ, ◌<◌, ◌≤◌}
use mathlib.Core.Path.{◌≡◌, refl, sym, ap, ◌∙◌}
use mathlib.Core.Bool.{true}
use mathlib.Core.List.{[]}
use mathlib.Core.Logic.{◌⊎◌, inl, inr, ⊎_elim}
use native.Mathlib.Omega.{arith}
use lib.Dec.{eqb}
use lib.ListN.{get_or}
use borrow.Author.Tests.{eqb-true, eq-eqb, le-leb}
use Rattle.pic_source.specs.Ranks.{rank}
use Rattle.pic_source.specs.Sources.{is_source}
use Rattle.std.proofs.lemmas.Bool.{and_parts, cases_eq}
use Rattle.pic_source.proofs.Bools.{never, le-cases}
use Rattle.pic_source.proofs.Mirror.{mirror-small}
use Rattle.pic_source.proofs.Ranges.{source-range}
use Rattle.pic_comparator.specs.declared.Winner.{Winner}
use Rattle.pic_bits.specs.Bits.{is_member}
use Rattle.pic.specs.declared.Controller.{Controller}
use Rattle.pic.specs.Sources.{rank_at, enable_at, pending_at, winner_of, Eligible, Before, HasWinner, HasNoWinner, IsWinner}
use Rattle.pic.proofs.Soundness.{Sound, facts}
use Rattle.pic.proofs.Winning.{winner-is, eligible-parts, eligible-is}
use Rattle.pic_sets_winner.specs.Highest.{highest_of, ReadFrom, NothingIn}
use Rattle.pic_sets_winner.proofs.Winners.{highest-is}
use Rattle.pic_ready.specs.Ready.{ready_at, belongs, fresh_of, WinnerRead}
use Rattle.pic_ready.proofs.Members.{member}

module _ (c : Controller) (h : Sound c) where
  -- A member of a set above 0 is eligible, and of that rank;
  belongs-eligible : (r s : ℕ) → 1 ≤ r → belongs c r s ≡ true → Eligible c c.sources s × ((rank_at c s).0 ≡ r)
  unfolding ready_at
  belongs-eligible r s a e =
      let p = and_parts (ready_at c s) (eqb r (rank_at c s).0) e in
      let q = and_parts (is_source c.sources s) _ p.0 in
      let w = and_parts (eqb (enable_at c s) 1) (pending_at c s) q.1 in
      let i = source-range c.sources s q.0 in
      let z : r ≡ (rank_at c s).0 = eqb-true r (rank_at c s).0 p.1 in
      (record { least = i.0; most = i.1; eligible = eligible-is c s (eqb-true (enable_at c s) 1 w.0) w.1 (omega (arith, z, a)) }, sym z)

  -- and an eligible source is a member of the set of its rank.
  eligible-belongs : (s : ℕ) → Eligible c c.sources s → belongs c (rank_at c s).0 s ≡ true
  unfolding ready_at
  eligible-belongs s e =
      let p = eligible-parts c s e.eligible in
      rw (le-leb 1 s e.least, le-leb s c.sources e.most, p.0, p.1, eq-eqb (rank_at c s).0 (rank_at c s).0 refl)

  rank-small : (s : ℕ) → Eligible c c.sources s → (rank_at c s).0 ≤ 15
  rank-small s e = mirror-small c.scalars.priord _ (h.columns.field.each s e.least e.most)

  -- An eligible source is in the set of its rank, which is above 0.
  eligible-in : (s : ℕ) → Eligible c c.sources s → is_member (get_or (fresh_of c) (rank_at c s).0 []) s ≡ true
  eligible-in s e = member c (rank_at c s).0 s (omega (arith, rank-small s e)) (omega (arith, e.most, h.most)) ∙ eligible-belongs s e

  eligible-rank : (s : ℕ) → Eligible c c.sources s → 1 ≤ (rank_at c s).0
  eligible-rank s e = (eligible-parts c s e.eligible).2

  read-winner : (w : Winner) → ReadFrom (fresh_of c) w → HasWinner c c.sources w
  read-winner w f =
      let p = belongs-eligible w.rank.0 w.source f.above (sym (member c w.rank.0 w.source (omega (arith, f.most)) f.number) ∙ f.member) in
      record { eligible = p.0; ranked = sym (ap rank p.1); best = λ s e d. best s e d (cases_eq (rank_at c s).0 w.rank.0) (le-cases (rank_at c s).0 w.rank.0) }
    where
      best : (s : ℕ) → Eligible c c.sources s → (s ≡ w.source → ⊥) → ((rank_at c s).0 ≡ w.rank.0) ⊎ ((rank_at c s).0 ≡ w.rank.0 → ⊥)
          → ((rank_at c s).0 ≤ w.rank.0) ⊎ (w.rank.0 < (rank_at c s).0) → Before c w s
      best s e d (inl q) l = inr (q, order (le-cases w.source s))
        where
          order : (w.source ≤ s) ⊎ (s < w.source) → w.source < s
          order (inl a) = omega (arith, a, d)
          order (inr a) = never (sym (f.lowest s a) ∙ ap (λ (r : ℕ). is_member (get_or (fresh_of c) r []) s) (sym q) ∙ eligible-in s e)
      best s e d (inr q) (inl l) = inl (omega (arith, q, l))
      best s e d (inr q) (inr l) = never (sym (f.highest (rank_at c s).0 s l (rank-small s e) (omega (arith, e.most, h.most))) ∙ eligible-in s e)

  nothing-winner : (w : Winner) → NothingIn (fresh_of c) w → HasNoWinner c c.sources w
  nothing-winner w f =
      record {
        none = λ s e. never (sym (f.none (rank_at c s).0 s (eligible-rank s e) (rank-small s e) (omega (arith, e.most, h.most))) ∙ eligible-in s e);
        is_none = f.is_none;
      }

  pub read_is : IsWinner c c.sources (highest_of (fresh_of c))
  read_is = ⊎_elim (λ f. inl (read-winner (highest_of (fresh_of c)) f)) (λ f. inr (nothing-winner (highest_of (fresh_of c)) f)) (highest-is (fresh_of c))

-- There is one winner.
module _ (c : Controller) (n : ℕ) where
  before-both : (v w : Winner) → HasWinner c n v → HasWinner c n w → (v.source ≡ w.source → ⊥) → ⊥
  before-both v w a b d = clash (a.best w.source b.eligible (λ e. d (sym e))) (b.best v.source a.eligible d)
    where
      ranks : (x : Winner) → HasWinner c n x → (rank_at c x.source).0 ≡ x.rank.0
      ranks x f = sym (ap (λ r. r.0) f.ranked)

      clash : Before c v w.source → Before c w v.source → ⊥
      clash (inl p) (inl q) = omega (arith, p, q, ranks v a, ranks w b)
      clash (inl p) (inr q) = omega (arith, p, q.0, ranks v a, ranks w b)
      clash (inr p) (inl q) = omega (arith, p.0, q, ranks v a, ranks w b)
      clash (inr p) (inr q) = omega (arith, p.1, q.1)

  pub winner-one : (v w : Winner) → IsWinner c n v → IsWinner c n w → v ≡ w
  winner-one v w (inl a) (inl b) = go (cases_eq v.source w.source)
    where
      go : (v.source ≡ w.source) ⊎ (v.source ≡ w.source → ⊥) → v ≡ w
      go (inl e) = let f : v.rank ≡ w.rank = a.ranked ∙ ap (rank_at c) e ∙ sym b.ranked in rw (e, f)
      go (inr d) = absurd (before-both v w a b d)
  winner-one v w (inl a) (inr b) = absurd (b.none v.source a.eligible)
  winner-one v w (inr a) (inl b) = absurd (a.none w.source b.eligible)
  winner-one v w (inr a) (inr b) = a.is_none ∙ sym b.is_none

pub winner-read : WinnerRead
winner-read c e =
    let h = facts c e in
    let i = read_is c h in
    (i, winner-one c c.sources (highest_of (fresh_of c)) (winner_of c) i (winner-is c))
