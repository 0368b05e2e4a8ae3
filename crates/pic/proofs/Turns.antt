-- One turn of each loop, over plain variables.
use Rattle.std.proofs.Common.{◌≡◌, ℕ, suc, ◌+◌, ◌-◌, ◌<◌, ◌≤◌, Bool, true, false, ◌&&◌, leb, sym, refl, ap, ◌∙◌, add-one, arith, leb-false}
use Rattle.std.proofs.Math.Nat.{add-sub_cancel}
use Rattle.pic_source.specs.declared.Rank.{Rank}
use Rattle.pic_comparator.specs.declared.Winner.{Winner}
use Rattle.pic_comparator.specs.Comparator.{entry_of, better_of}
use Rattle.pic_comparator.proofs.Comparing.{stays, neutral, entry-eligible, entry-none}
use Rattle.pic.specs.Sources.{rank_at, is_eligible, entry_at, winner_to}
use Rattle.pic.specs.declared.Controller.{Controller}
pub use Rattle.pic.specs.Sources.{waiting_at}
use Rattle.pic.specs.Sound.{source_sound_at, sources_sound}

-- A source of rank 0 does not pass, so whether its rank is 1 or more need not be asked.
enters : (w : Winner) (s : ℕ) (r : Rank) → better_of w (entry_of (leb 1 r.0) s r) ≡ better_of w (record { source = s; rank = r })
enters w s r = go (leb 1 r.0) refl
  where
    go : (t : Bool) → leb 1 r.0 ≡ t → better_of w (entry_of (leb 1 r.0) s r) ≡ better_of w (record { source = s; rank = r })
    go true e = ap (better_of w) (entry-eligible s r e)
    go false e =
        let z : r.0 < 1 = leb-false 1 r.0 e in
        ap (better_of w) (entry-none s r e) ∙ neutral.right w ∙ sym (stays w (record { source = s; rank = r }) (omega arith))

-- An eligible source is one that waits, of rank 1 or more.
pub entry-waiting : (c : Controller) (s : ℕ) → entry_at c s ≡ entry_of (waiting_at c s && leb 1 (rank_at c s).0) s (rank_at c s)
unfolding is_eligible
entry-waiting c s = refl

-- The next source is, and enters with its rank; or it is not, and the winner stays.
module _ (c : Controller) (s : ℕ) where
  with-next : Bool → Winner
  with-next t = better_of (winner_to c s) (entry_of (t && leb 1 (rank_at c (suc s)).0) (suc s) (rank_at c (suc s)))

  next-enters : waiting_at c (suc s) ≡ true → winner_to c (suc s) ≡ better_of (winner_to c s) (record { source = suc s; rank = rank_at c (suc s) })
  unfolding winner_to is_eligible with-next
  next-enters e = ap with-next e ∙ enters (winner_to c s) (suc s) (rank_at c (suc s))

  next-stays : waiting_at c (suc s) ≡ false → winner_to c (suc s) ≡ winner_to c s
  unfolding winner_to is_eligible with-next
  next-stays e = ap with-next e ∙ ap (better_of (winner_to c s)) (entry-none (suc s) (rank_at c (suc s)) refl) ∙ neutral.right (winner_to c s)

  pub winner-turn : {w w' : Winner} {r : Rank} {waits : Bool} → w ≡ winner_to c s → waits ≡ waiting_at c (s + 1) → waits ≡ true → r ≡ rank_at c (s + 1)
      → w' ≡ better_of w (record { source = s + 1; rank = r }) → w' ≡ winner_to c (s + 1)
  winner-turn hw hs t hr hb = rw (hb, hw, hr, add-one) (sym (next-enters (rw add-one at (sym hs ∙ t))))

  pub winner-stays : {w : Winner} {waits : Bool} → w ≡ winner_to c s → waits ≡ waiting_at c (s + 1) → waits ≡ false → w ≡ winner_to c (s + 1)
  winner-stays hw hs f = rw (hw, add-one) (sym (next-stays (rw add-one at (sym hs ∙ f))))

pub sources-turn : (c : Controller) (s : ℕ) {ok good : Bool}
    → ok ≡ sources_sound c s
    → good ≡ source_sound_at c (s + 1)
    → ok && good ≡ sources_sound c (s + 1)
unfolding sources_sound
sources-turn c s ho hg = rw (ho, hg, add-one)

-- The same of a counter that goes from 1 up: t is the source, and t - 1 those before it.
module _ (c : Controller) (t : ℕ) (h : 1 ≤ t) where
  here : t - 1 + 1 ≡ t
  here = omega arith

  pub winner-at : {w w' : Winner} {r : Rank} {waits : Bool} → w ≡ winner_to c (t - 1) → waits ≡ waiting_at c t → waits ≡ true → r ≡ rank_at c t
      → w' ≡ better_of w (record { source = t; rank = r }) → w' ≡ winner_to c (t + 1 - 1)
  winner-at {w' = w'} {r = r} hw hs k hr hb =
      rw (add-sub_cancel t 1)
      (rw here at (winner-turn c (t - 1) {w' = w'} {r = r} hw (rw here hs) k (rw here hr) (rw here hb)))

  pub winner-stays-at : {w : Winner} {waits : Bool} → w ≡ winner_to c (t - 1) → waits ≡ waiting_at c t → waits ≡ false → w ≡ winner_to c (t + 1 - 1)
  winner-stays-at hw hs f = rw (add-sub_cancel t 1) (rw here at (winner-stays c (t - 1) hw (rw here hs) f))

  pub sources-at : {ok good : Bool} → ok ≡ sources_sound c (t - 1) → good ≡ source_sound_at c t → ok && good ≡ sources_sound c (t + 1 - 1)
  sources-at {good = good} ho hg = rw (add-sub_cancel t 1) (rw here at (sources-turn c (t - 1) {good = good} ho (rw here hg)))
