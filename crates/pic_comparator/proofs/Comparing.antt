-- The comparator is associative, and (0, 0) is neutral for what a source can enter as.
use Prim.Native.Nat.{ℕ, ◌≤◌, ◌<◌}
use mathlib.Core.Path.{◌≡◌, refl, sym, ◌∙◌}
use mathlib.Core.Bool.{Bool, true, false, cond, ◌&&◌}
use mathlib.Core.Logic.{inl, inr, ⊎_elim}
use native.Mathlib.Omega.{arith}
use lib.Dec.{leb}
use borrow.Author.Tests.{lt-ltb, le-ltb}
use Rattle.pic_source.specs.declared.Rank.{Rank}
use Rattle.pic_source.specs.Ranks.{rank}
use Rattle.pic_source.proofs.Bools.{le-cases}
use Rattle.pic_comparator.specs.declared.Winner.{Winner}
use Rattle.pic_comparator.specs.Comparator.{no_winner, entry_of, better_of, Associative, Entered, Neutral}

-- A right one of a higher rank passes, and no other.
pub passes : (a b : Winner) → a.rank.0 < b.rank.0 → better_of a b ≡ b
unfolding better_of
passes a b h = rw (lt-ltb a.rank.0 b.rank.0 h)

pub stays : (a b : Winner) → b.rank.0 ≤ a.rank.0 → better_of a b ≡ a
unfolding better_of
stays a b h = rw (le-ltb a.rank.0 b.rank.0 h)

-- Of two, the left one stays or the right one passes.
either : {P : Type 0} (a b : Winner) → (b.rank.0 ≤ a.rank.0 → P) → (a.rank.0 < b.rank.0 → P) → P
either a b f g = ⊎_elim f g (le-cases b.rank.0 a.rank.0)

pub associative : Associative
associative a b c =
    either a b
    (λ l. either b c (λ m. rw (stays b c m, stays a b l) (sym (stays a c (omega arith)))) (λ m. rw (passes b c m, stays a b l)))
    (λ l. either b c (λ m. rw (stays b c m, passes a b l, stays b c m)) (λ m. rw (passes b c m, passes a b l) (passes a c (omega arith) ∙ sym (passes b c m))))

pub neutral : Neutral
neutral = record { right = λ w. stays w no_winner (omega arith); left = left; stopped = λ w e. stays no_winner w (omega (arith, e)) }
  where
    left : (w : Winner) → Entered w → better_of no_winner w ≡ w
    left w (inl h) = passes no_winner w h
    left w (inr e) = rw e (stays no_winner no_winner (omega arith))

-- What passes of two that sources can enter as is such a one.
pub entered : (a b : Winner) → Entered a → Entered b → Entered (better_of a b)
entered a b ha hb = either a b (λ l. rw (stays a b l) ha) (λ l. rw (passes a b l) hb)

-- An eligible source enters with number and rank, and any other as (0, 0).
module _ {eligible : Bool} (s : ℕ) (r : Rank) where
  pub entry-eligible : eligible ≡ true → entry_of eligible s r ≡ record { source = s; rank = r }
  unfolding entry_of
  entry-eligible e = rw e

  pub entry-none : eligible ≡ false → entry_of eligible s r ≡ no_winner
  unfolding entry_of
  entry-none e = rw e

-- An eligible source has a rank of 1 or more; so it enters with it, or as (0, 0).
pub entry-entered : (eligible : Bool) (s : ℕ) (r : Rank) → (eligible ≡ true → 1 ≤ r.0) → Entered (entry_of eligible s r)
unfolding entry_of
entry-entered true s r h = inl (h refl)
entry-entered false s r h = inr refl

-- By its entering rank, that of a source that waits and else 0, it enters as an eligible one does.
pub enters-waiting : (waits : Bool) (s : ℕ) (r : Rank)
    → entry_of (leb 1 (cond waits r.0 0)) s (rank (cond waits r.0 0)) ≡ entry_of (waits && leb 1 r.0) s r
unfolding entry_of
enters-waiting true s r = refl
enters-waiting false s r = refl
