-- Trees with the same leaves from left to right pass the same.
use Prim.Native.Nat.{ℕ, zero, suc, ◌+◌, ◌≤◌, ◌<◌}
use mathlib.Core.Path.{◌≡◌, refl, sym, ap, ◌∙◌}
use mathlib.Core.List.{List, [], ◌∷◌, ◌++◌}
use mathlib.Core.Logic.{inr}
use native.Mathlib.Omega.{arith}
use lib.ListN.{get_or}
use lib.Dec.{leb}
use borrow.Author.Tests.{leb-true}
use Rattle.pic_source.specs.Ranks.{rank}
use Rattle.pic_comparator.specs.declared.Winner.{Winner}
use Rattle.pic_comparator.specs.Comparator.{no_winner, better_of, Entered}
use Rattle.pic_comparator.specs.Trees.{Tree, unused, leaf, node, leaves, passing, numbers, OverSources, AnyShape, scan_of, entered_by}
use Rattle.pic_comparator.proofs.Counting.{numbers-last}
use Rattle.pic_comparator.proofs.Comparing.{associative, neutral, entered, entry-entered}

-- What passes of a list of sources, one after the other, after w.
unfoldable along : (ℕ → Winner) → Winner → List ℕ → Winner
along enters w [] = w
along enters w (s ∷ ss) = along enters (better_of w (enters s)) ss

along-append : (enters : ℕ → Winner) (w : Winner) (ss ts : List ℕ) → along enters w (ss ++ ts) ≡ along enters (along enters w ss) ts
unfolding along
along-append enters w [] ts = refl
along-append enters w (s ∷ ss) ts = along-append enters (better_of w (enters s)) ss ts

-- A tree passes what its leaves do, one after the other.
along-leaves : (enters : ℕ → Winner) (w : Winner) (t : Tree) → along enters w (leaves t) ≡ better_of w (passing enters t)
unfolding along leaves passing
along-leaves enters w unused = sym (neutral.right w)
along-leaves enters w (leaf s) = refl
along-leaves enters w (node l r) =
    along-append enters w (leaves l) (leaves r) ∙ along-leaves enters (along enters w (leaves l)) r
    ∙ ap (λ v. better_of v (passing enters r)) (along-leaves enters w l)
    ∙ sym (associative w (passing enters l) (passing enters r))

module _ (enters : ℕ → Winner) (h : (s : ℕ) → Entered (enters s)) where
  root-entered : (t : Tree) → Entered (passing enters t)
  unfolding passing
  root-entered unused = inr refl
  root-entered (leaf s) = h s
  root-entered (node l r) = entered (passing enters l) (passing enters r) (root-entered l) (root-entered r)

  root-along : (t : Tree) → passing enters t ≡ along enters no_winner (leaves t)
  root-along t = sym (neutral.left (passing enters t) (root-entered t)) ∙ sym (along-leaves enters no_winner t)

pub any-shape : AnyShape
any-shape enters h t u e = root-along enters h t ∙ ap (along enters no_winner) e ∙ sym (root-along enters h u)

-- The scan is over the sources 1 to n,
pub scan-over : (n : ℕ) → OverSources n (scan_of n)
unfolding leaves scan_of numbers
scan-over zero = refl
scan-over (suc n) = let e : 1 + n ≡ suc n = omega arith in rw (scan-over n, ← e) (sym (numbers-last 1 n))

-- and passes what is worked out from source to source.
pub scan-passes : (enters : ℕ → Winner) (w : ℕ → Winner) → w 0 ≡ no_winner → ((n : ℕ) → w (suc n) ≡ better_of (w n) (enters (suc n))) → (n : ℕ)
    → passing enters (scan_of n) ≡ w n
unfolding passing scan_of
scan-passes enters w e h zero = sym e
scan-passes enters w e h (suc n) = rw (scan-passes enters w e h n) (sym (h n))

along-same : (e f : ℕ → Winner) (w : Winner) (s n : ℕ) → ((i : ℕ) → s ≤ i → i < s + n → e i ≡ f i) → along e w (numbers s n) ≡ along f w (numbers s n)
unfolding along numbers
along-same e f w s zero h = refl
along-same e f w s (suc n) h =
    ap (λ (v : Winner). along e (better_of w v) (numbers (suc s) n)) (h s (omega arith) (omega arith))
    ∙ along-same e f (better_of w (f s)) (suc s) n (λ i a b. h i (omega arith) (omega arith))

-- Where the sources 1 to n enter alike, a tree over them passes the same.
pub alike : (e f : ℕ → Winner) → ((s : ℕ) → Entered (e s)) → ((s : ℕ) → Entered (f s)) → (n : ℕ) (t : Tree) → OverSources n t
    → ((s : ℕ) → 1 ≤ s → s ≤ n → e s ≡ f s) → passing e t ≡ passing f t
alike e f he hf n t o h =
    root-along e he t ∙ ap (along e no_winner) o ∙ along-same e f no_winner 1 n (λ i a b. h i a (omega arith)) ∙ sym (ap (along f no_winner) o)
    ∙ sym (root-along f hf t)

-- By an array of entering ranks a source enters as one can.
pub ranks-entered : (ranks : List ℕ) (s : ℕ) → Entered (entered_by ranks s)
ranks-entered ranks s = entry-entered (leb 1 (get_or ranks s 0)) s (rank (get_or ranks s 0)) (λ e. leb-true 1 (get_or ranks s 0) e)
