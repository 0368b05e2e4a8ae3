-- What is said of the lesser of two numbers.
use Prim.Native.Nat.{ℕ, ◌≤◌}
use mathlib.Core.Path.{◌≡◌, refl}
use mathlib.Core.Bool.{Bool, true, false, cond}
use native.Mathlib.Omega.{arith}
use Rattle.std.proofs.Math.Nat.{min-eq_left, min-eq_right}
use Rattle.std.specs.Prelude.{min}
use lib.Dec.{ltb}
use borrow.Author.Tests.{ltb-true, ltb-false, le-ltb}
use Rattle.buffers.specs.Least.{least}

-- It is at most each of them.
pub least-both : (a b : ℕ) → (least a b ≤ a) × (least a b ≤ b)
unfolding least
least-both a b = go (ltb b a) refl
  where
    go : (t : Bool) → ltb b a ≡ t → (cond t b a ≤ a) × (cond t b a ≤ b)
    go true e = let l = ltb-true b a e in (omega arith, omega arith)
    go false e = let l = ltb-false b a e in (omega arith, l)

-- It is the first where that is at most the second; what is at most both is at most the lesser.
pub least_first : (a b : ℕ) → a ≤ b → least a b ≡ a
unfolding least
least_first a b h = rw (le-ltb b a h)

pub least_above : (k a b : ℕ) → k ≤ a → k ≤ b → k ≤ least a b
unfolding least
least_above k a b h g = go (ltb b a)
  where
    go : (t : Bool) → k ≤ cond t b a
    go true = g
    go false = h

-- It is the library's.
pub min-least : (a b : ℕ) → min a b ≡ least a b
unfolding least
min-least a b = go (ltb b a) refl
  where
    go : (t : Bool) → ltb b a ≡ t → min a b ≡ cond t b a
    go true e = let l = ltb-true b a e in min-eq_right (omega arith)
    go false e = min-eq_left (ltb-false b a e)
