-- Stores of lists into a buffer.
use Prim.Native.Nat.{ℕ, suc, ◌+◌, ◌≤◌}
use native.Mathlib.Omega.{arith}
use native.Mathlib.Nat.{add-zero, zero-add, add-suc, suc-add}
use mathlib.Core.Path.{◌≡◌}
use mathlib.Core.List.{List, [], ◌∷◌, ◌++◌}
use lib.ListN.{length, set}
use lib.Seq.{sets, sets-eq}
use Rattle.buffers.specs.Filled.{filled}

-- Stores that follow one another are stores of the lists joined.
pub sets-append : (d : List ℕ) (at : ℕ) (xs ys : List ℕ) → sets (sets d at xs) (at + length xs) ys ≡ sets d at (xs ++ ys)
sets-append d at [] ys = rw add-zero
sets-append d at (x ∷ xs) ys = rw (add-suc, ← suc-add) (sets-append (set d at x) (suc at) xs ys)

pub sets_then : (d : List ℕ) (at : ℕ) (xs ys : List ℕ) (m : ℕ) → m ≡ at + length xs → sets (sets d at xs) m ys ≡ sets d at (xs ++ ys)
sets_then d at xs ys m e = rw e (sets-append d at xs ys)

-- Stores from the start fill it.
pub sets-filled : (d xs : List ℕ) → length xs ≤ length d → sets d 0 xs ≡ filled xs d
sets-filled d xs h = let h' : 0 + length xs ≤ length d = omega arith in rw (sets-eq xs d 0 h', zero-add)
