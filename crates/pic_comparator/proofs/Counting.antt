-- The n numbers from s on.
use Prim.Native.Nat.{ℕ, zero, suc, ◌+◌, ◌<◌}
use mathlib.Core.Path.{◌≡◌, refl, ap, ◌∙◌}
use mathlib.Core.List.{List, [], ◌∷◌, ◌++◌}
use native.Mathlib.Nat.{zero-add, add-zero, suc-add}
use native.Mathlib.Omega.{arith}
use lib.ListN.{get_or}
use Rattle.pic_comparator.specs.Trees.{numbers, Numbers}

pub numbers-are : (s n : ℕ) → Numbers s n (numbers s n)
unfolding numbers
numbers-are s zero = record { count = refl; each = λ i h. absurd (omega arith) }
numbers-are s (suc n) = let h = numbers-are (suc s) n in record { count = ap suc h.count; each = at h.each }
  where
    at : ((i : ℕ) → i < n → get_or (numbers (suc s) n) i 0 ≡ suc s + i) → (i : ℕ) → i < suc n → get_or (s ∷ numbers (suc s) n) i 0 ≡ s + i
    at h zero l = omega arith
    at h (suc i) l = omega (arith, h i (omega arith))

-- They are the first m and the n after them,
pub numbers-parts : (s m n : ℕ) → numbers s (m + n) ≡ numbers s m ++ numbers (s + m) n
unfolding numbers
numbers-parts s zero n = rw (zero-add n, add-zero s)
numbers-parts s (suc m) n =
    let e : suc s + m ≡ s + suc m = omega arith in
    rw (suc-add m n, ← e) (ap (λ (l : List ℕ). s ∷ l) (numbers-parts (suc s) m n))

-- or the first n and the last.
pub numbers-last : (s n : ℕ) → numbers s (suc n) ≡ numbers s n ++ ((s + n) ∷ [])
unfolding numbers
numbers-last s n = let e : suc n ≡ n + 1 = omega arith in ap (numbers s) e ∙ numbers-parts s n 1
