-- The digits of a number are signs of digits below the base, and there is one at least.
use Prim.Native.Nat.{ℕ, zero, suc, ◌-◌, ◌/◌, ◌%◌, ◌<◌}
use native.Mathlib.Omega.{arith}
use native.Mathlib.Nat.{mod-lt}
use borrow.Author.Tests.{ltb-true}
use mathlib.Core.Path.{◌≡◌, refl}
use mathlib.Core.Bool.{Bool, true, false, ◌&&◌, cond}
use mathlib.Core.List.{List, [], ◌∷◌, ◌++◌}
use lib.ListN.{length, length-append}
use lib.Dec.{ltb, leb}
use Rattle.digits.specs.Digits.{glyph, digits_to}

-- Each is the sign of a digit below the base.
pub data Signs (base : ℕ) : List ℕ → Type 0 where
  none : Signs base []
  more : {sign : ℕ} {signs : List ℕ} (d : ℕ) → sign ≡ glyph d → d < base → Signs base signs → Signs base (sign ∷ signs)

signs-append : (base : ℕ) {xs ys : List ℕ} → Signs base xs → Signs base ys → Signs base (xs ++ ys)
signs-append base none ys = ys
signs-append base (more d e h xs) ys = more d e h (signs-append base xs ys)

pub digits-signs : (base least most n : ℕ) → 0 < base → Signs base (digits_to base least most n)
unfolding digits_to
digits-signs base least zero n b = none
digits-signs base least (suc most) n b = by-case (ltb n base) (leb least 1) refl (digits-signs base (least - 1) most (n / base) b)
  where
    before : List ℕ
    before = digits_to base (least - 1) most (n / base)

    ends : Signs base before → Signs base (before ++ glyph (n % base) ∷ [])
    ends s = signs-append base s (more (n % base) refl (mod-lt n b) none)

    by-case : (x y : Bool) → ltb n base ≡ x → Signs base before → Signs base (cond (x && y) (glyph n ∷ []) (before ++ glyph (n % base) ∷ []))
    by-case true true e s = more n refl (ltb-true n base e) none
    by-case true false e s = ends s
    by-case false y e s = ends s

pub digits-some : (base least most n : ℕ) → 0 < most → 0 < length (digits_to base least most n)
unfolding digits_to
digits-some base least zero n h = absurd (omega arith)
digits-some base least (suc most) n h = by-case (ltb n base && leb least 1)
  where
    before : List ℕ
    before = digits_to base (least - 1) most (n / base)

    by-case : (x : Bool) → 0 < length (cond x (glyph n ∷ []) (before ++ glyph (n % base) ∷ []))
    by-case true = omega arith
    by-case false = rw (length-append before (glyph (n % base) ∷ [])) (omega arith)
