-- Numbers in a text: digits in ASCII, the greatest first, in either case.
use Rattle.std.specs.Prelude.{ℕ, Bool, true, false, cond, ◌&&◌, List, [], ◌∷◌, Option, Some, None, length, ltb, leb}
use Rattle.digits.specs.Digits.{digit_of, number_of}

-- Every byte is a digit in the base.
unfoldable pub all_digits : ℕ → List ℕ → Bool
all_digits base [] = true
all_digits base (byte ∷ text) = ltb (digit_of byte) base && all_digits base text

-- A number has one digit or more, at most so many.
abbrev pub is_number : ℕ → ℕ → List ℕ → Bool
is_number base most text = (leb 1 (length text) && leb (length text) most) && all_digits base text

-- What is found where a number is looked for: whether there is one, and the number; 0 where there is none.
pub record Number : Type 0 where
  pub ok : Bool
  pub value : ℕ

abbrev pub found : Bool → ℕ → Number
found good n = record { ok = good; value = n }

abbrev pub number_in : ℕ → ℕ → List ℕ → Number
number_in base most text = cond (is_number base most text) (found true (number_of base text)) (found false 0)

-- The same as the code answers it.
abbrev pub found_by : Option ℕ → Number
found_by (Some n) = found true n
found_by None = found false 0
