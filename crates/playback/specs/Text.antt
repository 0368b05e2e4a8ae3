-- Numbers with a sign, as bytes.
use Rattle.std.specs.Prelude.{ℕ, Bool, true, false, List, ◌++◌}
use Rattle.digits.specs.Ascii.{ascii}
use Rattle.digits.specs.Digits.{decimal}

-- The sign of a number: a minus below 0, else nothing.
abbrev pub minus : Bool → List ℕ
minus true = ascii "-"
minus false = ascii ""

-- A number with its sign, in decimal: whether it is below 0, and how far it is from 0.
abbrev pub signed : Bool → ℕ → List ℕ
signed below size = minus below ++ decimal size
