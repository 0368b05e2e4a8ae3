-- Numbers as text, in ASCII: the digits of a number, and the number that digits make.
use Rattle.std.specs.Prelude.{ℕ, zero, suc, ◌+◌, ◌*◌, ◌-◌, ◌/◌, ◌%◌, Bool, cond, ◌&&◌, List, [], ◌∷◌, ◌++◌, ltb, leb}

-- The sign of a digit below 16: 0 to 9, then a to f.
abbrev pub glyph : ℕ → ℕ
glyph d = cond (ltb d 10) (48 + d) (87 + d)

-- The digits of n in a base, the greatest first: the fewest that hold it, but at least so many, with zeros in front, and at most so many.
unfoldable pub digits_to : ℕ → ℕ → ℕ → ℕ → List ℕ
digits_to base least zero n = []
digits_to base least (suc most) n =
    cond (ltb n base && leb least 1) (glyph n ∷ []) (digits_to base (least - 1) most (n / base) ++ glyph (n % base) ∷ [])

-- A 64-bit number in decimal, in the fewest digits: twenty hold it.
abbrev pub decimal : ℕ → List ℕ
decimal = digits_to 10 1 20

-- A 32-bit number in hexadecimal, in at least so many digits: eight hold it.
abbrev pub hexadecimal : ℕ → ℕ → List ℕ
hexadecimal least = digits_to 16 least 8

-- A byte from low to high.
abbrev pub within : ℕ → ℕ → ℕ → Bool
within low high byte = leb low byte && leb byte high

-- The digit that a byte stands for: 0 to 9, a to f or A to F. For any other byte 16, which is a digit in no base.
unfoldable pub digit_of : ℕ → ℕ
digit_of byte =
    cond (within 48 57 byte) (byte - 48)
    (cond (within 97 102 byte) (byte - 87)
    (cond (within 65 70 byte) (byte - 55)
    16))

-- The number that digits make after those that make n.
unfoldable pub number_after : ℕ → ℕ → List ℕ → ℕ
number_after base n [] = n
number_after base n (byte ∷ text) = number_after base (n * base + digit_of byte) text

-- The number that digits make.
abbrev pub number_of : ℕ → List ℕ → ℕ
number_of base = number_after base 0
