-- Document 01, "Events and registers": words of bits, and the sources that they stand for.
use Rattle.std.specs.Prelude.{ℕ, zero, suc, ◌+◌, ◌*◌, ◌/◌, ◌%◌, ◌^◌, ◌<◌, ◌≡◌, Bool, cond, List, eqb, get_or}
use Rattle.std.specs.Int.Count.{count_trailing_zeros}

-- Bit y of a word, 0 or 1.
abbrev pub bit_of : ℕ → ℕ → ℕ
bit_of v y = v / 2 ^ y % 2

-- Whether bit y of a word is set.
abbrev pub has_bit : ℕ → ℕ → Bool
has_bit v y = eqb (bit_of v y) 1

-- A word with no bit from y up, and bit y as it is asked for.
unfoldable pub join_of : ℕ → ℕ → Bool → ℕ
join_of w y on = cond on (w + 2 ^ y) w

-- A word made of bits: the first n of them. `BitOfWord` says that bit y of it is the bit that is asked for.
unfoldable pub word_to : (ℕ → Bool) → ℕ → ℕ
word_to on zero = 0
word_to on (suc n) = join_of (word_to on n) n (on n)

abbrev pub word_of_bits : (ℕ → Bool) → ℕ
word_of_bits on = word_to on 32

abbrev pub BitOfWord : Type 0
BitOfWord = (on : ℕ → Bool) (n y : ℕ) → y < n → bit_of (word_to on n) y ≡ cond (on y) 1 0

-- A word of n bits is what its bits make.
abbrev pub WordOfItsBits : Type 0
WordOfItsBits = (n w : ℕ) → w < 2 ^ n → w ≡ word_to (has_bit w) n

-- Bit Y of word X is source 32 × X + Y.
abbrev pub source_of : ℕ → ℕ → ℕ
source_of x y = 32 * x + y

-- Eight words have a bit for each number 0 to 255: the bit of s, and whether it is set.
abbrev pub member_of : List ℕ → ℕ → ℕ
member_of row s = bit_of (get_or row (s / 32) 0) (s % 32)

abbrev pub is_member : List ℕ → ℕ → Bool
is_member row s = eqb (member_of row s) 1

-- The lowest set bit of a word, 32 where it has none. `LowestIs` says so.
abbrev pub lowest_bit : ℕ → ℕ
lowest_bit w = count_trailing_zeros 32 w

-- Of the first k bits of w, t is the lowest that is set.
pub record Lowest (k w t : ℕ) : Type 0 where
  pub within : t < k
  pub on : bit_of w t ≡ 1
  pub below : (y : ℕ) → y < t → bit_of w y ≡ 0

abbrev pub LowestIs : Type 0
LowestIs = (w : ℕ) → 0 < w → w < 2 ^ 32 → Lowest 32 w (lowest_bit w)
