-- Document 01, "Events and registers": the sources that the bits of a word stand for.
use Rattle.std.specs.Prelude.{ℕ, zero, suc, cond, List, set}
use Rattle.pic_source.specs.Sources.{is_source}
use Rattle.pic_bits.specs.Bits.{source_of}

-- Bits of no source are dropped. The array with the places of the first n bits of word x taking these values; `IsPlace-in` and `IsPlace-out` of the laws say what is at
-- each place.
unfoldable pub places_to : ℕ → List ℕ → ℕ → (ℕ → ℕ) → ℕ → List ℕ
places_to sources l x value zero = l
places_to sources l x value (suc n) =
    cond (is_source sources (source_of x n))
    (set (places_to sources l x value n) (source_of x n) (value n))
    (places_to sources l x value n)

abbrev pub places_of_word : ℕ → List ℕ → ℕ → (ℕ → ℕ) → List ℕ
places_of_word sources l x value = places_to sources l x value 32
