-- Document 01, "The player": "Record with N 4 and ten events, head:value in hexadecimal".
use Rattle.std.specs.Prelude.{ℕ, List, [], ◌∷◌}

-- N 4.
abbrev pub listing_sources : ℕ
listing_sources = 4

-- The heads of the ten events: store, store, sample, take, set mask, take, open, return, set mask, return.
abbrev pub listing_heads : List ℕ
listing_heads =
    0x00022008
    ∷ 0x00020008
    ∷ 0x00000000
    ∷ 0x00050000
    ∷ 0x00090000
    ∷ 0x00050000
    ∷ 0x00060000
    ∷ 0x00080000
    ∷ 0x00090000
    ∷ 0x00080000
    ∷ []

-- Their values.
abbrev pub listing_values : List ℕ
listing_values = 1 ∷ 5 ∷ 4 ∷ 0 ∷ 1 ∷ 0 ∷ 0 ∷ 0 ∷ 0 ∷ 0 ∷ []
