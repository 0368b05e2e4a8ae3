-- Pieces of a line, put one after the other.
use Rattle.std.specs.Prelude.{ℕ, List, [], ◌∷◌, ◌++◌}
use Rattle.digits.specs.declared.row.Piece.{Piece}
use Rattle.digits.specs.declared.row.Piece.TheVariants.{Text, Byte, Decimal, Hex}
use Rattle.digits.specs.Digits.{decimal, hexadecimal}
use Rattle.digits.specs.Put.{put_at, place_after}

-- The text of a piece,
abbrev pub piece_text : Piece → List ℕ
piece_text (Text text) = text.now
piece_text (Byte b) = b ∷ []
piece_text (Decimal n) = decimal n
piece_text (Hex least n) = hexadecimal least n

-- and those of pieces.
abbrev pub texts_of : List Piece → List (List ℕ)
texts_of [] = []
texts_of (piece ∷ pieces) = piece_text piece ∷ texts_of pieces

-- The buffer with each text, put at the place after the one before,
abbrev pub put_each : List ℕ → ℕ → List (List ℕ) → List ℕ
put_each buffer at [] = buffer
put_each buffer at (text ∷ texts) = put_each (put_at buffer at text) (place_after buffer at text) texts

-- and the place after the last.
abbrev pub place_after_each : List ℕ → ℕ → List (List ℕ) → ℕ
place_after_each buffer at [] = at
place_after_each buffer at (text ∷ texts) = place_after_each (put_at buffer at text) (place_after buffer at text) texts

-- A text with others behind it,
abbrev pub joined_behind : List ℕ → List (List ℕ) → List ℕ
joined_behind text [] = text
joined_behind text (next ∷ texts) = joined_behind (text ++ next) texts

-- and texts joined.
abbrev pub joined : List (List ℕ) → List ℕ
joined [] = []
joined (text ∷ texts) = joined_behind text texts
