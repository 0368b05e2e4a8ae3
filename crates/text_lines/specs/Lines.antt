-- The lines of a text, and the two parts of a line.
use Rattle.std.specs.Prelude.{ℕ, cond, List, [], ◌∷◌, eqb}

-- The byte that ends a line.
abbrev pub line_feed : ℕ
line_feed = 10

-- The byte between head and value.
abbrev pub colon : ℕ
colon = 58

-- The bytes before the first such mark: all of them, where there is none.
unfoldable pub before : ℕ → List ℕ → List ℕ
before mark [] = []
before mark (byte ∷ text) = cond (eqb byte mark) [] (byte ∷ before mark text)

-- The bytes after it: none, where there is none.
unfoldable pub after : ℕ → List ℕ → List ℕ
after mark [] = []
after mark (byte ∷ text) = cond (eqb byte mark) text (after mark text)

-- A byte in front of the first line; where there is no line, it is one.
abbrev pub onto : ℕ → List (List ℕ) → List (List ℕ)
onto byte [] = (byte ∷ []) ∷ []
onto byte (line ∷ lines) = (byte ∷ line) ∷ lines

-- Lines end in a line feed; the last line's may be missing. A final line feed begins no further line.
unfoldable pub lines_in : List ℕ → List (List ℕ)
lines_in [] = []
lines_in (byte ∷ text) = cond (eqb byte line_feed) ([] ∷ lines_in text) (onto byte (lines_in text))
