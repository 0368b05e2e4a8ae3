-- The lines of a text.
use Rattle.std.specs.Prelude.{ℕ, zero, suc, cond, List, [], ◌∷◌, drop, eqb}

-- The place after the first n line feeds; the text's end where it has fewer.
unfoldable pub start_of : List ℕ → ℕ → ℕ
start_of [] n = 0
start_of (c ∷ text) zero = 0
start_of (c ∷ text) (suc n) = suc (start_of text (cond (eqb c 10) n (suc n)))

-- What stands before the first line feed; all where there is none.
unfoldable pub first_line : List ℕ → List ℕ
first_line [] = []
first_line (c ∷ text) = cond (eqb c 10) [] (c ∷ first_line text)

-- The line after the first n line feeds.
abbrev pub line_at : List ℕ → ℕ → List ℕ
line_at text n = first_line (drop (start_of text n) text)
