-- What a line says: a comment, a carriage return at its end and the blanks around its parts are left out. The lines that say something, with their numbers.
use Rattle.std.specs.Prelude.{ℕ, zero, suc, ◌-◌, Bool, cond, ◌||◌, List, [], ◌∷◌, length, get_or, take, ltb, eqb}
use Rattle.text_lines.specs.Lines.{before, lines_in}

-- A line may end in a carriage return, which is left out.
abbrev pub carriage_return : ℕ
carriage_return = 13

abbrev pub last_of : List ℕ → ℕ
last_of line = get_or line (length line - 1) 0

unfoldable pub without_return : List ℕ → List ℕ
without_return line = cond (eqb (last_of line) carriage_return) (take (length line - 1) line) line

-- `#` begins a comment that goes to the end of its line.
abbrev pub comment_sign : ℕ
comment_sign = 35

-- What a line says.
unfoldable pub said_in : List ℕ → List ℕ
said_in line = before comment_sign (without_return line)

-- A blank or a tab.
abbrev pub is_blank : ℕ → Bool
is_blank byte = eqb byte 32 || eqb byte 9

-- The bytes from the first that is no blank on.
unfoldable pub without_lead : List ℕ → List ℕ
without_lead [] = []
without_lead (byte ∷ text) = cond (is_blank byte) (without_lead text) (byte ∷ text)

-- How many of the first n bytes are left without the blanks at their end.
unfoldable pub kept_of : List ℕ → ℕ → ℕ
kept_of text zero = 0
kept_of text (suc n) = cond (is_blank (get_or text n 0)) (kept_of text n) (suc n)

-- A part of a line without the blanks around it.
unfoldable pub trimmed : List ℕ → List ℕ
trimmed text = take (kept_of (without_lead text) (length (without_lead text))) (without_lead text)

-- A line says something where it is not all blank.
unfoldable pub says_any : List ℕ → Bool
says_any line = ltb 0 (length (without_lead (said_in line)))

-- A row: a line that says something. Its number is the one that an editor shows: every line of the text counts, from 1.
pub record Row : Type 0 where
  pub number : ℕ
  pub said : List ℕ

-- The rows among lines of which the first has number k.
unfoldable pub rows_from : ℕ → List (List ℕ) → List Row
rows_from k [] = []
rows_from k (line ∷ lines) =
    cond (says_any line) (record { number = k; said = said_in line } ∷ rows_from (suc k) lines) (rows_from (suc k) lines)

abbrev pub rows_of : List ℕ → List Row
rows_of text = rows_from 1 (lines_in text)
