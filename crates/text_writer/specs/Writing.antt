-- The text that is made of a record.
use Rattle.std.specs.Prelude.{ℕ, List, [], ◌∷◌, ◌++◌}
use Rattle.digits.specs.Digits.{decimal, hexadecimal}
use Rattle.record.specs.Record.{sources_of, heads_of, values_of}
use Rattle.text_lines.specs.Lines.{line_feed, colon}

-- Every line ends in a line feed.
abbrev pub ended : List ℕ → List ℕ
ended line = line ++ line_feed ∷ []

-- Line 1: N in decimal, in the fewest digits.
abbrev pub sources_text : ℕ → List ℕ
sources_text = decimal

-- A line for each event: head in 8 lower-case hexadecimal digits, a colon, value in the fewest.
abbrev pub event_text : ℕ → ℕ → List ℕ
event_text head value = hexadecimal 8 head ++ colon ∷ hexadecimal 1 value

-- The four pieces of that line.
abbrev pub line_texts : ℕ → ℕ → List (List ℕ)
line_texts head value = hexadecimal 8 head ∷ (colon ∷ []) ∷ hexadecimal 1 value ∷ (line_feed ∷ []) ∷ []

unfoldable pub events_text : List ℕ → List ℕ → List ℕ
events_text [] values = []
events_text (head ∷ heads) [] = []
events_text (head ∷ heads) (value ∷ values) = ended (event_text head value) ++ events_text heads values

abbrev pub listing_of : ℕ → List ℕ → List ℕ → List ℕ
listing_of sources heads values = ended (sources_text sources) ++ events_text heads values

-- The text of a record.
abbrev pub text_of : List ℕ → List ℕ
text_of bytes = listing_of (sources_of bytes) (heads_of bytes) (values_of bytes)
