-- The text of a record: N in its first row, then a row head:value for each event.
use Rattle.std.specs.Prelude.{ℕ, suc, ◌^◌, Bool, cond, not, ◌&&◌, List, [], ◌∷◌, map, length, get_or, drop, leb, eqb}
use Rattle.record.specs.Record.{most_events}
use Rattle.text_lines.specs.Lines.{colon, before, after, lines_in}
use Rattle.text_lines.specs.Rows.{trimmed, Row, rows_of}
use Rattle.text_lines.specs.Numbers.{is_number, number_in}
use Rattle.digits.specs.Digits.{number_of}

-- The first row: N in decimal, 1 to 3 digits.
abbrev pub is_sources : List ℕ → Bool
is_sources said = is_number 10 3 (trimmed said)

abbrev pub sources_in : List ℕ → ℕ
sources_in said = number_of 10 (trimmed said)

-- Each further row: head, a colon, value.
abbrev pub head_part : List ℕ → List ℕ
head_part said = trimmed (before colon said)

abbrev pub value_part : List ℕ → List ℕ
value_part said = trimmed (after colon said)

-- Each has 1 to 8 hexadecimal digits. A row with no colon has no value.
abbrev pub is_word : List ℕ → Bool
is_word = is_number 16 8

abbrev pub is_event : List ℕ → Bool
is_event said = is_word (head_part said) && is_word (value_part said)

-- A head has eight digits.
abbrev pub has_whole_head : List ℕ → Bool
has_whole_head said = eqb (length (head_part said)) 8

abbrev pub head_in : Row → ℕ
head_in row = number_of 16 (head_part row.said)

abbrev pub value_in : Row → ℕ
value_in row = number_of 16 (value_part row.said)

-- What is found in such a row: whether it is an event, whether its head has eight digits, and its head and value; of a part that is no number, 0.
pub record Event : Type 0 where
  pub ok : Bool
  pub whole : Bool
  pub head : ℕ
  pub value : ℕ

abbrev pub event_in : List ℕ → Event
event_in said =
    record {
      ok = (number_in 16 8 (head_part said)).ok && (number_in 16 8 (value_part said)).ok;
      whole = has_whole_head said;
      head = (number_in 16 8 (head_part said)).value;
      value = (number_in 16 8 (value_part said)).value;
    }

-- What is wrong with a text: why, and the number of the line. Nothing is 0 and 0.
pub record Fault : Type 0 where
  pub why : ℕ
  pub line : ℕ

abbrev pub fault : ℕ → ℕ → Fault
fault reason number = record { why = reason; line = number }

abbrev pub no_fault : Fault
no_fault = fault 0 0

-- Why, as a number. 1: the line is not N, one to three decimal digits.
abbrev pub why_not_sources : ℕ
why_not_sources = 1

abbrev pub not_sources : ℕ → Fault
not_sources = fault why_not_sources

-- 2: the line is not HEAD:VALUE in hexadecimal.
abbrev pub why_not_event : ℕ
why_not_event = 2

abbrev pub not_event : ℕ → Fault
not_event = fault why_not_event

-- 3: the line is that of an event more than 4,000, whatever it says.
abbrev pub why_too_many : ℕ
why_too_many = 3

abbrev pub too_many : ℕ → Fault
too_many = fault why_too_many

-- 4: the text has more than 1,048,576 bytes. That is of no line.
abbrev pub why_too_long : ℕ
why_too_long = 4

abbrev pub too_long : Fault
too_long = fault why_too_long 0

abbrev pub text_size : ℕ
text_size = 2 ^ 20

-- 5: the head has fewer than eight digits.
abbrev pub why_short_head : ℕ
why_short_head = 5

abbrev pub short_head : ℕ → Fault
short_head = fault why_short_head

-- The first fault of rows of events, of which k stand before them.
unfoldable pub events_fault : ℕ → List Row → Fault
events_fault k [] = no_fault
events_fault k (row ∷ rows) =
    cond (leb most_events k) (too_many row.number)
    (cond (not (is_event row.said)) (not_event row.number)
    (cond (not (has_whole_head row.said)) (short_head row.number)
    (events_fault (suc k) rows)))

-- The first fault of a text's rows. A text without a row has no N: it is missed in the line after the last.
abbrev pub rows_fault : ℕ → List Row → Fault
rows_fault next [] = not_sources next
rows_fault next (row ∷ rows) = cond (is_sources row.said) (events_fault 0 rows) (not_sources row.number)

-- The first fault of a text. Its size is asked first.
unfoldable pub text_fault : List ℕ → Fault
text_fault text = cond (leb (length text) text_size) (rows_fault (suc (length (lines_in text))) (rows_of text)) too_long

-- What a text says that has no fault: N is in its first row,
abbrev pub said_of : List Row → ℕ → List ℕ
said_of rows i = get_or (map (λ (row : Row). row.said) rows) i []

abbrev pub sources_of_text : List ℕ → ℕ
sources_of_text text = sources_in (said_of (rows_of text) 0)

-- and a head and a value in each row after it.
abbrev pub rows_of_events : List ℕ → List Row
rows_of_events text = drop 1 (rows_of text)

abbrev pub heads_of_text : List ℕ → List ℕ
heads_of_text text = map head_in (rows_of_events text)

abbrev pub values_of_text : List ℕ → List ℕ
values_of_text text = map value_in (rows_of_events text)

-- The numbers of the rows' lines.
abbrev pub numbers_of : List Row → List ℕ
numbers_of rows = map (λ (row : Row). row.number) rows
