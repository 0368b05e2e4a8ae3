-- What making a record of a text answers, and what it leaves in what it was lent.
use Rattle.std.specs.Prelude.{ℕ, suc, Bool, cond, Result, Ok, Err, List, [], ◌∷◌, get_or, leb, eqb}
use Rattle.record.specs.Answers.{Answer, done_with, refused_at, write_answer, written_bytes}
use Rattle.questions.specs.Numbers.{number_of}
use Rattle.text_reader.specs.declared.NotRecord.{NotRecord}
use Rattle.text_reader.specs.declared.NotRecord.TheVariants as not_record
use Rattle.text_reader.specs.declared.Why.{Why}
use Rattle.text_reader.specs.declared.Why.TheVariants as why
use Rattle.text_reader.specs.declared.Event as of_row
use Rattle.text_reader.specs.declared.Fault as of_text
use Rattle.text_lines.specs.Rows.{rows_of}
use Rattle.text_reader.specs.Reading.{Event, Fault, fault, no_fault, why_not_sources, why_not_event, why_too_many, why_too_long, why_short_head, text_fault, sources_of_text, heads_of_text, values_of_text, numbers_of}

-- The number of each reason.
abbrev pub why_number : Why → ℕ
why_number why.NotSources = why_not_sources
why_number why.NotEvent = why_not_event
why_number why.TooMany = why_too_many
why_number why.TooLong = why_too_long
why_number why.ShortHead = why_short_head

-- What is read of a row: its head and value, or the number of the reason why it is bad.
pub data Read : Type 0 where
  good : ℕ → ℕ → Read
  bad : ℕ → Read

abbrev pub event_by : Result of_row.Event Why → Read
event_by (Ok event) = good event.head event.value
event_by (Err reason) = bad (why_number reason)

-- The same of what is found in it: a row that is no event is bad, and an event whose head does not have eight digits.
abbrev pub read_of : Event → Read
read_of event = cond event.ok (cond event.whole (good event.head event.value) (bad why_short_head)) (bad why_not_event)

-- The fault of what is read of a text, or of its rows.
abbrev pub fault_by : {A : Type 0} → Result A of_text.Fault → Fault
fault_by (Ok read) = no_fault
fault_by (Err found) = fault (why_number found.why) found.line

-- A fault of the text is answered with its line. Where there is none, the record's own questions are asked, and the writer answers;
-- beside its answer stands the line that a refusal is about, 0 where the record is made.
pub data LinesAnswer : Type 0 where
  faulty : Fault → LinesAnswer
  written : Answer → ℕ → LinesAnswer

-- The numbers of each answer: the length; the fault; or the refusal, its place and its line.
abbrev pub record_numbers : Result ℕ NotRecord → LinesAnswer
record_numbers (Ok count) = written (done_with (count ∷ [])) 0
record_numbers (Err (not_record.BadText found)) = faulty (fault (why_number found.why) found.line)
record_numbers (Err (not_record.Refused r row)) = written (refused_at (number_of r.refusal) r.place) row

-- The text has no fault.
abbrev pub is_well : List ℕ → Bool
is_well text = eqb (text_fault text).why 0

-- Questions 6, 27 and 7 are about the event at their place, whose row comes after that of N; those before them about N.
abbrev pub row_of_place : ℕ → ℕ → ℕ
row_of_place refusal place = cond (leb 6 refusal) (suc place) 0

-- The line that an answer of the writer is about.
abbrev pub line_of : List ℕ → Answer → ℕ
line_of text answer =
    cond (eqb answer.refusal 0) 0 (get_or (numbers_of (rows_of text)) (row_of_place answer.refusal answer.place) 0)

-- What the writer answers to what the text says.
abbrev pub writer_answer : List ℕ → ℕ → Answer
writer_answer text space = write_answer (sources_of_text text) (heads_of_text text) (values_of_text text) space

abbrev pub to_record_answer : List ℕ → ℕ → LinesAnswer
to_record_answer text space =
    cond (is_well text) (written (writer_answer text space) (line_of text (writer_answer text space))) (faulty (text_fault text))

-- The record fills the first bytes. The bytes beyond, and where the text is refused all of them, stay as they were.
abbrev pub to_record_bytes : List ℕ → List ℕ → List ℕ
to_record_bytes text bytes =
    cond (is_well text) (written_bytes (sources_of_text text) (heads_of_text text) (values_of_text text) bytes) bytes

-- The length of the record that was made, 0 where none was.
abbrev pub record_length : Result ℕ NotRecord → ℕ
record_length (Ok count) = count
record_length (Err none) = 0
