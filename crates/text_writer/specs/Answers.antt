-- What making a text of a record answers, and what it leaves in what it was lent.
use Rattle.std.specs.Prelude.{ℕ, Result, Ok, Err, List, [], ◌∷◌, length}
use Rattle.record.specs.Questions.{board_verdict}
use Rattle.record.specs.Answers.{Answer, done_with, refused_at, answer_by, stored}
use Rattle.record.specs.declared.Refused.{Refused}
use Rattle.questions.specs.Numbers.{number_of}
use Rattle.text_writer.specs.Writing.{text_of}

-- The numbers of each answer: the length, or the reader's refusal and its place.
abbrev pub text_numbers : Result ℕ Refused → Answer
text_numbers (Ok count) = done_with (count ∷ [])
text_numbers (Err r) = refused_at (number_of r.refusal) r.place

-- The length of the text; a refused record gives the reader's refusal and place.
abbrev pub to_text_answer : List ℕ → Answer
to_text_answer bytes = answer_by (board_verdict bytes) (length (text_of bytes) ∷ [])

-- The text fills the first bytes. The bytes beyond, and where the record is refused all of them, stay as they were.
abbrev pub to_text_bytes : List ℕ → List ℕ → List ℕ
to_text_bytes bytes text = stored (board_verdict bytes) (text_of bytes) text

-- The length of the text that was made, 0 where none was.
abbrev pub text_length : Result ℕ Refused → ℕ
text_length (Ok count) = count
text_length (Err r) = 0
