-- Document 01, "The record": what the reader and the writer answer, and what they leave in what they were lent.
use Rattle.std.specs.Prelude.{ℕ, Bool, cond, List, [], ◌∷◌, length, eqb, Result, Ok, Err}
use Rattle.questions.specs.Numbers.{number_of}
use Rattle.buffers.specs.Filled.{filled}
use Rattle.record.specs.declared.Limits.{Limits}
use Rattle.record.specs.Verdict.{Verdict}
use Rattle.record.specs.declared.Sizes.{Sizes}
use Rattle.record.specs.declared.Refused.{Refused}
use Rattle.record.specs.Record.{record_of, count_of, sources_of, heads_of, values_of, length_of}
use Rattle.record.specs.Questions.{read_verdict, write_verdict}

-- The refusal's number and place, and the values that are answered.
pub record Answer : Type 0 where
  pub refusal : ℕ
  pub place : ℕ
  pub values : List ℕ

-- Accepted: number 0.
abbrev pub done_with : List ℕ → Answer
done_with answers = record { refusal = 0; place = 0; values = answers }

-- Refused, they answer the number and a place, and no values.
abbrev pub refused_at : ℕ → ℕ → Answer
refused_at number at = record { refusal = number; place = at; values = [] }

-- Number and values of each answer of the reader: n and N, or number and place.
abbrev pub read_numbers : Result Sizes Refused → Answer
read_numbers (Ok sizes) = done_with (sizes.events ∷ sizes.sources ∷ [])
read_numbers (Err r) = refused_at (number_of r.refusal) r.place

-- Number and values of each answer of the writer: the length, or number and place.
abbrev pub write_numbers : Result ℕ Refused → Answer
write_numbers (Ok count) = done_with (count ∷ [])
write_numbers (Err r) = refused_at (number_of r.refusal) r.place

-- No question was answered no.
abbrev pub all_yes : Verdict → Bool
all_yes v = eqb v.refusal 0

-- What is answered after the questions.
abbrev pub answer_by : Verdict → List ℕ → Answer
answer_by v values = cond (all_yes v) (done_with values) (refused_at v.refusal v.place)

-- Refused, all of it stays as it was.
abbrev pub stored : Verdict → List ℕ → List ℕ → List ℕ
stored v new old = cond (all_yes v) (filled new old) old

-- The reader answers n and N,
abbrev pub read_answer : Limits → List ℕ → ℕ → ℕ → Answer
read_answer limits bytes head_places value_places =
    answer_by (read_verdict limits bytes head_places value_places) (count_of bytes ∷ sources_of bytes ∷ [])

-- and fills two lent arrays of numbers in their first n places.
abbrev pub read_heads : Limits → List ℕ → List ℕ → List ℕ → List ℕ
read_heads limits bytes heads values = stored (read_verdict limits bytes (length heads) (length values)) (heads_of bytes) heads

abbrev pub read_values : Limits → List ℕ → List ℕ → List ℕ → List ℕ
read_values limits bytes heads values = stored (read_verdict limits bytes (length heads) (length values)) (values_of bytes) values

-- The writer answers the length,
abbrev pub write_answer : ℕ → List ℕ → List ℕ → ℕ → Answer
write_answer sources heads values space =
    answer_by (write_verdict sources heads values space) (length_of (length heads) ∷ [])

-- and does the reverse.
abbrev pub written_bytes : ℕ → List ℕ → List ℕ → List ℕ → List ℕ
written_bytes sources heads values bytes =
    stored (write_verdict sources heads values (length bytes)) (record_of sources heads values) bytes
