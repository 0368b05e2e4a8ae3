-- Document 01, "Questions, first no decides": 1 to 7, reading and writing; document 02, No. 3: 22 and 23, reading; No. 8: 27, writing.
use Rattle.std.specs.Prelude.{ℕ, suc, Bool, ◌&&◌, cond, List, [], ◌∷◌, length, leb, eqb, Result, Ok, Err}
use Rattle.questions.specs.declared.Refusal.{Refusal}
use Rattle.questions.specs.Numbers.{number_of}
use Rattle.source_count.specs.Count.{is_count}
use Rattle.event.specs.Kinds as kind
use Rattle.event.specs.Event.{kind_of, is_kind, shape_of}
use Rattle.record.specs.declared.Limits.{Limits}
use Rattle.record.specs.declared.Refused.{Refused}
use Rattle.record.specs.Verdict.{Verdict}
use Rattle.record.specs.Record.{count_of, sources_of, heads_of, values_of, length_of, board, compact, most_events}

-- The number of the question that was answered no, and the place.
abbrev pub verdict : ℕ → ℕ → Verdict
verdict number at = record { refusal = number; place = at }

-- Every question was answered yes.
abbrev pub no_refusal : Verdict
no_refusal = verdict 0 0

-- A refusal whose place is 0.
abbrev pub at_0 : Refusal → Refused
at_0 r = record { refusal = r; place = 0 }

-- Number and place of each case: 0 and 0 where every question was answered yes.
abbrev pub verdict_in : Result Unit Refused → Verdict
verdict_in (Ok _) = no_refusal
verdict_in (Err r) = verdict (number_of r.refusal) r.place

-- First no decides: on yes the questions after this one are asked. For 1 to 5 the place is 0, and for 22 and 23 too.
abbrev pub question : ℕ → Bool → Verdict → Verdict
question number answer next = cond answer next (verdict number 0)

-- 1. Reading: is it at least 8 bytes?
abbrev pub holds_sizes : List ℕ → Bool
holds_sizes bytes = leb 8 (length bytes)

-- 22. Is N at most 63? With the limits of another reader: is it at most what that reader takes?
abbrev pub sources_taken : Limits → ℕ → Bool
sources_taken limits sources = leb sources limits.sources

-- 3. Is n at most 4,000?
abbrev pub count_in_range : ℕ → Bool
count_in_range n = leb n most_events

-- 23. Is n at most 500? With the limits of another reader: is it at most what that reader takes?
abbrev pub count_taken : Limits → ℕ → Bool
count_taken limits n = leb n limits.events

-- 5. Does the destination hold it all (reading: n places in each array)?
abbrev pub arrays_hold : ℕ → ℕ → ℕ → Bool
arrays_hold n head_places value_places = leb n head_places && leb n value_places

-- Document 02, No. 8, "Kind 7 retired": the event is of the kind that the writer no longer takes.
abbrev pub is_retired : ℕ → Bool
is_retired head = eqb (kind_of head) kind.chain

-- The check of an event that is read is 6 and 7. That of an event that is written: 6; "27 when the writer is given kind 7, after question 6 at that event"; then 7.
unfoldable pub write_shape_of : ℕ → ℕ → ℕ
write_shape_of head value = cond (is_kind (kind_of head)) (cond (is_retired head) 27 (shape_of head value)) 6

-- Questions 6 and 7 go event by event; the walk ends at the first event that fails a check and gives its index.
-- The check of an event, by its head and value, gives 0 or the number of the question that is answered no.
unfoldable pub walk_from : (ℕ → ℕ → ℕ) → ℕ → List ℕ → List ℕ → Verdict
walk_from check i [] values = no_refusal
walk_from check i (head ∷ heads) [] = no_refusal
walk_from check i (head ∷ heads) (value ∷ values) =
    cond (eqb (check head value) 0) (walk_from check (suc i) heads values) (verdict (check head value) i)

-- The index is from 0.
abbrev pub walk : (ℕ → ℕ → ℕ) → List ℕ → List ℕ → Verdict
walk check = walk_from check 0

-- Questions 1 to 7, reading: 22 is asked after question 2, and 23 after question 3. With the limits of the big reader both are always answered yes.
unfoldable pub read_verdict : Limits → List ℕ → ℕ → ℕ → Verdict
read_verdict limits bytes head_places value_places =
    question 1 (holds_sizes bytes)
    (question 2 (is_count (sources_of bytes))
    (question 22 (sources_taken limits (sources_of bytes))
    (question 3 (count_in_range (count_of bytes))
    (question 23 (count_taken limits (count_of bytes))
    (question 4 (eqb (length bytes) (length_of (count_of bytes)))
    (question 5 (arrays_hold (count_of bytes) head_places value_places)
    (walk shape_of (heads_of bytes) (values_of bytes))))))))

-- The same of arrays that have a place for each event that the reader takes.
abbrev pub verdict_within : Limits → List ℕ → Verdict
verdict_within limits bytes = read_verdict limits bytes limits.events limits.events

abbrev pub board_verdict : List ℕ → Verdict
board_verdict = verdict_within board

abbrev pub compact_verdict : List ℕ → Verdict
compact_verdict = verdict_within compact

-- Questions 2 to 7, writing: 4 is whether heads and values are equally many (n is the heads); 27 is asked after question 6 at an event.
unfoldable pub write_verdict : ℕ → List ℕ → List ℕ → ℕ → Verdict
write_verdict sources heads values space =
    question 2 (is_count sources)
    (question 3 (count_in_range (length heads))
    (question 4 (eqb (length heads) (length values))
    (question 5 (leb (length_of (length heads)) space)
    (walk write_shape_of heads values))))
