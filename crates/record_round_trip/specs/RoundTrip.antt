-- Document 01, "The record": "the writer does the reverse". A record written and read, and one read and written.
-- Where the first call refuses, its number and place are the answer, and nothing is left of the second.
use Rattle.std.specs.Prelude.{cond, ℕ, ◌≤◌, ◌≡◌, List, [], ◌∷◌, length}
use Rattle.buffers.specs.Filled.{filled}
use Rattle.record.specs.declared.Limits.{Limits}
use Rattle.record.specs.Verdict.{Verdict}
use Rattle.record.specs.Record.{record_of, sources_of, heads_of, values_of}
use Rattle.record.specs.Questions.{read_verdict, write_verdict}
use Rattle.record.specs.Retired.{NoneRetired, FirstRetired}
use Rattle.record.specs.Answers.{Answer, done_with, refused_at, all_yes, read_answer, read_heads, read_values, write_answer, written_bytes}

-- The second call's answer, unless the first refused.
abbrev pub then_answer : Verdict → Answer → Answer
then_answer v second = cond (all_yes v) second (refused_at v.refusal v.place)

-- What the second call leaves, unless the first refused.
abbrev pub then_leaves : Verdict → List ℕ → List ℕ → List ℕ
then_leaves v second old = cond (all_yes v) second old

-- Written, then read by a reader with these limits.
abbrev pub write_read_answer : Limits → ℕ → List ℕ → List ℕ → ℕ → ℕ → ℕ → Answer
write_read_answer limits sources heads values space head_places value_places =
    then_answer (write_verdict sources heads values space) (read_answer limits (record_of sources heads values) head_places value_places)

abbrev pub write_read_heads : Limits → ℕ → List ℕ → List ℕ → ℕ → List ℕ → List ℕ → List ℕ
write_read_heads limits sources heads values space heads_back values_back =
    then_leaves (write_verdict sources heads values space) (read_heads limits (record_of sources heads values) heads_back values_back) heads_back

abbrev pub write_read_values : Limits → ℕ → List ℕ → List ℕ → ℕ → List ℕ → List ℕ → List ℕ
write_read_values limits sources heads values space heads_back values_back =
    then_leaves (write_verdict sources heads values space) (read_values limits (record_of sources heads values) heads_back values_back) values_back

-- For everything the writer accepts, reading what it wrote, where the arrays have n places, returns n, N, heads and values.
abbrev pub ReadsBack : ℕ → List ℕ → List ℕ → ℕ → List ℕ → List ℕ → Answer → List ℕ → List ℕ → Type 0
ReadsBack sources heads values space heads_back values_back answer heads_exit values_exit =
    (write_verdict sources heads values space).refusal ≡ 0
    → length heads ≤ length heads_back
    → length heads ≤ length values_back
    → (answer ≡ done_with (length heads ∷ sources ∷ [])) × (heads_exit ≡ filled heads heads_back) × (values_exit ≡ filled values values_back)

-- Read by a reader with these limits, then written.
abbrev pub read_write_answer : Limits → List ℕ → ℕ → ℕ → ℕ → Answer
read_write_answer limits bytes head_places value_places space =
    then_answer (read_verdict limits bytes head_places value_places) (write_answer (sources_of bytes) (heads_of bytes) (values_of bytes) space)

abbrev pub read_write_bytes : Limits → List ℕ → ℕ → ℕ → List ℕ → List ℕ
read_write_bytes limits bytes head_places value_places back =
    then_leaves (read_verdict limits bytes head_places value_places) (written_bytes (sources_of bytes) (heads_of bytes) (values_of bytes) back) back

-- For everything the reader accepts, writing what it read, where there is room, returns the same bytes: document 02, No. 8, "the return trip of bytes holds for records
-- without kind 7". With one, the writer refuses with 27 at the first, and the bytes stay as they were.
abbrev pub WritesBack : Limits → List ℕ → ℕ → ℕ → List ℕ → Answer → List ℕ → Type 0
WritesBack limits bytes head_places value_places back answer back_exit =
    (read_verdict limits bytes head_places value_places).refusal ≡ 0
    → length bytes ≤ length back
    → (NoneRetired (heads_of bytes) → (answer ≡ done_with (length bytes ∷ [])) × (back_exit ≡ filled bytes back))
    × ((p : ℕ) → FirstRetired (heads_of bytes) p → (answer ≡ refused_at 27 p) × (back_exit ≡ back))

-- Document 02, No. 3. For everything the writer accepts, where a reader takes N and n, that reader returns n, N, heads and values too.
abbrev pub ReadsBackWithin : Limits → ℕ → List ℕ → List ℕ → ℕ → List ℕ → List ℕ → Type 0
ReadsBackWithin limits sources heads values space heads_back values_back =
    sources ≤ limits.sources
    → length heads ≤ limits.events
    → ReadsBack sources heads values space heads_back values_back
    (read_answer limits (record_of sources heads values) (length heads_back) (length values_back))
    (read_heads limits (record_of sources heads values) heads_back values_back)
    (read_values limits (record_of sources heads values) heads_back values_back)
