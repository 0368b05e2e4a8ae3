-- Document 02, No. 3: a reader with limits of its own beside the big one. What is proved of it.
use Rattle.std.specs.Prelude.{ℕ, Bool, ◌&&◌, not, cond, ◌≡◌, List, length, eqb}
use Rattle.event.specs.Event.{shape_of}
use Rattle.source_count.specs.Count.{is_count}
use Rattle.record.specs.declared.Limits.{Limits}
use Rattle.record.specs.Verdict.{Verdict}
use Rattle.record.specs.Record.{count_of, sources_of, heads_of, values_of, length_of}
use Rattle.record.specs.Questions.{verdict, question, holds_sizes, sources_taken, count_in_range, count_taken, arrays_hold, walk}
use Rattle.record.specs.Answers.{all_yes}

-- "The big player keeps 255 and 4,000": its reader asks 01's questions, and no others.
abbrev pub scope_verdict : List ℕ → ℕ → ℕ → Verdict
scope_verdict bytes head_places value_places =
    question 1 (holds_sizes bytes)
    (question 2 (is_count (sources_of bytes))
    (question 3 (count_in_range (count_of bytes))
    (question 4 (eqb (length bytes) (length_of (count_of bytes)))
    (question 5 (arrays_hold (count_of bytes) head_places value_places)
    (walk shape_of (heads_of bytes) (values_of bytes))))))

-- "22 when the van's reader meets N above 63, after question 2":
abbrev pub meets22 : Limits → List ℕ → Bool
meets22 limits bytes = holds_sizes bytes && is_count (sources_of bytes) && not (sources_taken limits (sources_of bytes))

-- "23 when it meets n above 500, after question 3":
abbrev pub meets23 : Limits → List ℕ → Bool
meets23 limits bytes =
    holds_sizes bytes && is_count (sources_of bytes) && sources_taken limits (sources_of bytes) && count_in_range (count_of bytes) && not (count_taken limits (count_of bytes))

-- The verdicts of a reader with limits and of the big one, on the same bytes.
pub record Beside (limits : Limits) (bytes : List ℕ) (own big : Verdict) : Type 0 where
  -- "Both with place 0"; it refuses as the big reader does otherwise.
  pub decides : own ≡ cond (meets22 limits bytes) (verdict 22 0) (cond (meets23 limits bytes) (verdict 23 0) big)
  -- It accepts just the records that the big one accepts and whose N and n it takes.
  pub accepts : all_yes own ≡ (all_yes big && (sources_taken limits (sources_of bytes) && count_taken limits (count_of bytes)))
  -- Where it refuses with neither 22 nor 23, or accepts, number and place are the big reader's.
  pub alike : (own.refusal ≡ 22 → ⊥) → (own.refusal ≡ 23 → ⊥) → own ≡ big
