-- Document 02, No. 5: "One proof serves the three." What is said of one error counter, and of each of the three by its number.
use Rattle.std.specs.Prelude.{ℕ, zero, suc, ◌+◌, ◌-◌, ◌*◌, ◌/◌, ◌%◌, ◌^◌, ◌≤◌, ◌<◌, ◌≡◌}
use Rattle.counters_errors.specs.declared.ErrorCounter.{ErrorCounter}
use Rattle.counters_errors.specs.declared.ErrorCounters.{ErrorCounters}
use Rattle.counters_errors.specs.Errors.{threshold_in, count_in, counter_of, held_of, counted, selected_bit, error_at, reset_errors, after_error, error_refused, error_counted, error_of}

-- A counter has the threshold and the count that it was made of, and no other counter has them.
pub record HasParts (e : ErrorCounter) (t n : ℕ) : Type 0 where
  pub threshold : threshold_in e ≡ t
  pub count : count_in e ≡ n

pub record Parts : Type 0 where
  pub made : (t n : ℕ) → n < 2 ^ 27 → HasParts (counter_of t n) t n
  pub again : (e : ErrorCounter) → counter_of (threshold_in e) (count_in e) ≡ e

-- Power-on leaves every error counter with threshold 0 and count 0.
abbrev pub ResetErrors : Type 0
ResetErrors = (i : ℕ) → HasParts (error_at reset_errors i) 0 0

-- What is written: the count of the value; its threshold if that is 0 to 26, and 26 for one of 27 to 31.
pub record HeldOne (v : ℕ) : Type 0 where
  pub count : count_in (held_of v) ≡ v % 2 ^ 27
  pub kept : v / 2 ^ 27 ≤ 26 → threshold_in (held_of v) ≡ v / 2 ^ 27
  pub mapped : 27 ≤ v / 2 ^ 27 → threshold_in (held_of v) ≡ 26

abbrev pub HeldEach : Type 0
HeldEach = (v : ℕ) → HeldOne v

-- One error in a counter: the threshold stays, and the count goes up by one; "after 2^27 − 1 comes 0".
pub record Counts (e : ErrorCounter) : Type 0 where
  pub threshold : threshold_in (counted e) ≡ threshold_in e
  pub goes-up : count_in e < 2 ^ 27 - 1 → count_in (counted e) ≡ count_in e + 1
  pub wraps : count_in e ≡ 2 ^ 27 - 1 → count_in (counted e) ≡ 0

abbrev pub CountsEach : Type 0
CountsEach = (e : ErrorCounter) → Counts e

-- "The answer is 1 when the count bit that the threshold selects is 1 afterwards, else 0." With threshold t that is told by the count afterwards modulo 2^(t + 1):
-- 0 where it is below 2^t, 1 where it is 2^t or more.
pub record Answers (e : ErrorCounter) : Type 0 where
  pub zeros : count_in (counted e) % 2 ^ (threshold_in e + 1) < 2 ^ threshold_in e → selected_bit (counted e) ≡ 0
  pub ones : 2 ^ threshold_in e ≤ count_in (counted e) % 2 ^ (threshold_in e + 1) → selected_bit (counted e) ≡ 1

abbrev pub AnswersEach : Type 0
AnswersEach = (e : ErrorCounter) → Answers e

-- A counter after errors in a row.
abbrev pub after_errors : ℕ → ErrorCounter → ErrorCounter
after_errors zero e = e
after_errors (suc i) e = counted (after_errors i e)

-- What error number i, counted from 1, answers in a counter that had threshold t and count 0; for 0 the bit before them.
abbrev pub answer_to : ℕ → ℕ → ℕ
answer_to t i = selected_bit (after_errors i (counter_of t 0))

-- So the answers come in runs: errors 1 to 2^t − 1 answer 0, the next 2^t answer 1, the next 2^t answer 0, and so on, also after the count has come to 0 again. (Document 004 says
-- of the signal that "it stays pending for 2^thresh errors".)
pub record Runs (t : ℕ) : Type 0 where
  pub zeros : (k j : ℕ) → j < 2 ^ t → answer_to t (2 * k * 2 ^ t + j) ≡ 0
  pub ones : (k j : ℕ) → j < 2 ^ t → answer_to t ((2 * k + 1) * 2 ^ t + j) ≡ 1

abbrev pub AnswersInRuns : Type 0
AnswersInRuns = (t : ℕ) → t ≤ 26 → Runs t

-- One error in counter i: it is counted there, the other two stay, and the answer is the counter's bit afterwards.
pub record CountedOne (c : ErrorCounters) (i : ℕ) : Type 0 where
  pub accepts : error_of c i ≡ error_counted c i
  pub counter : error_at (error_of c i).machine i ≡ after_error c i
  pub others : (j : ℕ) → (j ≡ i → ⊥) → error_at (error_of c i).machine j ≡ error_at c j

abbrev pub CountedEach : Type 0
CountedEach = (c : ErrorCounters) (i : ℕ) → i < 3 → CountedOne c i

-- With any other number it is refused, and nothing is counted.
abbrev pub RefusedAbove : Type 0
RefusedAbove = (c : ErrorCounters) (a : ℕ) → 2 < a → error_of c a ≡ error_refused c
