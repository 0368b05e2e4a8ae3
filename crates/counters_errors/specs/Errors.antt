-- Document 02, No. 5, "Error counters", and document 004, section 3.5: what the three error counters hold, and what an error does.
use Rattle.std.specs.Prelude.{ℕ, zero, suc, ◌+◌, ◌*◌, ◌/◌, ◌%◌, ◌^◌, Bool, cond, ◌&&◌, leb}
use Rattle.counters_errors.specs.declared.ErrorCounter.{ErrorCounter}
use Rattle.counters_errors.specs.declared.ErrorCounters.{ErrorCounters}
use Rattle.counters_errors.specs.Outcome.{Outcome}
use Rattle.outcome.specs.Outcomes.{accepted_with, refused_with}

-- "Bits 31:27 are the threshold, 26:0 the count." A counter is held as its register is read.
abbrev pub threshold_in : ErrorCounter → ℕ
threshold_in e = e.0 / 2 ^ 27

abbrev pub count_in : ErrorCounter → ℕ
count_in e = e.0 % 2 ^ 27

-- The counter of a threshold and a count.
abbrev pub counter_of : ℕ → ℕ → ErrorCounter
counter_of threshold count = record { 0 = threshold * 2 ^ 27 + count }

-- "A written threshold of 27 to 31 is held as 26, so its range is 0 to 26."
abbrev pub held_threshold : ℕ → ℕ
held_threshold t = cond (leb t 26) t 26

-- The counter where v is written.
unfoldable pub held_of : ℕ → ErrorCounter
held_of v = counter_of (held_threshold (v / 2 ^ 27)) (v % 2 ^ 27)

-- A threshold of 0 to 26 is in its range. The count is below 2^27 by its place, and no bit is unused.
unfoldable pub error_sound : ErrorCounter → Bool
error_sound e = leb (threshold_in e) 26

-- One error more. "After 2^27 − 1 comes 0." The threshold stays.
unfoldable pub counted : ErrorCounter → ErrorCounter
counted e = counter_of (threshold_in e) ((count_in e + 1) % 2 ^ 27)

-- The bit of the count that the threshold selects.
unfoldable pub selected_bit : ErrorCounter → ℕ
selected_bit e = count_in e / 2 ^ threshold_in e % 2

-- "0 to 2 in the order of those CSRs": the counter of a number, and the counters with another one of that number. A number of no counter reads 0 and is not written.
unfoldable pub error_at : ErrorCounters → ℕ → ErrorCounter
error_at c zero = c.micect
error_at c (suc zero) = c.miccmect
error_at c (suc (suc zero)) = c.mdccmect
error_at c (suc (suc (suc i))) = record { 0 = 0 }

unfoldable pub with_error : ErrorCounters → ℕ → ErrorCounter → ErrorCounters
with_error c zero e = record { micect = e; miccmect = c.miccmect; mdccmect = c.mdccmect }
with_error c (suc zero) e = record { micect = c.micect; miccmect = e; mdccmect = c.mdccmect }
with_error c (suc (suc zero)) e = record { micect = c.micect; miccmect = c.miccmect; mdccmect = e }
with_error c (suc (suc (suc i))) e = c

-- Power-on: document 004's tables 3-3 to 3-5 reset threshold and count to 0.
unfoldable pub reset_errors : ErrorCounters
reset_errors = record { micect = counter_of 0 0; miccmect = counter_of 0 0; mdccmect = counter_of 0 0 }

unfoldable pub errors_sound : ErrorCounters → Bool
errors_sound c = error_sound c.micect && error_sound c.miccmect && error_sound c.mdccmect

-- "25 when the address is above 2." A refused error answers 0 and leaves the counters as they were.
abbrev pub may_count : ℕ → Bool
may_count a = leb a 2

abbrev pub error_refused : ErrorCounters → Outcome
error_refused c = refused_with c 25

-- "Kind 11 counts one error in the counter that its address names." "The answer is 1 when the count bit that the threshold selects is 1 afterwards, else 0."
abbrev pub after_error : ErrorCounters → ℕ → ErrorCounter
after_error c i = counted (error_at c i)

abbrev pub error_counted : ErrorCounters → ℕ → Outcome
error_counted c i = accepted_with (with_error c i (after_error c i)) (selected_bit (after_error c i))

unfoldable pub error_of : ErrorCounters → ℕ → Outcome
error_of c a = cond (may_count a) (error_counted c a) (error_refused c)
