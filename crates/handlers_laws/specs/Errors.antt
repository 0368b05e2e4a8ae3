-- Document 02, No. 5, "Error counters", of the whole machine: question 25, and what an error does.
use Rattle.std.specs.Prelude.{ℕ, ◌<◌, ◌≡◌, true, cond, eqb}
use Rattle.event.specs.Kinds as kind
use Rattle.event.specs.Event.{kind_of, address_of}
use Rattle.counters_errors.specs.declared.ErrorCounter.{ErrorCounter}
use Rattle.counters_errors.specs.Errors.{selected_bit, error_at, with_error, may_count, after_error}
use Rattle.counters_errors.specs.Each.{HasParts}
use Rattle.counters.specs.Whole.{with_errors}
use Rattle.handlers.specs.declared.Machine.{Machine}
use Rattle.handlers.specs.Fields.{with_counters}
use Rattle.handlers.specs.Machines.{power_on_of, sound_of}
use Rattle.handlers.specs.Service.{accepted, refused}
use Rattle.handlers.specs.Calls.{error_of, step_of}

-- Error counter i of a machine, and the machine with another counter i.
abbrev pub counter_in : Machine → ℕ → ErrorCounter
counter_in m i = error_at m.counters.errors i

abbrev pub with_counter : Machine → ℕ → ErrorCounter → Machine
with_counter m i e = with_counters m (with_errors m.counters (with_error m.counters.errors i e))

-- Power-on leaves threshold 0 and count 0 in each, also with an N that it refuses.
abbrev pub PowerOnNoErrors : Type 0
PowerOnNoErrors = (n i : ℕ) → HasParts (counter_in (power_on_of n).machine i) 0 0

-- "25 when the address is above 2, after question 7 when the event is played": a sound machine refuses an event of kind 11 with the first no of 7 and 25.
abbrev pub ErrorQuestions : Type 0
ErrorQuestions =
    (m : Machine) (head value : ℕ) → sound_of m ≡ true → kind_of head ≡ kind.error → (step_of m head value).refusal ≡ cond (eqb value 0) (cond (may_count (address_of head)) 0 25) 7

-- "One proof serves the three": an error in counter i of a sound machine is accepted. It is counted there, and nothing else changes; the answer is the bit of its
-- count that its threshold selects, afterwards. With any other number it is refused with 25.
pub record ErrorCounted (m : Machine) (i : ℕ) : Type 0 where
  pub accepts : error_of m i ≡ accepted (with_counter m i (after_error m.counters.errors i)) (selected_bit (after_error m.counters.errors i))
  pub counter : counter_in (error_of m i).machine i ≡ after_error m.counters.errors i
  pub others : (j : ℕ) → j < 3 → (j ≡ i → ⊥) → counter_in (error_of m i).machine j ≡ counter_in m j

pub record ErrorsCount (m : Machine) : Type 0 where
  pub counts : (i : ℕ) → i < 3 → ErrorCounted m i
  pub refuses : (a : ℕ) → 2 < a → error_of m a ≡ refused m 25

abbrev pub ErrorsCounted : Type 0
ErrorsCounted = (m : Machine) → sound_of m ≡ true → ErrorsCount m

-- An error opens no handler: an event of kind 11, refused or not, changes nothing but the counter that its address names. Controller, mask, stack, timers and the
-- other two counters are as before.
abbrev pub ErrorsAlone : Type 0
ErrorsAlone =
    (m : Machine) (head value : ℕ) → kind_of head ≡ kind.error
    → (step_of m head value).machine ≡ with_counter m (address_of head) (counter_in (step_of m head value).machine (address_of head))
