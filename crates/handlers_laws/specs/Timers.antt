-- Document 02, No. 1, "Internal timers", of the whole machine: what is said of power-on and of a clock.
use Rattle.std.specs.Prelude.{ℕ, ◌/◌, ◌%◌, ◌^◌, ◌<◌, ◌≡◌, true}
use Rattle.event.specs.Kinds as kind
use Rattle.event.specs.Event.{kind_of}
use Rattle.counters_timers.specs.Timers.{timer_at, reset_timer, signal_bit, after_clock}
use Rattle.handlers.specs.declared.Machine.{Machine}
use Rattle.handlers.specs.Fields.{with_counters}
use Rattle.handlers.specs.Machines.{power_on_of, sound_of}
use Rattle.handlers.specs.Calls.{clock_of, step_of}

-- "Power-on sets these reset values", also with an N that it refuses.
abbrev pub PowerOnResets : Type 0
PowerOnResets = (n i : ℕ) → i < 2 → timer_at (power_on_of n).machine.counters.timers i ≡ reset_timer

-- "One statement covers both timers": a sound machine accepts every clock; after it timer i is what the rule of one timer says, and bit i of the answer is 1 just when
-- it signals. The answer has no other bits.
pub record TimerClocked (m : Machine) (i : ℕ) : Type 0 where
  pub accepts : (clock_of m).refusal ≡ 0
  pub timer : timer_at (clock_of m).machine.counters.timers i ≡ after_clock (timer_at m.counters.timers i)
  pub bit : (clock_of m).answer / 2 ^ i % 2 ≡ signal_bit (timer_at m.counters.timers i)
  pub no_more : (clock_of m).answer < 2 ^ 2

abbrev pub TimersClocked : Type 0
TimersClocked = (m : Machine) → sound_of m ≡ true → (i : ℕ) → i < 2 → TimerClocked m i

-- "A clock opens no handler": an event of kind 10, refused or not, changes nothing but the timers. Controller, mask, stack and error counters are as before, so claim,
-- pending and handlers are too.
pub record TimersAlone (before after : Machine) : Type 0 where
  pub rest : after ≡ with_counters before after.counters
  pub errors : after.counters.errors ≡ before.counters.errors

abbrev pub ClocksAlone : Type 0
ClocksAlone = (m : Machine) (head value : ℕ) → kind_of head ≡ kind.clock → TimersAlone m (step_of m head value).machine
