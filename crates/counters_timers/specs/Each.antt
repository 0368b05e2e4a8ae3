-- Document 02, No. 1: "One statement covers both timers." What is said of each timer by its number.
use Rattle.std.specs.Prelude.{ℕ, ◌/◌, ◌%◌, ◌^◌, ◌<◌, ◌≡◌}
use Rattle.counters_timers.specs.declared.Timers.{Timers}
use Rattle.counters_timers.specs.Timers.{timer_at, reset_timer, reset_timers, signal_bit, after_clock, clock_of}

-- Power-on leaves every timer with the reset values.
abbrev pub ResetEach : Type 0
ResetEach = (i : ℕ) → i < 2 → timer_at reset_timers i ≡ reset_timer

-- A clock does to timer i what the rule of one timer says of it, and bit i of the answer is 1 just when it signals.
pub record ClockedOne (t : Timers) (i : ℕ) : Type 0 where
  pub timer : timer_at (clock_of t).timers i ≡ after_clock (timer_at t i)
  pub bit : (clock_of t).answer / 2 ^ i % 2 ≡ signal_bit (timer_at t i)

abbrev pub ClockedEach : Type 0
ClockedEach = (t : Timers) (i : ℕ) → i < 2 → ClockedOne t i

-- The answer has no other bits.
abbrev pub NoOtherBits : Type 0
NoOtherBits = (t : Timers) → (clock_of t).answer < 2 ^ 2
