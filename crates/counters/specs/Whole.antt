-- The counters together: power-on, when they are sound, a clock and an error.
use Rattle.std.specs.Prelude.{ℕ, Bool, ◌&&◌}
use Rattle.counters_timers.specs.declared.Timers.{Timers}
use Rattle.counters_timers.specs.Timers as timers
use Rattle.counters_errors.specs.declared.ErrorCounters.{ErrorCounters}
use Rattle.counters_errors.specs.Errors as errors
use Rattle.counters.specs.declared.Counters.{Counters}
use Rattle.counters.specs.Outcome.{Outcome}
use Rattle.outcome.specs.Outcomes.{accepted_with}

-- The counters with other timers, and with other error counters.
abbrev pub with_timers : Counters → Timers → Counters
with_timers c t = record { timers = t; errors = c.errors }

abbrev pub with_errors : Counters → ErrorCounters → Counters
with_errors c e = record { timers = c.timers; errors = e }

-- Document 02, No. 1: "Power-on sets these reset values."
abbrev pub reset_counters : Counters
reset_counters = record { timers = timers.reset_timers; errors = errors.reset_errors }

-- "A machine is sound only if each field added here or later is in its range too, with unused bits 0."
unfoldable pub sound_of : Counters → Bool
sound_of c = timers.timers_sound c.timers && errors.errors_sound c.errors

-- A clock is the timers', and is asked nothing; an error is the error counters', with their question.
abbrev pub clock_of : Counters → Outcome
clock_of c = accepted_with (with_timers c (timers.clock_of c.timers).timers) (timers.clock_of c.timers).answer

abbrev pub error_of : Counters → ℕ → Outcome
error_of c a =
    record {
      machine = with_errors c (errors.error_of c.errors a).machine;
      answer = (errors.error_of c.errors a).answer;
      refusal = (errors.error_of c.errors a).refusal;
    }
