-- A machine that was asked question 8 once. Every event keeps a sound machine sound, so that its events need not ask again.
use Rattle.std.specs.Prelude.{ℕ, cond}
use Rattle.handlers.specs.declared.Machine.{Machine}
use Rattle.handlers.specs.declared.Checked.{Checked}
use Rattle.handlers.specs.Outcome.{CheckedOutcome}
use Rattle.outcome.specs.Outcomes.{accepted_with, refused_with}
use Rattle.handlers.specs.Machines.{power_on_of, sound_of}
use Rattle.handlers.specs.Service.{sound_step_of}

abbrev pub checked : Machine → Checked
checked m = record { machine = m }

-- The machine that power-on hands back, with its refusal.
unfoldable pub start_of : ℕ → CheckedOutcome
start_of n = record { machine = checked (power_on_of n).machine; answer = 0; refusal = (power_on_of n).refusal }

-- 8. Is the machine sound? No: 8, and the machine of power-on with N 2 in its place.
unfoldable pub enter_of : Machine → CheckedOutcome
enter_of m =
    cond (sound_of m)
    (accepted_with (checked m) 0)
    (refused_with (checked (power_on_of 2).machine) 8)

-- An event with no question 8.
unfoldable pub checked_step_of : Checked → ℕ → ℕ → CheckedOutcome
checked_step_of c head value =
    record {
      machine = checked (sound_step_of c.machine head value).machine;
      answer = (sound_step_of c.machine head value).answer;
      refusal = (sound_step_of c.machine head value).refusal;
    }
