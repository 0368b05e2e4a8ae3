-- A checked machine: power-on gives a sound one, and on a sound one its events are those of the rules, question 8 included.
use Prim.Native.Nat.{ℕ, ◌^◌, ◌<◌}
use mathlib.Core.Path.{◌≡◌, refl, ap}
use mathlib.Core.Bool.{true}
use Rattle.handlers.specs.Outcome.{Outcome}
use Rattle.handlers.specs.declared.Checked.{Checked}
use Rattle.handlers.specs.Outcome.{CheckedOutcome}
use Rattle.handlers.specs.Machines.{power_on_of, sound_of}
use Rattle.handlers.specs.Calls.{step_of}
use Rattle.handlers.specs.Checked.{start_of, checked_step_of}
use Rattle.outcome.specs.Outcomes.{answered_by}
use Rattle.handlers_laws.proofs.Kept.{step-sound}

-- What an event of a checked machine hands back, as one of the machine.
abbrev pub outcome_of : CheckedOutcome → Outcome
outcome_of o = record { machine = o.machine.machine; answer = o.answer; refusal = o.refusal }

pub checked-step : (c : Checked) (head value : ℕ) → sound_of c.machine ≡ true → outcome_of (checked_step_of c head value) ≡ step_of c.machine head value
unfolding checked_step_of step_of
checked-step c head value e = rw e

pub start-machine : (n : ℕ) → (start_of n).machine.machine ≡ (power_on_of n).machine
unfolding start_of
start-machine n = refl

pub start-refusal : (n : ℕ) → (start_of n).refusal ≡ (power_on_of n).refusal
unfolding start_of
start-refusal n = refl

-- Each event of a sound one leaves the machine that step leaves, sound again, and answers what step answers.
pub checked_steps : (c : Checked) (head value : ℕ) → sound_of c.machine ≡ true → (checked_step_of c head value).machine.machine ≡ (step_of c.machine head value).machine
checked_steps c head value r = ap (λ (o : Outcome). o.machine) (checked-step c head value r)

pub checked_keeps : (c : Checked) (head value : ℕ) → value < 2 ^ 32 → sound_of c.machine ≡ true → sound_of (checked_step_of c head value).machine.machine ≡ true
checked_keeps c head value small r = rw (checked_steps c head value r) (step-sound c.machine r head value small)

pub checked_answers : (c : Checked) (head value : ℕ) → sound_of c.machine ≡ true → answered_by (checked_step_of c head value) ≡ answered_by (step_of c.machine head value)
checked_answers c head value r = ap (λ (o : Outcome). answered_by o) (checked-step c head value r)
