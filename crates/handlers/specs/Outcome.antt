-- What an event of the machine hands back, and one of a machine that was asked question 8 before.
use Rattle.outcome.specs.declared.Outcome as whole
use Rattle.handlers.specs.declared.Machine.{Machine}
use Rattle.handlers.specs.declared.Checked.{Checked}

abbrev pub Outcome : Type 0
Outcome = whole.Outcome Machine

abbrev pub CheckedOutcome : Type 0
CheckedOutcome = whole.Outcome Checked
