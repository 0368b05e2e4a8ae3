-- What an error hands back.
use Rattle.outcome.specs.declared.Outcome as whole
use Rattle.counters_errors.specs.declared.ErrorCounters.{ErrorCounters}

abbrev pub Outcome : Type 0
Outcome = whole.Outcome ErrorCounters
