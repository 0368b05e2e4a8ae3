-- What a clock or an error hands back.
use Rattle.outcome.specs.declared.Outcome as whole
use Rattle.counters.specs.declared.Counters.{Counters}

abbrev pub Outcome : Type 0
Outcome = whole.Outcome Counters
