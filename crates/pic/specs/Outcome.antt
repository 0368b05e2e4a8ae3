-- What an event of the controller hands back.
use Rattle.outcome.specs.declared.Outcome as whole
use Rattle.pic.specs.declared.Controller.{Controller}

abbrev pub Outcome : Type 0
Outcome = whole.Outcome Controller
