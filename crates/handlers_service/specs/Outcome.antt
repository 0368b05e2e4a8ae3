-- What an event of the handler service hands back.
use Rattle.outcome.specs.declared.Outcome as whole
use Rattle.handlers_service.specs.declared.Service.{Service}

abbrev pub Outcome : Type 0
Outcome = whole.Outcome Service
