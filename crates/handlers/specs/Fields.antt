-- A setter for each field of a machine: the machine with that field changed.
use Rattle.pic.specs.declared.Controller.{Controller}
use Rattle.counters.specs.declared.Counters.{Counters}
use Rattle.handlers_service.specs.declared.Service.{Service}
use Rattle.handlers.specs.declared.Machine.{Machine}

abbrev pub with_service : Machine → Service → Machine
with_service m v = record { service = v; counters = m.counters; controller = m.controller }

abbrev pub with_counters : Machine → Counters → Machine
with_counters m v = record { service = m.service; counters = v; controller = m.controller }

abbrev pub with_controller : Machine → Controller → Machine
with_controller m v = record { service = m.service; counters = m.counters; controller = v }
