-- A setter for each field of the handler service, and for two of a handler's: the service or the handler with that field changed.
use Rattle.std.specs.Prelude.{ℕ, List}
use Rattle.handlers_stack.specs.declared.Handler.{Handler}
use Rattle.handlers_service.specs.declared.Service.{Service}

abbrev pub with_mask : Service → ℕ → Service
with_mask s v = record { mask = v; depth = s.depth; stack = s.stack }

abbrev pub with_depth : Service → ℕ → Service
with_depth s v = record { mask = s.mask; depth = v; stack = s.stack }

abbrev pub with_stack : Service → List Handler → Service
with_stack s v = record { mask = s.mask; depth = s.depth; stack = v }

abbrev pub with_source : Handler → ℕ → Handler
with_source h v = record { source = v; rank = h.rank; saved = h.saved; opened = h.opened }

abbrev pub with_opened : Handler → ℕ → Handler
with_opened h v = record { source = h.source; rank = h.rank; saved = h.saved; opened = v }
