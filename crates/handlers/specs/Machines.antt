-- Document 01, "What a machine holds": the machine, power-on, and when it is sound. Document 02 adds the timers (No. 1) and the error counters (No. 5).
use Rattle.std.specs.Prelude.{ℕ, Bool, List, [], ◌∷◌}
use Rattle.pic_source.specs.Tests.{all_hold}
use Rattle.pic.specs.Sound as pic
use Rattle.pic.specs.Calls as calls
use Rattle.counters.specs.Whole as counters
use Rattle.handlers_stack.specs.declared.Handler.{Handler}
use Rattle.handlers_service.specs.Sound as service
use Rattle.handlers.specs.declared.Machine.{Machine}
use Rattle.handlers.specs.Outcome.{Outcome}

-- The uppermost handler, where there is one.
abbrev pub uppermost : Machine → Handler
uppermost m = service.uppermost m.service

-- Power-on with N sets all else to 0, the stack empty, and timers and error counters to their reset values. With an N that is refused it hands back the machine of N 2.
unfoldable pub power_on_of : ℕ → Outcome
power_on_of n =
    record {
      machine = record { service = service.no_handlers; counters = counters.reset_counters; controller = (calls.power_on_of n).machine };
      answer = 0;
      refusal = (calls.power_on_of n).refusal;
    }

-- A machine is sound (01's word) when: what is said of mask and stack holds, with this N and this current rank; the controller is sound; and "each field added here or
-- later is in its range too" (document 02, No. 1).
abbrev pub sound_tests : Machine → List Bool
sound_tests m =
    service.sound_of m.service (calls.source_count m.controller) (calls.current_rank m.controller)
    ∷ pic.sound_of m.controller
    ∷ counters.sound_of m.counters
    ∷ []

unfoldable pub sound_of : Machine → Bool
sound_of m = all_hold (sound_tests m)
