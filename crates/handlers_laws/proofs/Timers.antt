-- The timers in the machine: power-on and a clock.
use mathlib.Core.Path.{refl}
use Rattle.counters_timers.proofs.Clocks.{reset-each, clocked-each, no-other-bits}
use Rattle.counters.proofs.Soundness.{clock-keeps-errors}
use Rattle.handlers.specs.Machines.{power_on_of}
use Rattle.handlers.specs.Service.{clock_event, event_of}
use Rattle.handlers.specs.Calls.{clock_of}
use Rattle.handlers_laws.specs.Timers.{PowerOnResets, TimersClocked, TimersAlone, ClocksAlone}
use Rattle.handlers_laws.proofs.Cases.{of-kind}

pub power-on-resets : PowerOnResets
unfolding power_on_of
power-on-resets n i h = reset-each i h

pub timers-clocked : TimersClocked
unfolding clock_of clock_event
timers-clocked m e i h = let k = clocked-each m.counters.timers i h in record { accepts = rw e; timer = rw e k.timer; bit = rw e k.bit; no_more = rw e (no-other-bits m.counters.timers) }

pub clocks-alone : ClocksAlone
unfolding event_of clock_event
clocks-alone m head value k =
    of-kind m head value 10 (λ o. TimersAlone m o.machine) k (λ q. record { rest = refl; errors = refl })
    (record { rest = refl; errors = clock-keeps-errors m.counters })
