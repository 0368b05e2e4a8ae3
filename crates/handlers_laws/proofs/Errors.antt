-- The error counters in the machine: power-on, the questions of an event of kind 11, and an error.
use Prim.Native.Nat.{ℕ, ◌≤◌, ◌<◌}
use mathlib.Core.Path.{◌≡◌, refl}
use mathlib.Core.Bool.{Bool, true, false, cond}
use mathlib.Core.Logic.{◌⊎◌, inl, inr}
use native.Mathlib.Omega.{arith}
use lib.Dec.{eqb}
use Rattle.pic_source.proofs.Bools.{le-cases}
use Rattle.event.specs.Event.{address_of}
use Rattle.event.proofs.Laws.{error-shape}
use Rattle.counters_errors.specs.Errors.{may_count}
use Rattle.counters_errors.proofs.Counts.{reset-errors, error-again, counted-each, refused-above}
use Rattle.handlers.specs.declared.Machine.{Machine}
use Rattle.handlers.specs.Outcome.{Outcome}
use Rattle.handlers.specs.Machines.{power_on_of, sound_of}
use Rattle.handlers.specs.Service.{accepted, refused, ask, error_event, event_of, sound_step_of}
use Rattle.handlers.specs.Calls.{error_of, step_of}
use Rattle.handlers_laws.specs.Errors.{counter_in, with_counter, PowerOnNoErrors, ErrorQuestions, ErrorCounted, ErrorsCounted, ErrorsAlone}
use Rattle.handlers_laws.proofs.Cases.{of-kind, error-event}

pub power-on-no-errors : PowerOnNoErrors
unfolding power_on_of
power-on-no-errors n i = reset-errors i

pub error-questions : ErrorQuestions
unfolding step_of sound_step_of event_of
error-questions m head value e k = rw (e, error-shape head value k, k, error-event m (address_of head)) (go _ _ (eqb value 0) (may_count (address_of head)))
  where
    go : (n : Machine) (x : ℕ) (seven may : Bool)
        → (ask m (eqb (cond seven 0 7) 0) (cond seven 0 7) (ask m may 25 (accepted n x))).refusal ≡ cond seven (cond may 0 25) 7
    go n x true true = refl
    go n x true false = refl
    go n x false may = refl

-- Counter i is counted.
counted : (m : Machine) → sound_of m ≡ true → (i : ℕ) → i < 3 → ErrorCounted m i
unfolding error_of error_event
counted m e i h =
    let k = counted-each m.counters.errors i h in
    record { accepts = rw (e, k.accepts); counter = rw e k.counter; others = λ j l d. rw e (k.others j d) }

pub errors-counted : ErrorsCounted
unfolding error_of error_event
errors-counted m e = record { counts = counted m e; refuses = λ a h. rw (e, refused-above m.counters.errors a h) }

pub errors-alone : ErrorsAlone
unfolding event_of error_event
errors-alone m head value k = of-kind m head value 11 Alone k same (go (le-cases a 2))
  where
    a : ℕ
    a = address_of head

    Alone : Outcome → Type 0
    Alone o = o.machine ≡ with_counter m a (counter_in o.machine a)

    same : (q : ℕ) → Alone (refused m q)
    same q = rw (error-again m.counters.errors a)

    go : (a ≤ 2) ⊎ (2 < a) → Alone (error_event m a)
    go (inl l) = let f = counted-each m.counters.errors a (omega (arith, l)) in rw (f.counter, f.accepts)
    go (inr l) = rw (refused-above m.counters.errors a l) (same 25)
