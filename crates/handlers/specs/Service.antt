-- Document 01, "Handler service", and the questions 12 to 21; document 02, No. 1, No. 4, No. 5 and No. 7: what each event does and answers, once question 8 is answered yes. The rules are
-- total: on a machine that is not sound they say what the code does, and question 8 keeps that from every caller.
use Rattle.std.specs.Prelude.{ℕ, Bool, cond, eqb}
use Rattle.event.specs.Kinds as kind
use Rattle.event.specs.Event.{kind_of, address_of, shape_of}
use Rattle.pic.specs.declared.Look.{Look}
use Rattle.pic.specs.declared.Controller.{Controller}
use Rattle.pic.specs.Outcome as controller
use Rattle.pic.specs.Calls.{priority_order, current_rank, set_current, capture_of, look_of}
use Rattle.pic_registers.specs.Calls as registers
use Rattle.pic_csrs.specs.Calls as csrs
use Rattle.outcome.specs.Outcomes.{accepted_with, refused_with}
use Rattle.counters.specs.Outcome as counted
use Rattle.counters.specs.Whole as whole
use Rattle.counters.specs.Csrs as counters
use Rattle.handlers_service.specs.Outcome as handler
use Rattle.handlers_service.specs.Events as service
use Rattle.handlers_questions.specs.Questions as questions
use Rattle.handlers.specs.declared.Machine.{Machine}
use Rattle.handlers.specs.Outcome.{Outcome}
use Rattle.handlers.specs.Fields.{with_controller, with_service, with_counters}
use Rattle.handlers.specs.Machines.{uppermost}

-- An accepted event hands back a machine and its answer, with no refusal.
abbrev pub accepted : Machine → ℕ → Outcome
accepted m a = accepted_with m a

-- A refused event answers 0 and the number, and leaves the machine as it was.
abbrev pub refused : Machine → ℕ → Outcome
refused m q = refused_with m q

-- A question: no is the refusal q, yes goes on.
abbrev pub ask : Machine → Bool → ℕ → Outcome → Outcome
ask m answer q on = cond answer on (refused m q)

-- What the controller answers to an event of its own, with the controller that it hands back.
abbrev pub lifted : Machine → controller.Outcome → Outcome
lifted m o = record { machine = with_controller m o.machine; answer = o.answer; refusal = o.refusal }

-- Sample, load: the controller's own questions.
unfoldable pub sample_event : Machine → ℕ → ℕ → Outcome
sample_event m x v = lifted m (registers.sample_of m.controller x v)

unfoldable pub load_event : Machine → ℕ → Outcome
load_event m offset = lifted m (registers.load_of m.controller offset)

-- Document 02, No. 4: "24 when a store to 0x3000 would change priord while a handler is open".
abbrev pub switches : Machine → ℕ → ℕ → Bool
switches m offset v = questions.switches offset v (priority_order m.controller)

abbrev pub may_store : Machine → ℕ → ℕ → Bool
may_store m offset v = questions.may_store offset v (priority_order m.controller) m.service.depth

-- Store: 24 and the controller's own. 24 is asked of 0x3000 alone, to which 10 and 11 answer yes, so its place after them is the same (`StoreQuestions`).
unfoldable pub store_event : Machine → ℕ → ℕ → Outcome
store_event m offset v = ask m (may_store m offset v) 24 (lifted m (registers.store_of m.controller offset v))

-- "Questions 6 and 12 widen": a CSR of the counters, which are the timers and the error counters, is read and written there; any other address is the controller's,
-- which asks 12.
abbrev pub of_counters : ℕ → Bool
of_counters a = counters.is_csr (counters.csr_at a)

unfoldable pub csr_read_event : Machine → ℕ → Outcome
csr_read_event m a = cond (of_counters a) (accepted m (counters.csr_value m.counters (counters.csr_at a))) (lifted m (csrs.csr_read_of m.controller a))

-- 14. Write to 0xBCC: is no handler open?
abbrev pub may_write : Machine → ℕ → Bool
may_write m a = questions.may_write a m.service.depth

-- A write to a CSR of the controller: 14 and the controller's own. 14 is asked of 0xBCC alone, to which 12 and 13 answer yes, so its place among them is the
-- same.
unfoldable pub controller_write : Machine → ℕ → ℕ → Outcome
controller_write m a v = ask m (may_write m a) 14 (lifted m (csrs.csr_write_of m.controller a v))

-- CSR write. 13 and 14 are asked of no CSR of the counters.
unfoldable pub csr_write_event : Machine → ℕ → ℕ → Outcome
csr_write_event m a v =
    cond (of_counters a) (accepted (with_counters m (counters.csr_written m.counters (counters.csr_at a) v)) 0) (controller_write m a v)

-- One look at the controller.
abbrev pub look_at : Machine → Look
look_at m = look_of m.controller

-- What the handler service answers. An accepted event leaves the service that it hands back, and this controller; a refused one leaves the machine as it was.
abbrev pub served_with : Machine → handler.Outcome → Controller → Outcome
served_with m o c = cond (eqb o.refusal 0) (accepted (with_controller (with_service m o.machine) c) o.answer) (refused m o.refusal)

-- The controller with its winner captured.
abbrev pub captured_in : Machine → Controller
captured_in m = capture_of m.controller (look_at m).winner

abbrev pub captured : Machine → Machine
captured m = with_controller m (captured_in m)

-- Take: capture.
unfoldable pub take_event : Machine → Outcome
take_event m = served_with m (service.take_of m.service (look_at m) (current_rank m.controller)) (captured_in m)

-- Open: current takes the uppermost's rank.
unfoldable pub open_event : Machine → Outcome
open_event m = served_with m (service.open_of m.service) (set_current m.controller (uppermost m).rank)

-- Chain: capture.
unfoldable pub chain_event : Machine → Outcome
chain_event m = served_with m (service.chain_of m.service (look_at m)) (captured_in m)

-- Return: current takes the saved rank.
unfoldable pub return_event : Machine → Outcome
return_event m = served_with m (service.return_of m.service) (set_current m.controller (uppermost m).saved)

-- Set mask: the controller stays as it is.
unfoldable pub set_mask_event : Machine → ℕ → Outcome
set_mask_event m v = served_with m (service.set_mask_of m.service v) m.controller

-- What the counters answer to a clock or an error, with the counters that they hand back.
abbrev pub counted_in : Machine → counted.Outcome → Outcome
counted_in m o = record { machine = with_counters m o.machine; answer = o.answer; refusal = o.refusal }

-- Clock: it is asked nothing more, and changes the timers alone. Answer: bit 0 for timer 0, bit 1 for timer 1.
unfoldable pub clock_event : Machine → Outcome
clock_event m = counted_in m (whole.clock_of m.counters)

-- Error: one error in the counter that the address names, which the counters ask 25. Answer: the bit of the count that the threshold selects, afterwards.
unfoldable pub error_event : Machine → ℕ → Outcome
error_event m a = counted_in m (whole.error_of m.counters a)

-- Document 02, No. 7. Look: it "changes nothing, with no capture".
unfoldable pub look_event : Machine → Outcome
look_event m = served_with m (service.look_of m.service (look_at m)) m.controller

-- Commit: "it captures".
unfoldable pub commit_event : Machine → ℕ → Outcome
commit_event m s = served_with m (service.commit_of m.service (look_at m) s) (captured_in m)

-- An event by its kind. A kind that there is not is refused with 6.
unfoldable pub event_of : Machine → ℕ → ℕ → ℕ → Outcome
event_of m k address value =
    cond (eqb k kind.sample) (sample_event m address value)
    (cond (eqb k kind.load) (load_event m address)
    (cond (eqb k kind.store) (store_event m address value)
    (cond (eqb k kind.csr_read) (csr_read_event m address)
    (cond (eqb k kind.csr_write) (csr_write_event m address value)
    (cond (eqb k kind.take) (take_event m)
    (cond (eqb k kind.open_handler) (open_event m)
    (cond (eqb k kind.chain) (chain_event m)
    (cond (eqb k kind.return) (return_event m)
    (cond (eqb k kind.set_mask) (set_mask_event m value)
    (cond (eqb k kind.clock) (clock_event m)
    (cond (eqb k kind.error) (error_event m address)
    (cond (eqb k kind.look) (look_event m)
    (cond (eqb k kind.commit) (commit_event m address)
    (refused m 6))))))))))))))

-- An event on a machine that is known to be sound: 6 and 7, then its kind's.
unfoldable pub sound_step_of : Machine → ℕ → ℕ → Outcome
sound_step_of m head value = ask m (eqb (shape_of head value) 0) (shape_of head value) (event_of m (kind_of head) (address_of head) value)
