-- Document 02, No. 4, "Priority order as the supplier's register holds it", of the whole machine: question 24, a switch of priord, and what keeps current's rank.
use Rattle.std.specs.Prelude.{ℕ, ◌%◌, ◌<◌, ◌≡◌, true, false, cond, ltb, eqb}
use Rattle.event.specs.Kinds as kind
use Rattle.event.specs.Event.{kind_of}
use Rattle.pic.specs.Calls.{priority_order, current_rank}
use Rattle.pic_laws.specs.Orders.{ordered, Turned, AllRanks}
use Rattle.handlers.specs.declared.Machine.{Machine}
use Rattle.handlers.specs.Fields.{with_controller}
use Rattle.handlers.specs.Machines.{power_on_of, sound_of}
use Rattle.handlers.specs.Service.{accepted, refused, switches, may_store}
use Rattle.handlers.specs.Calls.{store_of, step_of}

-- "24 ... after question 11": a sound machine refuses a store with the first no of 10, 11 and 24.
abbrev pub store_refusal : Machine → ℕ → ℕ → ℕ
store_refusal m offset v = cond (ltb offset 0x8000) (cond (eqb (offset % 4) 0) (cond (may_store m offset v) 0 24) 11) 10

abbrev pub StoreQuestions : Type 0
StoreQuestions = (m : Machine) (offset v : ℕ) → sound_of m ≡ true → (store_of m offset v).refusal ≡ store_refusal m offset v

-- The machine with this priord, and nothing else changed.
abbrev pub with_order : Machine → ℕ → Machine
with_order m p = with_controller m (ordered m.controller p)

-- A store to 0x3000 on a sound machine. The priord that is there is accepted, and nothing changes; the other one is refused with 24 while a handler is open, and is
-- accepted with none.
pub record StoresOrder (m : Machine) (v : ℕ) : Type 0 where
  pub same : v % 2 ≡ priority_order m.controller → store_of m 0x3000 v ≡ accepted m 0
  pub open-handler : (v % 2 ≡ priority_order m.controller → ⊥) → 0 < m.service.depth → store_of m 0x3000 v ≡ refused m 24
  pub no-handler : (v % 2 ≡ priority_order m.controller → ⊥) → m.service.depth ≡ 0 → store_of m 0x3000 v ≡ accepted (with_order m (v % 2)) 0

abbrev pub OrderStored : Type 0
OrderStored = (m : Machine) (v : ℕ) → sound_of m ≡ true → StoresOrder m v

-- A switch, by a store of v, of a sound machine with no handler open: each rank r is 15 − r then. And the switch back, by a store of w: all is as before.
pub record Switched (m : Machine) (v : ℕ) : Type 0 where
  pub turned : Turned m.controller (store_of m 0x3000 v).machine.controller
  pub back : (w : ℕ) → w % 2 ≡ priority_order m.controller → store_of (store_of m 0x3000 v).machine 0x3000 w ≡ accepted m 0

abbrev pub OrderSwitched : Type 0
OrderSwitched = (m : Machine) (v : ℕ) → sound_of m ≡ true → m.service.depth ≡ 0 → (v % 2 ≡ priority_order m.controller → ⊥) → Switched m v

-- "At power-on with priord then set to 1, all these ranks are 15", for every N, also one that power-on refuses.
pub record PowerOnTurned (n : ℕ) : Type 0 where
  pub accepts : (store_of (power_on_of n).machine 0x3000 1).refusal ≡ 0
  pub ranks : AllRanks (store_of (power_on_of n).machine 0x3000 1).machine.controller 15

abbrev pub PowerOnSwitched : Type 0
PowerOnSwitched = (n : ℕ) → PowerOnTurned n

-- A store that does not switch priord keeps current's rank, on every machine.
abbrev pub StoreKeepsCurrent : Type 0
StoreKeepsCurrent =
    (m : Machine) (offset v : ℕ) → switches m offset v ≡ false → current_rank (store_of m offset v).machine.controller ≡ current_rank m.controller

-- While a handler is open, no event but open and return changes it.
abbrev pub CurrentKept : Type 0
CurrentKept =
    (m : Machine) (head value : ℕ) → 0 < m.service.depth → (kind_of head ≡ kind.open_handler → ⊥) → (kind_of head ≡ kind.return → ⊥)
    → current_rank (step_of m head value).machine.controller ≡ current_rank m.controller
