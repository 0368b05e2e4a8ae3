-- Document 01, "Lines, latches, winner": the latches after an event of any kind.
use Rattle.std.specs.Prelude.{ℕ, ◌≤◌, ◌≡◌, Bool, true, cond, ◌&&◌, eqb}
use Rattle.event.specs.Kinds as kind
use Rattle.event.specs.Event.{kind_of, address_of}
use Rattle.pic_source.specs.Sources.{is_active}
use Rattle.pic.specs.declared.Controller.{Controller}
use Rattle.pic.specs.Sources.{polarity_at, line_at, latch_at}
use Rattle.pic.specs.Calls.{source_count}
use Rattle.pic_registers.specs.declared.Register.TheVariants.{Meigwclr}
use Rattle.pic_registers.specs.Offsets.{offset_of}
use Rattle.handlers.specs.declared.Machine.{Machine}
use Rattle.handlers.specs.Machines.{sound_of}
use Rattle.handlers.specs.Calls.{step_of}

-- meigwclrS: a store of any value clears the latch. This event is a store to the meigwclr of source s.
abbrev pub clears_latch : ℕ → ℕ → Bool
clears_latch head s = eqb (kind_of head) kind.store && eqb (address_of head) (offset_of (Meigwclr s))

-- A latch is set if its line is active, or if it was set and this event didn't clear it.
abbrev pub LatchFollows : Controller → Controller → Bool → ℕ → Type 0
LatchFollows before after cleared s = latch_at after s ≡ cond (is_active (line_at after s) (polarity_at after s)) 1 (cond cleared 0 (latch_at before s))

-- So after each accepted event, of every kind, on every sound machine, for every source.
abbrev pub LatchesFollow : Type 0
LatchesFollow =
    (m : Machine) (head value : ℕ) → sound_of m ≡ true → (step_of m head value).refusal ≡ 0
    → (s : ℕ) → 1 ≤ s → s ≤ source_count m.controller
    → LatchFollows m.controller (step_of m head value).machine.controller (clears_latch head s) s
