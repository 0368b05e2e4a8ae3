-- Document 01, "Questions, first no decides": what a sample, a load and a store answer, on every controller. 8, 6 and 7 are asked above.
use Rattle.std.specs.Prelude.{ℕ, leb, eqb}
use Rattle.pic_registers.specs.Offsets.{register_at, offset_refusal}
use Rattle.pic.specs.declared.Controller.{Controller}
use Rattle.pic.specs.Outcome.{Outcome}
use Rattle.pic.specs.Calls.{accepts, asks}
use Rattle.pic_registers.specs.Registers.{sampled, read_of, written_of}

-- Sample. 9. Is the address 0..7?
unfoldable pub sample_of : Controller → ℕ → ℕ → Outcome
sample_of c x v = asks c (leb x 7) 9 (accepts (sampled c x v) 0)

-- A question whose answers are numbers: 0 is yes.
abbrev pub asks_number : Controller → ℕ → Outcome → Outcome
asks_number c q on = asks c (eqb q 0) q on

-- Load. 10 and 11.
unfoldable pub load_of : Controller → ℕ → Outcome
load_of c offset = asks_number c (offset_refusal offset) (accepts c (read_of c (register_at c.sources offset)))

-- Store, with the same questions.
unfoldable pub store_of : Controller → ℕ → ℕ → Outcome
store_of c offset v = asks_number c (offset_refusal offset) (accepts (written_of c (register_at c.sources offset) v) 0)
