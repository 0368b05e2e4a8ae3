-- Document 01, "Questions, first no decides": what a CSR read and a CSR write answer, on every controller. 8, 6, 7 and 14 are asked above.
use Rattle.std.specs.Prelude.{ℕ, cond, not, eqb}
use Rattle.pic_csrs.specs.Addresses.{csr_at, is_csr}
use Rattle.pic.specs.declared.Controller.{Controller}
use Rattle.pic.specs.Outcome.{Outcome}
use Rattle.pic.specs.Fields.{with_scalars}
use Rattle.pic.specs.Sources.{winner_of}
use Rattle.pic.specs.Calls.{accepts, asks, capture_of}
use Rattle.pic_csrs.specs.Values.{csr_value, csr_written}

-- CSR read. 12. Is it one of the six?
unfoldable pub csr_read_of : Controller → ℕ → Outcome
csr_read_of c a = asks c (is_csr (csr_at a)) 12 (accepts c (csr_value c.scalars (csr_at a)))

-- meicpct, a write captures; any other CSR takes the value.
abbrev pub written_to : Controller → ℕ → ℕ → Controller
written_to c a v = cond (eqb a 0xBCA) (capture_of c (winner_of c)) (with_scalars c (csr_written c.scalars (csr_at a) v))

-- CSR write. 12. 13. Is it not 0xFC8?
unfoldable pub csr_write_of : Controller → ℕ → ℕ → Outcome
csr_write_of c a v = asks c (is_csr (csr_at a)) 12 (asks c (not (eqb a 0xFC8)) 13 (accepts (written_to c a v) 0))
