-- Document 02, No. 1 and No. 5: question 12 "widens" to the CSRs of the timers and of the error counters; and what these CSRs keep, of the whole machine.
use Rattle.std.specs.Prelude.{ℕ, ◌^◌, ◌<◌, ◌≡◌, Some, Bool, true, false, cond, not, ◌||◌, List, [], ◌∷◌, ◌++◌, eqb}
use Rattle.counters.specs.declared.Csr.{Csr}
use Rattle.counters.specs.Csrs.{csr_address, is_csr}
use Rattle.counters.specs.Each.{kept_by}
use Rattle.handlers.specs.declared.Machine.{Machine}
use Rattle.handlers.specs.Machines.{sound_of}
use Rattle.handlers.specs.Service.{refused, may_write}
use Rattle.handlers.specs.Calls.{csr_read_of, csr_write_of}

-- The CSRs of 01, in its order; those of the timers; and those of the error counters.
abbrev pub csrs_of01 : List ℕ
csrs_of01 = 0xBC8 ∷ 0xBC9 ∷ 0xBCA ∷ 0xBCB ∷ 0xBCC ∷ 0xFC8 ∷ []

abbrev pub csrs_of_timers : List ℕ
csrs_of_timers = 0x7D2 ∷ 0x7D3 ∷ 0x7D4 ∷ 0x7D5 ∷ 0x7D6 ∷ 0x7D7 ∷ []

abbrev pub csrs_of_errors : List ℕ
csrs_of_errors = 0x7F0 ∷ 0x7F1 ∷ 0x7F2 ∷ []

abbrev pub is_one_of : ℕ → List ℕ → Bool
is_one_of a [] = false
is_one_of a (b ∷ bs) = eqb a b || is_one_of a bs

-- 12. CSR: is it one of the fifteen?
abbrev pub is_one_of_fifteen : ℕ → Bool
is_one_of_fifteen a = is_one_of a (csrs_of01 ++ csrs_of_timers ++ csrs_of_errors)

-- A sound machine refuses a read or a write with 12 just when the address is none of the fifteen.
pub record AsksTwelve (m : Machine) (a v : ℕ) : Type 0 where
  pub reads : (csr_read_of m a).refusal ≡ cond (is_one_of_fifteen a) 0 12
  pub refuses : is_one_of_fifteen a ≡ false → csr_write_of m a v ≡ refused m 12
  pub goes_on : is_one_of_fifteen a ≡ true → (csr_write_of m a v).refusal ≡ 12 → ⊥

abbrev pub Question12 : Type 0
Question12 = (m : Machine) (a v : ℕ) → sound_of m ≡ true → AsksTwelve m a v

-- 12, 13, 14: a sound machine refuses a write with the first no of the three. 13. Write: is it not 0xFC8? 14. Write to 0xBCC: is no handler open?
abbrev pub write_refusal : Machine → ℕ → ℕ
write_refusal m a = cond (is_one_of_fifteen a) (cond (not (eqb a 0xFC8)) (cond (may_write m a) 0 14) 13) 12

abbrev pub WriteQuestions : Type 0
WriteQuestions = (m : Machine) (a v : ℕ) → sound_of m ≡ true → (csr_write_of m a v).refusal ≡ write_refusal m a

-- On a sound machine every CSR of a timer or of an error counter can be written and read: it reads what it kept of the value, and the other eight read as before.
pub record WrittenTo (m : Machine) (r : Csr) (v : ℕ) : Type 0 where
  pub accepts : (csr_write_of m (csr_address r) v).refusal ≡ 0
  pub itself : (csr_read_of (csr_write_of m (csr_address r) v).machine (csr_address r)).answer ≡ kept_by (Some r) v
  pub others : (q : Csr) → is_csr (Some q) ≡ true → (q ≡ r → ⊥)
      → (csr_read_of (csr_write_of m (csr_address r) v).machine (csr_address q)).answer ≡ (csr_read_of m (csr_address q)).answer

abbrev pub CountersWritten : Type 0
CountersWritten = (m : Machine) → sound_of m ≡ true → (r : Csr) (v : ℕ) → is_csr (Some r) ≡ true → v < 2 ^ 32 → WrittenTo m r v
