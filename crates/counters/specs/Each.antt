-- What is said of the counters together: a clock and an error are apart, and each CSR keeps what is written to it.
use Rattle.std.specs.Prelude.{ℕ, ◌%◌, ◌≡◌, true, Option, Some, None}
use Rattle.counters_errors.specs.Errors.{held_of}
use Rattle.counters.specs.declared.Counters.{Counters}
use Rattle.counters.specs.declared.Csr.{Csr}
use Rattle.counters.specs.declared.Csr.TheVariants.{Mitcnt, Mitb, Mitctl, Ect}
use Rattle.counters.specs.Whole.{clock_of, error_of}
use Rattle.counters.specs.Csrs.{is_csr, csr_value, csr_written}

-- A clock changes no error counter, and an error no timer (document 02, No. 1 and No. 5).
abbrev pub ClockKeepsErrors : Type 0
ClockKeepsErrors = (c : Counters) → (clock_of c).machine.errors ≡ c.errors

abbrev pub ErrorKeepsTimers : Type 0
ErrorKeepsTimers = (c : Counters) (a : ℕ) → (error_of c a).machine.timers ≡ c.timers

-- What a CSR keeps of a value that is written to it.
abbrev pub kept_by : Option Csr → ℕ → ℕ
kept_by (Some (Mitcnt i)) v = v
kept_by (Some (Mitb i)) v = v
kept_by (Some (Mitctl i)) v = v % 8
kept_by (Some (Ect i)) v = (held_of v).0
kept_by None v = 0

-- A CSR reads what it kept of the last write to it, and the other eight read as before.
pub record WrittenOne (c : Counters) (r : Option Csr) (v : ℕ) : Type 0 where
  pub itself : csr_value (csr_written c r v) r ≡ kept_by r v
  pub others : (q : Option Csr) → (q ≡ r → ⊥) → csr_value (csr_written c r v) q ≡ csr_value c q

abbrev pub WrittenEach : Type 0
WrittenEach = (c : Counters) (r : Option Csr) (v : ℕ) → is_csr r ≡ true → WrittenOne c r v
