-- Document 02, No. 1: "counter, bound and control for timers 0 and 1, CSRs 0x7D2 to 0x7D7, fields and reset values as its tables 4-1 to 4-3", which are document 004's.
-- No. 5: "CSRs 0x7F0, 0x7F1, 0x7F2", of its section 3.5.
use Rattle.std.specs.Prelude.{ℕ, ◌+◌, ◌-◌, ◌*◌, ◌/◌, ◌%◌, Bool, false, cond, ◌&&◌, leb, ltb, eqb, Option, Some, None}
use Rattle.counters_timers.specs.declared.Timer.{Timer}
use Rattle.counters_timers.specs.Timers.{with_count, with_bound, with_control, timer_at, with_timer}
use Rattle.counters_errors.specs.Errors.{held_of, error_at, with_error}
use Rattle.counters.specs.declared.Counters.{Counters}
use Rattle.counters.specs.declared.Csr.{Csr}
use Rattle.counters.specs.declared.Csr.TheVariants.{Mitcnt, Mitb, Mitctl, Ect}
use Rattle.counters.specs.Whole.{with_timers, with_errors}

-- Timer i has three CSRs in a row, from 0x7D2 + 3 × i on: mitcnt, its counter; mitb, its bound; mitctl, its control. Error counter i has one, 0x7F0 + i: micect,
-- miccmect or mdccmect.
abbrev pub csr_address : Csr → ℕ
csr_address (Mitcnt i) = 0x7D2 + 3 * i
csr_address (Mitb i) = 0x7D2 + 3 * i + 1
csr_address (Mitctl i) = 0x7D2 + 3 * i + 2
csr_address (Ect i) = 0x7F0 + i

-- Whether there is such a CSR: there are timers 0 and 1, and error counters 0 to 2.
abbrev pub is_csr : Option Csr → Bool
is_csr (Some (Mitcnt i)) = ltb i 2
is_csr (Some (Mitb i)) = ltb i 2
is_csr (Some (Mitctl i)) = ltb i 2
is_csr (Some (Ect i)) = ltb i 3
is_csr None = false

-- The CSR of timer i that is k places on from its first.
unfoldable pub csr_of : ℕ → ℕ → Csr
csr_of i k = cond (eqb k 0) (Mitcnt i) (cond (eqb k 1) (Mitb i) (Mitctl i))

-- The CSR that has an address. `address-csr` and `csr-address` of the laws say that it is the one whose address it is.
unfoldable pub csr_at : ℕ → Option Csr
csr_at a =
    cond (leb 0x7D2 a && ltb a 0x7D8) (Some (csr_of ((a - 0x7D2) / 3) ((a - 0x7D2) % 3)))
    (cond (leb 0x7F0 a && ltb a 0x7F3) (Some (Ect (a - 0x7F0)))
    None)

-- Timer i of the counters, and the counters with another timer i.
abbrev pub timer_of : Counters → ℕ → Timer
timer_of c i = timer_at c.timers i

abbrev pub put_timer : Counters → ℕ → Timer → Counters
put_timer c i t = with_timers c (with_timer c.timers i t)

-- What a CSR reads: of an error counter, threshold × 2^27 + count.
unfoldable pub csr_value : Counters → Option Csr → ℕ
csr_value c (Some (Mitcnt i)) = (timer_of c i).count
csr_value c (Some (Mitb i)) = (timer_of c i).bound
csr_value c (Some (Mitctl i)) = (timer_of c i).control
csr_value c (Some (Ect i)) = (error_at c.errors i).0
csr_value c None = 0

-- What a CSR write changes. mitcnt and mitb take all 32 bits; of mitctl bits 2:0 are kept, the others dropped and read 0. An error counter
-- takes the count, and the threshold as it is held.
unfoldable pub csr_written : Counters → Option Csr → ℕ → Counters
csr_written c (Some (Mitcnt i)) v = put_timer c i (with_count (timer_of c i) v)
csr_written c (Some (Mitb i)) v = put_timer c i (with_bound (timer_of c i) v)
csr_written c (Some (Mitctl i)) v = put_timer c i (with_control (timer_of c i) (v % 8))
csr_written c (Some (Ect i)) v = with_errors c (with_error c.errors i (held_of v))
csr_written c None v = c
