-- Document 02, No. 1, "Internal timers", and document 004, chapter 4: what the two timers hold, and what a clock does.
use Rattle.std.specs.Prelude.{ℕ, zero, suc, ◌+◌, ◌*◌, ◌%◌, ◌^◌, Bool, cond, ◌&&◌, List, [], ◌∷◌, leb, ltb, eqb}
use Rattle.pic_source.specs.Tests.{all_hold}
use Rattle.counters_timers.specs.declared.Timer.{Timer}
use Rattle.counters_timers.specs.declared.Timers.{Timers}
use Rattle.counters_timers.specs.declared.Clocked.{Clocked}

-- A timer with another counter, bound or control.
abbrev pub with_count : Timer → ℕ → Timer
with_count t v = record { count = v; bound = t.bound; control = t.control }

abbrev pub with_bound : Timer → ℕ → Timer
with_bound t v = record { count = t.count; bound = v; control = t.control }

abbrev pub with_control : Timer → ℕ → Timer
with_control t v = record { count = t.count; bound = t.bound; control = v }

-- "Timers 0 and 1": the timer of a number, and the timers with another one of that number. A number of no timer reads zeros and is not written.
abbrev pub no_timer : Timer
no_timer = record { count = 0; bound = 0; control = 0 }

unfoldable pub timer_at : Timers → ℕ → Timer
timer_at t zero = t.timer0
timer_at t (suc zero) = t.timer1
timer_at t (suc (suc i)) = no_timer

unfoldable pub with_timer : Timers → ℕ → Timer → Timers
with_timer t zero u = record { timer0 = u; timer1 = t.timer1 }
with_timer t (suc zero) u = record { timer0 = t.timer0; timer1 = u }
with_timer t (suc (suc i)) u = t

-- "Power-on sets these reset values": the counter is 0, all bits of the bound are 1, and of the control only enable, bit 0, is 1.
abbrev pub reset_timer : Timer
reset_timer = record { count = 0; bound = 0xFFFFFFFF; control = 1 }

unfoldable pub reset_timers : Timers
reset_timers = record { timer0 = reset_timer; timer1 = reset_timer }

-- "A machine is sound only if each field added here or later is in its range too, with unused bits 0": counter and bound have 32 bits, the control three.
abbrev pub timer_tests : Timer → List Bool
timer_tests t = ltb t.count (2 ^ 32) ∷ ltb t.bound (2 ^ 32) ∷ leb t.control 7 ∷ []

unfoldable pub timer_sound : Timer → Bool
timer_sound t = all_hold (timer_tests t)

unfoldable pub timers_sound : Timers → Bool
timers_sound t = timer_sound t.timer0 && timer_sound t.timer1

-- "A counter at or above its bound when the clock comes is cleared and signals", enabled or not;
abbrev pub signals : Timer → Bool
signals t = leb t.bound t.count

-- The control's bit 0 is enable. Bits 1 and 2, halt_en and pause_en, have no effect: "Sleep, pause and Debug Mode aren't modelled".
abbrev pub is_enabled : Timer → Bool
is_enabled t = eqb (t.control % 2) 1

-- "otherwise, if enabled, it goes up by one."
unfoldable pub next_count : Timer → ℕ
next_count t = cond (signals t) 0 (cond (is_enabled t) (t.count + 1) t.count)

abbrev pub after_clock : Timer → Timer
after_clock t = with_count t (next_count t)

-- "The answer has bit 0 for timer 0 and bit 1 for timer 1."
abbrev pub signal_bit : Timer → ℕ
signal_bit t = cond (signals t) 1 0

unfoldable pub clock_of : Timers → Clocked
clock_of t =
    record {
      timers = record { timer0 = after_clock t.timer0; timer1 = after_clock t.timer1 };
      answer = signal_bit t.timer0 + 2 * signal_bit t.timer1;
    }
