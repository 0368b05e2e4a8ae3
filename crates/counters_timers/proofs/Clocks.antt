-- Both timers, each by its number.
use Prim.Native.Nat.{ℕ, zero, suc, ◌+◌, ◌*◌, ◌/◌, ◌%◌, ◌^◌, ◌≤◌, ◌<◌}
use mathlib.Core.Path.{◌≡◌, refl, ap}
use mathlib.Core.Logic.{◌⊎◌, inl, inr}
use native.Mathlib.Omega.{arith}
use Rattle.std.proofs.lemmas.Bool.{cases_eq}
use Rattle.counters_timers.specs.declared.Timer.{Timer}
use Rattle.counters_timers.specs.declared.Timers.{Timers}
use Rattle.counters_timers.specs.Timers.{timer_at, with_timer, reset_timers, signal_bit, clock_of}
use Rattle.counters_timers.specs.Each.{ResetEach, ClockedEach, NoOtherBits}
use Rattle.counters_timers.proofs.Testing.{signal-small}

pub reset-each : ResetEach
unfolding timer_at reset_timers
reset-each zero h = refl
reset-each (suc zero) h = refl
reset-each (suc (suc i)) h = absurd (omega arith)

-- The two bits of an answer.
low_bit : (a b : ℕ) → a ≤ 1 → (a + 2 * b) / 2 ^ 0 % 2 ≡ a
low_bit a b h = omega arith

high_bit : (a b : ℕ) → a ≤ 1 → b ≤ 1 → (a + 2 * b) / 2 ^ 1 % 2 ≡ b
high_bit a b h k = omega arith

pub clocked-each : ClockedEach
unfolding timer_at clock_of
clocked-each t zero h = record { timer = refl; bit = low_bit (signal_bit t.timer0) (signal_bit t.timer1) (signal-small t.timer0 refl) }
clocked-each t (suc zero) h =
    record { timer = refl; bit = high_bit (signal_bit t.timer0) (signal_bit t.timer1) (signal-small t.timer0 refl) (signal-small t.timer1 refl) }
clocked-each t (suc (suc i)) h = absurd (omega arith)

pub no-other-bits : NoOtherBits
unfolding clock_of
no-other-bits t = let a = signal-small t.timer0 refl in let b = signal-small t.timer1 refl in omega (arith, a, b)

-- The timer that was put, and the others.
pub timer-put : (t : Timers) (i : ℕ) (u : Timer) → i < 2 → timer_at (with_timer t i u) i ≡ u
unfolding timer_at with_timer
timer-put t zero u h = refl
timer-put t (suc zero) u h = refl
timer-put t (suc (suc i)) u h = absurd (omega arith)

pub timer-other : (t : Timers) (i j : ℕ) (u : Timer) → (j ≡ i → ⊥) → timer_at (with_timer t i u) j ≡ timer_at t j
unfolding timer_at with_timer
timer-other t zero zero u d = absurd (d refl)
timer-other t zero (suc zero) u d = refl
timer-other t zero (suc (suc j)) u d = refl
timer-other t (suc zero) zero u d = refl
timer-other t (suc zero) (suc zero) u d = absurd (d refl)
timer-other t (suc zero) (suc (suc j)) u d = refl
timer-other t (suc (suc i)) j u d = refl

-- What is read of timer j is as before where the timer that was put reads as the old one did.
pub register-stays : (t : Timers) (i j : ℕ) (u : Timer) (f : Timer → ℕ) → f u ≡ f (timer_at t i) → f (timer_at (with_timer t i u) j) ≡ f (timer_at t j)
unfolding timer_at with_timer
register-stays t i j u f e = go (cases_eq j i)
  where
    own : (k : ℕ) → f u ≡ f (timer_at t k) → f (timer_at (with_timer t k u) k) ≡ f (timer_at t k)
    own zero h = h
    own (suc zero) h = h
    own (suc (suc k)) h = refl

    go : (j ≡ i) ⊎ (j ≡ i → ⊥) → f (timer_at (with_timer t i u) j) ≡ f (timer_at t j)
    go (inl s) = rw s (own i e)
    go (inr d) = ap f (timer-other t i j u d)
