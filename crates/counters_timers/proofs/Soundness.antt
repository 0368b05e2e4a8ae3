-- The timers are sound just when each is. A clock, and a sound timer that is put for one of them, keep them so.
use Prim.Native.Nat.{ℕ, zero, suc, ◌+◌, ◌≤◌, ◌<◌, ◌^◌}
use mathlib.Core.Path.{◌≡◌, refl}
use mathlib.Core.Bool.{Bool, true, false, cond}
use native.Mathlib.Omega.{arith}
use lib.ListN.{get_or}
use borrow.Author.Tests.{leb-true, leb-false, ltb-true, lt-ltb, le-leb}
use Rattle.std.proofs.lemmas.Bool.{and_parts}
use Rattle.pic_source.proofs.Bools.{all-at}
use Rattle.counters_timers.specs.declared.Timer.{Timer}
use Rattle.counters_timers.specs.declared.Timers.{Timers}
use Rattle.counters_timers.specs.Timers.{timer_at, with_timer, reset_timers, timer_tests, timer_sound, timers_sound, signals, is_enabled, next_count, after_clock, clock_of}

-- What soundness of a timer says, in numbers.
pub record Sound (t : Timer) : Type 0 where
  pub count : t.count < 2 ^ 32
  pub bound : t.bound < 2 ^ 32
  pub control : t.control ≤ 7

timer-facts : (t : Timer) → timer_sound t ≡ true → Sound t
unfolding timer_sound
timer-facts t e = record { count = ltb-true _ _ (at 0); bound = ltb-true _ _ (at 1); control = leb-true _ _ (at 2) }
  where
    at : (i : ℕ) → get_or (timer_tests t) i true ≡ true
    at = all-at (timer_tests t) e

timer-sound : (t : Timer) → Sound t → timer_sound t ≡ true
unfolding timer_sound
timer-sound t f = rw (lt-ltb t.count (2 ^ 32) f.count, lt-ltb t.bound (2 ^ 32) f.bound) (le-leb t.control 7 f.control)

-- A number of no timer reads zeros, which are sound.
pub facts : (t : Timers) → timers_sound t ≡ true → (i : ℕ) → Sound (timer_at t i)
unfolding timers_sound timer_at
facts t e zero = timer-facts t.timer0 (and_parts (timer_sound t.timer0) (timer_sound t.timer1) e).0
facts t e (suc zero) = timer-facts t.timer1 (and_parts (timer_sound t.timer0) (timer_sound t.timer1) e).1
facts t e (suc (suc i)) = record { count = omega arith; bound = omega arith; control = omega arith }

sound : (t : Timers) → Sound t.timer0 → Sound t.timer1 → timers_sound t ≡ true
unfolding timers_sound
sound t f g = rw (timer-sound t.timer0 f) (timer-sound t.timer1 g)

pub reset-sound : timers_sound reset_timers ≡ true
unfolding timers_sound timer_sound reset_timers
reset-sound = refl

-- A counter that goes up is below its bound, so that it does not leave its 32 bits.
pub next_fits : (t : Timer) → Sound t → next_count t < 2 ^ 32
unfolding next_count
next_fits t f = go (signals t) refl (is_enabled t)
  where
    go : (s : Bool) → signals t ≡ s → (e : Bool) → cond s 0 (cond e (t.count + 1) t.count) < 2 ^ 32
    go true h e = omega arith
    go false h true = let l = leb-false t.bound t.count h in omega (arith, l, f.bound)
    go false h false = f.count

clocked-sound : (t : Timer) → Sound t → Sound (after_clock t)
clocked-sound t f = record { count = next_fits t f; bound = f.bound; control = f.control }

pub clock-sound : (t : Timers) → timers_sound t ≡ true → timers_sound (clock_of t).timers ≡ true
unfolding clock_of timer_at
clock-sound t e = sound (clock_of t).timers (clocked-sound t.timer0 (facts t e 0)) (clocked-sound t.timer1 (facts t e 1))

pub put-sound : (t : Timers) (i : ℕ) (u : Timer) → timers_sound t ≡ true → Sound u → timers_sound (with_timer t i u) ≡ true
unfolding with_timer timer_at
put-sound t zero u e f = sound (with_timer t 0 u) f (facts t e 1)
put-sound t (suc zero) u e f = sound (with_timer t 1 u) (facts t e 0) f
put-sound t (suc (suc i)) u e f = e
