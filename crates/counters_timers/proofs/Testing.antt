-- What the code's questions show, in the words of the rules.
use Prim.Native.Nat.{ℕ, ◌≤◌, ◌<◌, ◌^◌}
use mathlib.Core.Path.{◌≡◌}
use mathlib.Core.Bool.{Bool, true, false, cond}
use native.Mathlib.Omega.{arith}
use lib.Dec.{leb}
use borrow.Author.Tests.{lt-ltb}
use Rattle.counters_timers.specs.declared.Timer.{Timer}
use Rattle.counters_timers.specs.Timers.{timer_sound, signals, signal_bit}

-- Counter and bound are in range by their type; the control is asked.
pub timer-tested : (t : Timer) → t.count < 2 ^ 32 → t.bound < 2 ^ 32 → leb t.control 7 ≡ timer_sound t
unfolding timer_sound
timer-tested t a b = rw (lt-ltb t.count (2 ^ 32) a, lt-ltb t.bound (2 ^ 32) b)

-- A signal is one bit.
pub signal-small : (t : Timer) {b : ℕ} → b ≡ signal_bit t → b ≤ 1
signal-small t {b} e = go (signals t) e
  where
    go : (z : Bool) → b ≡ cond z 1 0 → b ≤ 1
    go true h = omega (arith, h)
    go false h = omega (arith, h)
