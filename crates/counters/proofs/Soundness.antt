-- The counters together: a clock and an error are apart; the counters are sound just when timers and error counters are, and a clock and an error keep them so.
use Prim.Native.Nat.{ℕ}
use mathlib.Core.Path.{◌≡◌, refl}
use mathlib.Core.Bool.{true}
use Rattle.std.proofs.lemmas.Bool.{and_parts}
use Rattle.counters_timers.specs.Timers.{timers_sound}
use Rattle.counters_timers.proofs.Soundness as timers
use Rattle.counters_errors.specs.Errors.{errors_sound}
use Rattle.counters_errors.proofs.Soundness as errors
use Rattle.counters.specs.declared.Counters.{Counters}
use Rattle.counters.specs.Whole.{reset_counters, sound_of, clock_of, error_of}
use Rattle.counters.specs.Each.{ClockKeepsErrors, ErrorKeepsTimers}

pub clock-keeps-errors : ClockKeepsErrors
clock-keeps-errors c = refl

pub error-keeps-timers : ErrorKeepsTimers
error-keeps-timers c a = refl

pub record Sound (c : Counters) : Type 0 where
  pub timers : timers_sound c.timers ≡ true
  pub errors : errors_sound c.errors ≡ true

pub facts : (c : Counters) → sound_of c ≡ true → Sound c
unfolding sound_of
facts c e = let p = and_parts (timers_sound c.timers) (errors_sound c.errors) e in record { timers = p.0; errors = p.1 }

pub sound : (c : Counters) → Sound c → sound_of c ≡ true
unfolding sound_of
sound c f = rw f.timers f.errors

pub reset-sound : sound_of reset_counters ≡ true
reset-sound = sound reset_counters (record { timers = timers.reset-sound; errors = errors.reset-sound })

pub clock-sound : (c : Counters) → sound_of c ≡ true → sound_of (clock_of c).machine ≡ true
clock-sound c e = let f = facts c e in sound (clock_of c).machine (record { timers = timers.clock-sound c.timers f.timers; errors = f.errors })

pub error-sound : (c : Counters) (a : ℕ) → sound_of c ≡ true → sound_of (error_of c a).machine ≡ true
error-sound c a e = let f = facts c e in sound (error_of c a).machine (record { timers = f.timers; errors = errors.error-sound c.errors a f.errors })
