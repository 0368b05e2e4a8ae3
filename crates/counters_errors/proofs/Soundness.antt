-- The error counters are sound just when each threshold is at most 26. A counter in its range that is put for one of them, and an error, keep them so.
use Prim.Native.Nat.{ℕ, zero, suc, ◌/◌, ◌%◌, ◌^◌, ◌≤◌}
use mathlib.Core.Path.{◌≡◌, refl}
use mathlib.Core.Bool.{Bool, true, false, cond, ◌&&◌}
use native.Mathlib.Omega.{arith}
use borrow.Author.Tests.{leb-true, le-leb}
use Rattle.std.proofs.lemmas.Bool.{and_parts}
use Rattle.counters_errors.specs.declared.ErrorCounter.{ErrorCounter}
use Rattle.counters_errors.specs.declared.ErrorCounters.{ErrorCounters}
use Rattle.counters_errors.specs.Errors.{threshold_in, held_threshold, held_of, error_sound, error_at, with_error, reset_errors, errors_sound, may_count, after_error, error_refused, error_counted, error_of}
use Rattle.counters_errors.proofs.Testing.{held_small}
use Rattle.counters_errors.proofs.Counts.{parts, counts_each}

-- A number of no counter reads threshold 0.
facts : (c : ErrorCounters) → errors_sound c ≡ true → (i : ℕ) → threshold_in (error_at c i) ≤ 26
unfolding errors_sound error_sound error_at
facts c e = at
  where
    p : (error_sound c.micect && error_sound c.miccmect ≡ true) × (error_sound c.mdccmect ≡ true)
    p = and_parts _ _ e

    q : (error_sound c.micect ≡ true) × (error_sound c.miccmect ≡ true)
    q = and_parts _ _ p.0

    at : (i : ℕ) → threshold_in (error_at c i) ≤ 26
    at zero = leb-true _ _ q.0
    at (suc zero) = leb-true _ _ q.1
    at (suc (suc zero)) = leb-true _ _ p.1
    at (suc (suc (suc i))) = omega arith

sound : (c : ErrorCounters) → threshold_in c.micect ≤ 26 → threshold_in c.miccmect ≤ 26 → threshold_in c.mdccmect ≤ 26 → errors_sound c ≡ true
unfolding errors_sound error_sound
sound c f g h = rw (le-leb (threshold_in c.micect) 26 f, le-leb (threshold_in c.miccmect) 26 g) (le-leb (threshold_in c.mdccmect) 26 h)

pub reset-sound : errors_sound reset_errors ≡ true
unfolding errors_sound error_sound reset_errors
reset-sound = refl

put-sound : (c : ErrorCounters) (i : ℕ) (e : ErrorCounter) → errors_sound c ≡ true → threshold_in e ≤ 26 → errors_sound (with_error c i e) ≡ true
unfolding with_error error_at
put-sound c zero e s t = sound (with_error c 0 e) t (facts c s 1) (facts c s 2)
put-sound c (suc zero) e s t = sound (with_error c 1 e) (facts c s 0) t (facts c s 2)
put-sound c (suc (suc zero)) e s t = sound (with_error c 2 e) (facts c s 0) (facts c s 1) t
put-sound c (suc (suc (suc i))) e s t = s

-- What is written has a threshold in its range, and what is counted keeps its own.
pub held-sound : (c : ErrorCounters) (i v : ℕ) → errors_sound c ≡ true → errors_sound (with_error c i (held_of v)) ≡ true
unfolding held_of
held-sound c i v s =
    put-sound c i (held_of v) s (rw (parts.made (held_threshold (v / 2 ^ 27)) (v % 2 ^ 27) (omega arith)).threshold (held_small (v / 2 ^ 27) refl))

pub error-sound : (c : ErrorCounters) (a : ℕ) → errors_sound c ≡ true → errors_sound (error_of c a).machine ≡ true
unfolding error_of
error-sound c a s = go (may_count a)
  where
    go : (t : Bool) → errors_sound (cond t (error_counted c a) (error_refused c)).machine ≡ true
    go true = put-sound c a (after_error c a) s (rw (counts_each (error_at c a)).threshold (facts c s a))
    go false = s
