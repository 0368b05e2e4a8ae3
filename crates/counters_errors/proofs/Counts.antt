-- The three error counters, each by its number: one proof serves the three.
use Prim.Native.Nat.{ℕ, zero, suc, ◌+◌, ◌*◌, ◌/◌, ◌%◌, ◌^◌, ◌<◌}
use mathlib.Core.Path.{◌≡◌, refl}
use native.Mathlib.Omega.{arith}
use borrow.Author.Tests.{le-leb, lt-leb}
use Rattle.counters_errors.specs.declared.ErrorCounter.{ErrorCounter}
use Rattle.counters_errors.specs.declared.ErrorCounters.{ErrorCounters}
use Rattle.counters_errors.specs.Errors.{threshold_in, count_in, counter_of, held_threshold, held_of, counted, error_at, with_error, reset_errors, after_error, error_of}
use Rattle.counters_errors.specs.Each.{HasParts, Parts, ResetErrors, HeldEach, CountsEach, CountedEach, RefusedAbove}

made : (t n : ℕ) → n < 2 ^ 27 → HasParts (counter_of t n) t n
made t n h = record { threshold = omega arith; count = omega arith }

again : (e : ErrorCounter) → counter_of (threshold_in e) (count_in e) ≡ e
again e = let h : threshold_in e * 2 ^ 27 + count_in e ≡ e.0 = omega arith in rw h

pub parts : Parts
parts = record { made = made; again = again }

pub reset-errors : ResetErrors
unfolding error_at reset_errors
reset-errors zero = made 0 0 (omega arith)
reset-errors (suc zero) = made 0 0 (omega arith)
reset-errors (suc (suc zero)) = made 0 0 (omega arith)
reset-errors (suc (suc (suc i))) = made 0 0 (omega arith)

pub held-each : HeldEach
unfolding held_of
held-each v =
    let p = made (held_threshold (v / 2 ^ 27)) (v % 2 ^ 27) (omega arith) in
    record {
      count = p.count;
      kept = λ h. rw p.threshold (rw (le-leb (v / 2 ^ 27) 26 h));
      mapped = λ h. rw p.threshold (rw (lt-leb (v / 2 ^ 27) 26 (omega (arith, h))));
    }

pub counts_each : CountsEach
unfolding counted
counts_each e =
    let p = made (threshold_in e) ((count_in e + 1) % 2 ^ 27) (omega arith) in
    record {
      threshold = p.threshold;
      goes-up = λ h. rw p.count (omega (arith, h));
      wraps = λ h. rw p.count (rw h);
    }

-- The counter that was put, and the others.
pub error-put : (c : ErrorCounters) (i : ℕ) (e : ErrorCounter) → i < 3 → error_at (with_error c i e) i ≡ e
unfolding error_at with_error
error-put c zero e h = refl
error-put c (suc zero) e h = refl
error-put c (suc (suc zero)) e h = refl
error-put c (suc (suc (suc i))) e h = absurd (omega arith)

pub error-other : (c : ErrorCounters) (i j : ℕ) (e : ErrorCounter) → (j ≡ i → ⊥) → error_at (with_error c i e) j ≡ error_at c j
unfolding error_at with_error
error-other c zero zero e d = absurd (d refl)
error-other c zero (suc zero) e d = refl
error-other c zero (suc (suc zero)) e d = refl
error-other c zero (suc (suc (suc j))) e d = refl
error-other c (suc zero) zero e d = refl
error-other c (suc zero) (suc zero) e d = absurd (d refl)
error-other c (suc zero) (suc (suc zero)) e d = refl
error-other c (suc zero) (suc (suc (suc j))) e d = refl
error-other c (suc (suc zero)) zero e d = refl
error-other c (suc (suc zero)) (suc zero) e d = refl
error-other c (suc (suc zero)) (suc (suc zero)) e d = absurd (d refl)
error-other c (suc (suc zero)) (suc (suc (suc j))) e d = refl
error-other c (suc (suc (suc i))) j e d = refl

-- A counter that is put in its own place.
pub error-again : (c : ErrorCounters) (i : ℕ) → with_error c i (error_at c i) ≡ c
unfolding error_at with_error
error-again c zero = refl
error-again c (suc zero) = refl
error-again c (suc (suc zero)) = refl
error-again c (suc (suc (suc i))) = refl

pub counted-each : CountedEach
unfolding error_of
counted-each c i h =
    let t = le-leb i 2 (omega (arith, h)) in
    record { accepts = rw t; counter = rw t (error-put c i (after_error c i) h); others = λ j d. rw t (error-other c i j (after_error c i) d) }

pub refused-above : RefusedAbove
unfolding error_of
refused-above c a h = rw (lt-leb a 2 h)
