-- What a CSR reads after a write to it or to another; and a write keeps sound counters sound.
use Prim.Native.Nat.{ℕ, ◌%◌, ◌^◌, ◌<◌}
use mathlib.Core.Path.{◌≡◌, refl, ap}
use mathlib.Core.Bool.{true}
use native.Mathlib.Omega.{arith}
use borrow.Author.Tests.{ltb-true}
use Rattle.pic_source.proofs.Bools.{never}
use Rattle.counters_timers.specs.declared.Timer.{Timer}
use Rattle.counters_timers.specs.Timers.{with_count, with_bound, with_control}
use Rattle.counters_timers.proofs.Clocks.{timer-put, timer-other, register-stays}
use Rattle.counters_timers.proofs.Soundness as timers
use Rattle.counters_errors.specs.declared.ErrorCounter.{ErrorCounter}
use Rattle.counters_errors.specs.Errors.{held_of}
use Rattle.counters_errors.proofs.Counts.{error-put, error-other}
use Rattle.counters_errors.proofs.Soundness as errors
use Rattle.counters.specs.declared.Counters.{Counters}
use Rattle.std.specs.Prelude.{Option, Some, None}
use Rattle.counters.specs.declared.Csr.{Csr}
use Rattle.counters.specs.declared.Csr.TheVariants.{Mitcnt, Mitb, Mitctl, Ect}
use Rattle.counters.specs.Whole.{sound_of}
use Rattle.counters.specs.Csrs.{is_csr, timer_of, put_timer, csr_value, csr_written}
use Rattle.counters.specs.Each.{kept_by, WrittenEach}
use Rattle.counters.proofs.Soundness.{facts, sound}

abbrev count_of : Timer → ℕ
count_of t = t.count

abbrev bound_of : Timer → ℕ
bound_of t = t.bound

abbrev control_of : Timer → ℕ
control_of t = t.control

-- A timer is put for timer i. What is read of timer j is as before where it is another timer, or where the one that was put reads as the old one did.
module _ (c : Counters) (i j : ℕ) (t : Timer) (f : Timer → ℕ) where
  other-timer : (j ≡ i → ⊥) → f (timer_of (put_timer c i t) j) ≡ f (timer_of c j)
  other-timer d = ap f (timer-other c.timers i j t d)

  other-register : f t ≡ f (timer_of c i) → f (timer_of (put_timer c i t) j) ≡ f (timer_of c j)
  other-register e = register-stays c.timers i j t f e

-- A write to r, and another CSR q.
apart : (c : Counters) (v : ℕ) (r q : Option Csr) → (q ≡ r → ⊥) → csr_value (csr_written c r v) q ≡ csr_value c q
unfolding csr_value csr_written
apart c v (Some (Mitcnt i)) (Some (Mitcnt j)) d = other-timer c i j _ count_of (λ s. d (ap (λ (n : ℕ). Some (Mitcnt n)) s))
apart c v (Some (Mitcnt i)) (Some (Mitb j)) d = other-register c i j _ bound_of refl
apart c v (Some (Mitcnt i)) (Some (Mitctl j)) d = other-register c i j _ control_of refl
apart c v (Some (Mitcnt i)) (Some (Ect j)) d = refl
apart c v (Some (Mitcnt i)) None d = refl
apart c v (Some (Mitb i)) (Some (Mitcnt j)) d = other-register c i j _ count_of refl
apart c v (Some (Mitb i)) (Some (Mitb j)) d = other-timer c i j _ bound_of (λ s. d (ap (λ (n : ℕ). Some (Mitb n)) s))
apart c v (Some (Mitb i)) (Some (Mitctl j)) d = other-register c i j _ control_of refl
apart c v (Some (Mitb i)) (Some (Ect j)) d = refl
apart c v (Some (Mitb i)) None d = refl
apart c v (Some (Mitctl i)) (Some (Mitcnt j)) d = other-register c i j _ count_of refl
apart c v (Some (Mitctl i)) (Some (Mitb j)) d = other-register c i j _ bound_of refl
apart c v (Some (Mitctl i)) (Some (Mitctl j)) d = other-timer c i j _ control_of (λ s. d (ap (λ (n : ℕ). Some (Mitctl n)) s))
apart c v (Some (Mitctl i)) (Some (Ect j)) d = refl
apart c v (Some (Mitctl i)) None d = refl
apart c v (Some (Ect i)) (Some (Mitcnt j)) d = refl
apart c v (Some (Ect i)) (Some (Mitb j)) d = refl
apart c v (Some (Ect i)) (Some (Mitctl j)) d = refl
apart c v (Some (Ect i)) (Some (Ect j)) d = ap (λ (e : ErrorCounter). e.0) (error-other c.errors i j (held_of v) (λ s. d (ap (λ (n : ℕ). Some (Ect n)) s)))
apart c v (Some (Ect i)) None d = refl
apart c v None q d = refl

pub written-each : WrittenEach
unfolding csr_value csr_written
written-each c r v h = record { itself = itself r h; others = λ q d. apart c v r q d }
  where
    itself : (p : Option Csr) → is_csr p ≡ true → csr_value (csr_written c p v) p ≡ kept_by p v
    itself (Some (Mitcnt i)) e = ap count_of (timer-put c.timers i (with_count (timer_of c i) v) (ltb-true i 2 e))
    itself (Some (Mitb i)) e = ap bound_of (timer-put c.timers i (with_bound (timer_of c i) v) (ltb-true i 2 e))
    itself (Some (Mitctl i)) e = ap control_of (timer-put c.timers i (with_control (timer_of c i) (v % 8)) (ltb-true i 2 e))
    itself (Some (Ect i)) e = ap (λ (d : ErrorCounter). d.0) (error-put c.errors i (held_of v) (ltb-true i 3 e))
    itself None e = never e

-- A sound timer put for timer i.
put-timer-sound : (c : Counters) (i : ℕ) (t : Timer) → sound_of c ≡ true → timers.Sound t → sound_of (put_timer c i t) ≡ true
put-timer-sound c i t e f = let h = facts c e in sound (put_timer c i t) (record { timers = timers.put-sound c.timers i t h.timers f; errors = h.errors })

pub written-sound : (c : Counters) (r : Option Csr) (v : ℕ) → v < 2 ^ 32 → sound_of c ≡ true → sound_of (csr_written c r v) ≡ true
unfolding csr_written
written-sound c (Some (Mitcnt i)) v b e =
    let f = timers.facts c.timers (facts c e).timers i in
    put-timer-sound c i (with_count (timer_of c i) v) e (record { count = b; bound = f.bound; control = f.control })
written-sound c (Some (Mitb i)) v b e =
    let f = timers.facts c.timers (facts c e).timers i in
    put-timer-sound c i (with_bound (timer_of c i) v) e (record { count = f.count; bound = b; control = f.control })
written-sound c (Some (Mitctl i)) v b e =
    let f = timers.facts c.timers (facts c e).timers i in
    put-timer-sound c i (with_control (timer_of c i) (v % 8)) e (record { count = f.count; bound = f.bound; control = omega arith })
written-sound c (Some (Ect i)) v b e =
    let h = facts c e in
    sound (csr_written c (Some (Ect i)) v) (record { timers = h.timers; errors = errors.held-sound c.errors i v h.errors })
written-sound c None v b e = e
