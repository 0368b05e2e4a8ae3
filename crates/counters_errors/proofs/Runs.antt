-- What an error answers, by the count afterwards, and what errors in a row answer.
use Prim.Native.Nat.{ℕ, zero, suc, ◌+◌, ◌-◌, ◌*◌, ◌/◌, ◌%◌, ◌^◌, ◌≤◌, ◌<◌}
use mathlib.Core.Path.{◌≡◌, sym, ap, ◌∙◌}
use native.Mathlib.Nat.{add_comm, div-eq_of_lt, le-div_iff_mul-le}
use native.Mathlib.Omega.{arith}
use lib.Pow.{pow_pos, high, field, mod-mod-pow}
use Rattle.counters_errors.specs.Errors.{threshold_in, count_in, counter_of, counted, selected_bit}
use Rattle.counters_errors.specs.Each.{HasParts, AnswersEach, after_errors, answer_to, AnswersInRuns}
use Rattle.counters_errors.proofs.Counts.{parts, counts_each}

-- Bit t of a number, by the number modulo 2^(t + 1).
module _ (n t : ℕ) where
  bit_is : n % 2 ^ (t + 1) / 2 ^ t ≡ n / 2 ^ t % 2
  bit_is = ap (λ (k : ℕ). n % 2 ^ k / 2 ^ t) (add_comm t 1) ∙ field n 1 t

  bit-0 : n % 2 ^ (t + 1) < 2 ^ t → n / 2 ^ t % 2 ≡ 0
  bit-0 h = sym bit_is ∙ div-eq_of_lt h

  bit-1 : 2 ^ t ≤ n % 2 ^ (t + 1) → n / 2 ^ t % 2 ≡ 1
  bit-1 h =
      let l : 1 * 2 ^ t ≤ n % 2 ^ (t + 1) = omega (arith, h) in
      let q : 1 ≤ n % 2 ^ (t + 1) / 2 ^ t = (le-div_iff_mul-le (pow_pos t)).1 l in
      omega (arith, q, bit_is)

pub answers-each : AnswersEach
unfolding selected_bit
answers-each e =
    let s = (counts_each e).threshold in
    record { zeros = λ h. rw s (bit-0 (count_in (counted e)) (threshold_in e) h); ones = λ h. rw s (bit-1 (count_in (counted e)) (threshold_in e) h) }

-- After i errors the count is i, as far as it goes.
after : (t i : ℕ) → HasParts (after_errors i (counter_of t 0)) t (i % 2 ^ 27)
unfolding counted
after t zero = parts.made t 0 (omega arith)
after t (suc i) =
    let e = after_errors i (counter_of t 0) in
    let h = after t i in
    let p = parts.made (threshold_in e) ((count_in e + 1) % 2 ^ 27) (omega arith) in
    record { threshold = p.threshold ∙ h.threshold; count = p.count ∙ omega (arith, h.count) }

-- A bit of the count is that bit of the number of errors, since 2^(t + 1) divides 2^27.
kept-bit : (n t : ℕ) → t ≤ 26 → n % 2 ^ 27 / 2 ^ t % 2 ≡ n / 2 ^ t % 2
kept-bit n t h =
    let e : 27 ≡ 26 - t + 1 + t = omega (arith, h) in
    ap (λ (k : ℕ). n % 2 ^ k / 2 ^ t % 2) e ∙ ap (λ (k : ℕ). k % 2) (field n (26 - t + 1) t) ∙ mod-mod-pow (n / 2 ^ t) (26 - t) 1

answer-is : (t i : ℕ) → t ≤ 26 → answer_to t i ≡ i / 2 ^ t % 2
unfolding selected_bit
answer-is t i h = let p = after t i in rw (p.threshold, p.count) (kept-bit i t h)

pub answers-in-runs : AnswersInRuns
answers-in-runs t h =
    record {
      zeros = λ k j b. answer-is t (2 * k * 2 ^ t + j) h ∙ ap (λ (q : ℕ). q % 2) (high (2 * k) t b) ∙ omega arith;
      ones = λ k j b. answer-is t ((2 * k + 1) * 2 ^ t + j) h ∙ ap (λ (q : ℕ). q % 2) (high (2 * k + 1) t b) ∙ omega arith;
    }
