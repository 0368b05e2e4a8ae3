-- Words of which some bits are anew: by the bits of a mask, by the active lines, and one bit.
use Prim.Native.Nat.{ℕ, ◌*◌, ◌%◌, ◌^◌, ◌<◌, ◌≤◌}
use mathlib.Core.Path.{◌≡◌, refl, ap, ◌∙◌}
use mathlib.Core.Bool.{Bool, true, false, cond, not}
use mathlib.Core.Logic.{◌⊎◌, inl, inr}
use native.Mathlib.Nat.{mul-zero, mul-one}
use native.Mathlib.Omega.{arith}
use lib.Bits.{bit_and, bit_or, bit_xor, and_le_l, and_le_r, or_lt}
use lib.Dec.{eqb}
use lib.Pow.{pow_mono}
use borrow.Author.Tests.{ne_eqb}
use Rattle.pic_source.specs.Sources.{latch_after}
use Rattle.std.proofs.lemmas.Bool.{cases_eq}
use Rattle.pic_bits.specs.Bits.{bit_of, has_bit}
use Rattle.pic_bits.proofs.Bits.{each-bit, bit-lt, bit-cases, bit-ones, none-of-zero, power-on, has-power, and-choice, or-choice, xor-choice}
use Rattle.pic_bits.proofs.Words.{bit-number, bits_are, bit-of-bits, word_same}
use Rattle.pic_words.specs.Words.{bits_put, latches_after}

module _ (at : ℕ → Bool) (v : ℕ → ℕ) (w : ℕ) where
  -- Each bit at these places is the new one, and every other is as it was.
  pub put-bit : (y : ℕ) → y < 32 → v y < 2 → bit_of (bits_put at v w) y ≡ cond (at y) (v y) (bit_of w y)
  unfolding bits_put
  put-bit y l k = bit-of-bits (λ (z : ℕ). cond (at z) (v z) (bit_of w z)) 32 y l (go (at y))
    where
      go : (t : Bool) → cond t (v y) (bit_of w y) < 2
      go true = k
      go false = bit-lt w y

  pub put_on : (y : ℕ) → y < 32 → v y < 2 → at y ≡ true → bit_of (bits_put at v w) y ≡ v y
  put_on y l k e = put-bit y l k ∙ rw e

  pub put-off : (y : ℕ) → y < 32 → v y < 2 → at y ≡ false → bit_of (bits_put at v w) y ≡ bit_of w y
  put-off y l k e = put-bit y l k ∙ rw e

  -- A word whose bits are so.
  pub put_is : (r : ℕ) → r < 2 ^ 32 → ((y : ℕ) → y < 32 → bit_of r y ≡ cond (at y) (v y) (bit_of w y)) → r ≡ bits_put at v w
  unfolding bits_put
  put_is r l h = bits_are r (λ (y : ℕ). cond (at y) (v y) (bit_of w y)) 32 l h

  pub put_same : (a : ℕ → Bool) (u : ℕ → ℕ) (x : ℕ) → ((y : ℕ) → y < 32 → cond (at y) (v y) (bit_of w y) ≡ cond (a y) (u y) (bit_of x y))
      → bits_put at v w ≡ bits_put a u x
  unfolding bits_put
  put_same a u x h =
      word_same (λ (y : ℕ). eqb (cond (at y) (v y) (bit_of w y)) 1) (λ (y : ℕ). eqb (cond (a y) (u y) (bit_of x y)) 1) 32 (λ y l. ap (λ (i : ℕ). eqb i 1) (h y l))

-- A word is kept where its own bits are put.
pub put-kept : (at : ℕ → Bool) (w : ℕ) → w < 2 ^ 32 → w ≡ bits_put at (bit_of w) w
put-kept at w l = put_is at (bit_of w) w w l (λ y h. go (at y) (bit_of w y))
  where
    go : (t : Bool) (b : ℕ) → b ≡ cond t b b
    go true b = refl
    go false b = refl

-- What is chosen by a mask.
pub chosen_is : (mask v w : ℕ) → v < 2 ^ 32 → w < 2 ^ 32 → bit_or (bit_and v mask) (bit_and w (bit_xor mask 4294967295)) ≡ bits_put (has_bit mask) (bit_of v) w
chosen_is mask v w k l =
    put_is (has_bit mask) (bit_of v) w (bit_or (bit_and v mask) (bit_and w (bit_xor mask 4294967295)))
    (or_lt 32 (bit_and v mask) (bit_and w (bit_xor mask 4294967295)) (omega (arith, and_le_l v mask)) (omega (arith, and_le_l w (bit_xor mask 4294967295))))
    (λ y h. or-choice (bit_and v mask) (bit_and w (bit_xor mask 4294967295)) y ∙ rw (and-choice v mask y, and-choice w (bit_xor mask 4294967295) y, xor-choice mask 4294967295 y, bit-ones 32 y h) (go y))
  where
    go : (y : ℕ) → cond (eqb (cond (eqb (cond (eqb (bit_of mask y) 1) 0 1) 1) (bit_of w y) 0) 1) 1 (cond (has_bit mask y) (bit_of v y) 0)
        ≡ cond (has_bit mask y) (bit_of v y) (bit_of w y)
    go y = each-bit (λ (m : ℕ). cond (eqb (cond (eqb (cond (eqb m 1) 0 1) 1) (bit_of w y) 0) 1) 1 (cond (eqb m 1) (bit_of v y) 0) ≡ cond (eqb m 1) (bit_of v y) (bit_of w y))
        (bit-number (bit_of w y) (bit-cases w y)) refl (bit_of mask y) (bit-lt mask y)

-- Latches after an event: set where a line is active.
pub settled_is : (has line polarity latch : ℕ) → has < 2 ^ 32 → latch < 2 ^ 32
    → bit_or latch (bit_and (bit_xor line polarity) has) ≡ latches_after (has_bit has) line polarity latch
settled_is has line polarity latch k l =
    put_is (has_bit has) (λ (y : ℕ). latch_after (bit_of line y) (bit_of polarity y) (bit_of latch y)) latch (bit_or latch (bit_and (bit_xor line polarity) has))
    (or_lt 32 latch (bit_and (bit_xor line polarity) has) l (omega (arith, and_le_r (bit_xor line polarity) has)))
    (λ y h. or-choice latch (bit_and (bit_xor line polarity) has) y ∙ rw (and-choice (bit_xor line polarity) has y, xor-choice line polarity y) (go (has_bit has y) (eqb (bit_of line y) (bit_of polarity y)) (bit_of latch y)))
  where
    go : (t u : Bool) (a : ℕ) → cond (eqb (cond t (cond u 0 1) 0) 1) 1 a ≡ cond t (cond (not u) 1 a) a
    go true true a = refl
    go true false a = refl
    go false u a = refl

-- One bit: bit k of b × 2^k is b.
one_bit : (k b : ℕ) → b < 2 → bit_of (2 ^ k * b) k ≡ b
one_bit k =
    each-bit (λ (b : ℕ). bit_of (2 ^ k * b) k ≡ b) (ap (λ (w : ℕ). bit_of w k) (mul-zero (2 ^ k)) ∙ none-of-zero k) (ap (λ (w : ℕ). bit_of w k) (mul-one (2 ^ k)) ∙ power-on k)

pub one-fits : (k b : ℕ) → k < 32 → b < 2 → 2 ^ k * b < 2 ^ 32
one-fits k b h =
    let p : 2 ^ k ≤ 2 ^ 31 = pow_mono {i = k} {j = 31} (omega arith) in
    each-bit (λ (i : ℕ). 2 ^ k * i < 2 ^ 32) (omega arith) (omega arith) b

pub with-bit-is : (w k v : ℕ) → bits_put (has_bit (2 ^ k)) (bit_of (2 ^ k * (v % 2))) w ≡ bits_put (λ (z : ℕ). eqb z k) (λ (z : ℕ). v % 2) w
with-bit-is w k v =
    put_same (has_bit (2 ^ k)) (bit_of (2 ^ k * (v % 2))) w (λ (z : ℕ). eqb z k) (λ (z : ℕ). v % 2) w (λ y h. rw (has-power k y) (go y (cases_eq y k)))
  where
    go : (y : ℕ) → (y ≡ k) ⊎ (y ≡ k → ⊥) → cond (eqb y k) (bit_of (2 ^ k * (v % 2)) y) (bit_of w y) ≡ cond (eqb y k) (v % 2) (bit_of w y)
    go y (inl e) = rw (e, one_bit k (v % 2) (omega arith))
    go y (inr n) = rw (ne_eqb y k n)
