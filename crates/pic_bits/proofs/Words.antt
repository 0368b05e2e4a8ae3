-- Words made of bits.
use Prim.Native.Nat.{ℕ, zero, suc, ◌+◌, ◌-◌, ◌*◌, ◌/◌, ◌%◌, ◌^◌, ◌≤◌, ◌<◌}
use mathlib.Core.Path.{◌≡◌, refl, sym, ap, ◌∙◌}
use mathlib.Core.Bool.{Bool, true, false, cond}
use mathlib.Core.Logic.{◌⊎◌, inl, inr}
use native.Mathlib.Numerals.{add-one}
use native.Mathlib.Nat.{add-mul-div_left, add-div_right, add-mul-mod_self_left, div-eq_of_lt, pow-succ'}
use native.Mathlib.Omega.{arith}
use lib.Bits.{bit_or, or_shifted_r}
use lib.Dec.{eqb}
use lib.Pow.{pow-add, pow_pos}
use Rattle.std.proofs.lemmas.Bool.{cases_eq}
use Rattle.pic_bits.specs.Bits.{bit_of, has_bit, join_of, word_to, BitOfWord, WordOfItsBits}
use Rattle.pic_bits.proofs.Bits.{zero-or-one, bit-cases, same_bits, one_shifted}

-- A bit above all of a word's, set by an or.
pub join-set : (w y : ℕ) → y < 32 → w < 2 ^ y → bit_or w (1 * 2 ^ y % 2 ^ 32) ≡ w + 2 ^ y
join-set w y h l = rw (one_shifted y h) (let e : 1 * 2 ^ y ≡ 2 ^ y = omega arith in ap (bit_or w) (sym e) ∙ or_shifted_r 1 y w l ∙ omega arith)

pub join-lt : (w y : ℕ) (on : Bool) → w < 2 ^ y → join_of w y on < 2 ^ (y + 1)
unfolding join_of
join-lt w y true h = omega (arith, pow-add 2 y 1)
join-lt w y false h = omega (arith, pow-add 2 y 1)

-- Bits of a word whose next bit is set.
bit_below : (w y d : ℕ) → bit_of (w + 2 ^ (y + suc d)) y ≡ bit_of w y
bit_below w y d = rw (pow-add 2 y (suc d), add-mul-div_left w (2 ^ suc d) (pow_pos y), pow-succ' 2 d, add-mul-mod_self_left (w / 2 ^ y) 2 (2 ^ d))

-- What a join does to the bits up to the joined one.
join-at : (w y : ℕ) (on : Bool) → w < 2 ^ y → bit_of (join_of w y on) y ≡ cond on 1 0
unfolding join_of
join-at w y true h = rw (add-div_right w (pow_pos y), div-eq_of_lt h)
join-at w y false h = rw (div-eq_of_lt h)

join-below : (w n y : ℕ) (on : Bool) → y < n → bit_of (join_of w n on) y ≡ bit_of w y
unfolding join_of
join-below w n y true h = let e : n ≡ y + suc (n - suc y) = omega arith in rw e (bit_below w y (n - suc y))
join-below w n y false h = refl

-- A word made of n bits has n bits, and bit y of it is the one that is asked for.
pub word_lt : (on : ℕ → Bool) (n : ℕ) → word_to on n < 2 ^ n
unfolding word_to
word_lt on zero = omega arith
word_lt on (suc n) = rw add-one at (join-lt (word_to on n) n (on n) (word_lt on n))

pub bit-of-word : BitOfWord
unfolding word_to
bit-of-word on zero y h = absurd (omega arith)
bit-of-word on (suc n) y h = go (λ l. bit-of-word on n y l) (cases_eq y n)
  where
    go : (y < n → bit_of (word_to on n) y ≡ cond (on y) 1 0) → (y ≡ n) ⊎ (y ≡ n → ⊥) → bit_of (join_of (word_to on n) n (on n)) y ≡ cond (on y) 1 0
    go i (inl e) = rw e (join-at (word_to on n) n (on n) (word_lt on n))
    go i (inr d) = join-below (word_to on n) n y (on n) (omega (arith, d)) ∙ i (omega (arith, d))

-- A bit as the number of a test.
pub bit-number : (b : ℕ) → (b ≡ 0) ⊎ (b ≡ 1) → cond (eqb b 1) 1 0 ≡ b
bit-number b (inl e) = rw e
bit-number b (inr e) = rw e

-- A word whose bits are these.
pub word-is : (on : ℕ → Bool) (n w : ℕ) → w < 2 ^ n → ((y : ℕ) → y < n → bit_of w y ≡ cond (on y) 1 0) → w ≡ word_to on n
word-is on n w l h = same_bits n w (word_to on n) l (word_lt on n) (λ y k. h y k ∙ sym (bit-of-word on n y k))

pub word_same : (f g : ℕ → Bool) (n : ℕ) → ((y : ℕ) → y < n → f y ≡ g y) → word_to f n ≡ word_to g n
word_same f g n h = word-is g n (word_to f n) (word_lt f n) (λ y k. bit-of-word f n y k ∙ ap (λ (t : Bool). cond t 1 0) (h y k))

pub word-of-its-bits : WordOfItsBits
word-of-its-bits n w l = word-is (has_bit w) n w l (λ y k. sym (bit-number (bit_of w y) (bit-cases w y)))

-- A word whose bits are these numbers, and the bits of one made of them.
pub bits_are : (w : ℕ) (b : ℕ → ℕ) (n : ℕ) → w < 2 ^ n → ((y : ℕ) → y < n → bit_of w y ≡ b y) → w ≡ word_to (λ (y : ℕ). eqb (b y) 1) n
bits_are w b n l h =
    word-is (λ (y : ℕ). eqb (b y) 1) n w l (λ y k. sym (bit-number (bit_of w y) (bit-cases w y)) ∙ ap (λ (i : ℕ). cond (eqb i 1) 1 0) (h y k))

pub bit-of-bits : (b : ℕ → ℕ) (n y : ℕ) → y < n → b y < 2 → bit_of (word_to (λ (z : ℕ). eqb (b z) 1) n) y ≡ b y
bit-of-bits b n y l k = bit-of-word (λ (z : ℕ). eqb (b z) 1) n y l ∙ bit-number (b y) (zero-or-one (b y) k)

-- A set bit of a word made of bits is one that was asked for.
pub has_word : (on : ℕ → Bool) (n y : ℕ) → y < n → has_bit (word_to on n) y ≡ on y
has_word on n y h = rw (bit-of-word on n y h) (go (on y))
  where
    go : (t : Bool) → eqb (cond t 1 0) 1 ≡ t
    go true = refl
    go false = refl

-- Words whose bits from b on are all off, or all on.
module _ (on : ℕ → Bool) where
  pub word-off : (b d : ℕ) → ((y : ℕ) → b ≤ y → y < b + d → on y ≡ false) → word_to on (b + d) ≡ word_to on b
  unfolding word_to join_of
  word-off b zero h = let e : b + 0 ≡ b = omega arith in ap (word_to on) e
  word-off b (suc d) h =
      let e : b + suc d ≡ suc (b + d) = omega arith in
      ap (word_to on) e ∙ ap (λ (t : Bool). join_of (word_to on (b + d)) (b + d) t) (h (b + d) (omega arith) (omega arith)) ∙ word-off b d (λ y p q. h y p (omega (arith, q)))

  pub word_on : (b d : ℕ) → ((y : ℕ) → b ≤ y → y < b + d → on y ≡ true) → word_to on (b + d) + 2 ^ b ≡ word_to on b + 2 ^ (b + d)
  unfolding word_to join_of
  word_on b zero h = let e : b + 0 ≡ b = omega arith in ap (λ (k : ℕ). word_to on k + 2 ^ b) e ∙ ap (λ (k : ℕ). word_to on b + 2 ^ k) (sym e)
  word_on b (suc d) h =
      let e : b + suc d ≡ suc (b + d) = omega arith in
      let i : word_to on (b + d) + 2 ^ b ≡ word_to on b + 2 ^ (b + d) = word_on b d (λ y p q. h y p (omega (arith, q))) in
      let j : word_to on (b + suc d) ≡ word_to on (b + d) + 2 ^ (b + d) = ap (word_to on) e ∙ ap (λ (t : Bool). join_of (word_to on (b + d)) (b + d) t) (h (b + d) (omega arith) (omega arith)) in
      let p : 2 ^ (b + suc d) ≡ 2 * 2 ^ (b + d) = ap (λ (k : ℕ). 2 ^ k) e ∙ pow-succ' 2 (b + d) in
      omega (arith, i, j, p)
