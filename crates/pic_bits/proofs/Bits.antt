-- The bits of a word: of its half, of a power of two, of `and`, `or` and `exclusive or`, and of a word with one bit changed.
use Prim.Native.Nat.{ℕ, zero, suc, ◌-◌, ◌*◌, ◌/◌, ◌%◌, ◌^◌, ◌<◌, ◌≤◌}
use Prim.{tt}
use mathlib.Core.Path.{◌≡◌, refl, sym, ap, ◌∙◌, subst}
use mathlib.Core.Bool.{cond}
use mathlib.Core.Logic.{◌⊎◌, inl, inr}
use native.Mathlib.Omega.{arith}
use native.Mathlib.Nat.{zero-lt-suc, pow-suc, pow-succ', div-one, zero-div, one-mul, div-div-eq-div-mul, div-lt_iff_lt-mul}
use lib.Bits.{bit_and, bit_or, bit_xor, and_shr, or_shr, xor_shr, and_mod, or_mod, xor_mod, xor_zero_r}
use lib.Dec.{eqb, lit<}
use lib.Pow.{pow_pos, shl_exact}
use borrow.Author.Tests.{eq-eqb, ne_eqb}
use Rattle.std.proofs.lemmas.Bool.{cases_eq}
use Rattle.pic_bits.specs.Bits.{bit_of, has_bit}

-- Bit y + 1 of a word is bit y of its half.
pub bit-half : (w y : ℕ) → bit_of w (suc y) ≡ bit_of (w / 2) y
bit-half w y = ap (λ (x : ℕ). x % 2) (ap (λ (x : ℕ). w / x) (pow-succ' 2 y) ∙ sym (div-div-eq-div-mul w 2 (2 ^ y)))

pub bit-zero : (w : ℕ) → bit_of w 0 ≡ w % 2
bit-zero w = ap (λ (x : ℕ). x % 2) (div-one w)

pub none-of-zero : (y : ℕ) → bit_of 0 y ≡ 0
none-of-zero y = ap (λ (i : ℕ). i % 2) (zero-div (2 ^ y))

pub bit-lt : (w y : ℕ) → bit_of w y < 2
bit-lt w y = omega arith

-- A bit is 0 or 1: what holds of both holds of it.
pub each-bit : (P : ℕ → Type 0) → P 0 → P 1 → (b : ℕ) → b < 2 → P b
each-bit P p q zero l = p
each-bit P p q (suc zero) l = q
each-bit P p q (suc (suc b)) l = absurd (omega arith)

pub both_bits : (P : ℕ → ℕ → Type 0) → P 0 0 → P 0 1 → P 1 0 → P 1 1 → (a b : ℕ) → a < 2 → b < 2 → P a b
both_bits P p q r s a b ha hb =
    each-bit (λ (i : ℕ). P i b) (each-bit (λ (j : ℕ). P 0 j) p q b hb) (each-bit (λ (j : ℕ). P 1 j) r s b hb) a ha

pub zero-or-one : (b : ℕ) → b < 2 → (b ≡ 0) ⊎ (b ≡ 1)
zero-or-one = each-bit (λ (b : ℕ). (b ≡ 0) ⊎ (b ≡ 1)) (inl refl) (inr refl)

pub bit-cases : (w y : ℕ) → (bit_of w y ≡ 0) ⊎ (bit_of w y ≡ 1)
bit-cases w y = zero-or-one (bit_of w y) (bit-lt w y)

pub half-less : (k w : ℕ) → w < 2 ^ suc k → w / 2 < 2 ^ k
half-less k w h = (div-lt_iff_lt-mul (zero-lt-suc 1)).1 (subst (λ (x : ℕ). w < x) (pow-suc 2 k) h)

-- Words of k bits with the same bits are the same.
pub same_bits : (k a b : ℕ) → a < 2 ^ k → b < 2 ^ k → ((y : ℕ) → y < k → bit_of a y ≡ bit_of b y) → a ≡ b
same_bits zero a b ha hb h = omega arith
same_bits (suc k) a b ha hb h =
    let e : a % 2 ≡ b % 2 = sym (bit-zero a) ∙ h 0 (omega arith) ∙ bit-zero b in
    let r : a / 2 ≡ b / 2 = same_bits k (a / 2) (b / 2) (half-less k a ha) (half-less k b hb) (λ y l. sym (bit-half a y) ∙ h (suc y) (omega arith) ∙ bit-half b y) in
    omega arith

-- The bits of what is worked out for all bits at once.
pub bit-and : (a b y : ℕ) → bit_of (bit_and a b) y ≡ bit_and (bit_of a y) (bit_of b y)
bit-and a b y = ap (λ (n : ℕ). n % 2) (and_shr a b y) ∙ and_mod (a / 2 ^ y) (b / 2 ^ y) 1

pub bit-or : (a b y : ℕ) → bit_of (bit_or a b) y ≡ bit_or (bit_of a y) (bit_of b y)
bit-or a b y = ap (λ (n : ℕ). n % 2) (or_shr a b y) ∙ or_mod (a / 2 ^ y) (b / 2 ^ y) 1

pub bit-xor : (a b y : ℕ) → bit_of (bit_xor a b) y ≡ bit_xor (bit_of a y) (bit_of b y)
bit-xor a b y = ap (λ (n : ℕ). n % 2) (xor_shr a b y) ∙ xor_mod (a / 2 ^ y) (b / 2 ^ y) 1

-- The same as choices.
module _ (a b y : ℕ) where
  pub and-choice : bit_of (bit_and a b) y ≡ cond (has_bit b y) (bit_of a y) 0
  and-choice =
      bit-and a b y ∙ both_bits (λ (i j : ℕ). bit_and i j ≡ cond (eqb j 1) i 0) refl refl refl refl (bit_of a y) (bit_of b y) (bit-lt a y) (bit-lt b y)

  pub or-choice : bit_of (bit_or a b) y ≡ cond (has_bit b y) 1 (bit_of a y)
  or-choice =
      bit-or a b y ∙ both_bits (λ (i j : ℕ). bit_or i j ≡ cond (eqb j 1) 1 i) refl refl refl refl (bit_of a y) (bit_of b y) (bit-lt a y) (bit-lt b y)

  pub xor-choice : bit_of (bit_xor a b) y ≡ cond (eqb (bit_of a y) (bit_of b y)) 0 1
  xor-choice =
      bit-xor a b y ∙ both_bits (λ (i j : ℕ). bit_xor i j ≡ cond (eqb i j) 0 1) refl refl refl refl (bit_of a y) (bit_of b y) (bit-lt a y) (bit-lt b y)

-- All bits of 2^k - 1 below k are set.
pub bit-ones : (k y : ℕ) → y < k → bit_of (2 ^ k - 1) y ≡ 1
bit-ones zero y h = absurd (omega arith)
bit-ones (suc k) zero h =
    let p : 0 < 2 ^ k = pow_pos k in
    let e : 2 ^ suc k ≡ 2 * 2 ^ k = pow-succ' 2 k in
    omega (arith, p, e)
bit-ones (suc k) (suc y) h =
    let p : 0 < 2 ^ k = pow_pos k in
    let e : 2 ^ suc k ≡ 2 * 2 ^ k = pow-succ' 2 k in
    let a : (2 ^ suc k - 1) / 2 ≡ 2 ^ k - 1 = omega (arith, p, e) in
    bit-half (2 ^ suc k - 1) y ∙ ap (λ (w : ℕ). bit_of w y) a ∙ bit-ones k y (omega (arith, h))

-- The bits of a power of two.
power-half : (y : ℕ) → 2 ^ suc y / 2 ≡ 2 ^ y
power-half y = let e = pow-suc 2 y in omega arith

power-even : (y : ℕ) → 2 ^ suc y % 2 ≡ 0
power-even y = let e = pow-suc 2 y in omega arith

pub power-on : (y : ℕ) → bit_of (2 ^ y) y ≡ 1
power-on zero = bit-zero 1
power-on (suc y) = bit-half (2 ^ suc y) y ∙ ap (λ (x : ℕ). bit_of x y) (power-half y) ∙ power-on y

pub power-off : (y z : ℕ) → (z ≡ y → ⊥) → bit_of (2 ^ y) z ≡ 0
power-off zero zero n = absurd (n refl)
power-off zero (suc z) n = bit-half 1 z ∙ none-of-zero z
power-off (suc y) zero n = bit-zero (2 ^ suc y) ∙ power-even y
power-off (suc y) (suc z) n = bit-half (2 ^ suc y) z ∙ ap (λ (x : ℕ). bit_of x z) (power-half y) ∙ power-off y z (λ e. n (ap suc e))

pub has-power : (y z : ℕ) → has_bit (2 ^ y) z ≡ eqb z y
has-power y z = go (cases_eq z y)
  where
    go : (z ≡ y) ⊎ (z ≡ y → ⊥) → has_bit (2 ^ y) z ≡ eqb z y
    go (inl e) = rw (e, power-on y, eq-eqb y y refl)
    go (inr n) = rw (power-off y z n, ne_eqb z y n)

-- Bit y changed: every other bit stays.
pub toggle-other : (w y z : ℕ) → (z ≡ y → ⊥) → bit_of (bit_xor w (2 ^ y)) z ≡ bit_of w z
toggle-other w y z n = bit-xor w (2 ^ y) z ∙ ap (bit_xor (bit_of w z)) (power-off y z n) ∙ xor_zero_r (bit_of w z)

pub toggle-same : (w y : ℕ) → bit_of (bit_xor w (2 ^ y)) y ≡ bit_xor (bit_of w y) 1
toggle-same w y = bit-xor w (2 ^ y) y ∙ ap (bit_xor (bit_of w y)) (power-on y)

-- A word with bit t set is 2^t at least.
pub bit_le : (t w : ℕ) → bit_of w t ≡ 1 → 2 ^ t ≤ w
bit_le zero w h = let b : w % 2 ≡ 1 = sym (bit-zero w) ∙ h in omega (arith, b)
bit_le (suc t) w h =
    let e : 2 ^ suc t ≡ 2 * 2 ^ t = pow-succ' 2 t in
    let i : 2 ^ t ≤ w / 2 = bit_le t (w / 2) (sym (bit-half w t) ∙ h) in
    omega (arith, e, i)

-- The half of a word without bit t + 1 is its half without bit t.
half-clear : (t w : ℕ) → (w - 2 ^ suc t) / 2 ≡ w / 2 - 2 ^ t
half-clear t w = let e : 2 ^ suc t ≡ 2 * 2 ^ t = pow-succ' 2 t in omega (arith, e)

-- A set bit taken away: it is off, and every other stays.
pub clear-same : (t w : ℕ) → bit_of w t ≡ 1 → bit_of (w - 2 ^ t) t ≡ 0
clear-same zero w h = let b : w % 2 ≡ 1 = sym (bit-zero w) ∙ h in bit-zero (w - 1) ∙ omega (arith, b)
clear-same (suc t) w h =
    bit-half (w - 2 ^ suc t) t ∙ ap (λ (n : ℕ). bit_of n t) (half-clear t w) ∙ clear-same t (w / 2) (sym (bit-half w t) ∙ h)

pub clear-other : (t y w : ℕ) → bit_of w t ≡ 1 → (y ≡ t → ⊥) → bit_of (w - 2 ^ t) y ≡ bit_of w y
clear-other zero zero w h n = absurd (n refl)
clear-other zero (suc y) w h n =
    let b : w % 2 ≡ 1 = sym (bit-zero w) ∙ h in
    let e : (w - 1) / 2 ≡ w / 2 = omega (arith, b) in
    bit-half (w - 1) y ∙ ap (λ (m : ℕ). bit_of m y) e ∙ sym (bit-half w y)
clear-other (suc t) zero w h n =
    let l : 2 ^ suc t ≤ w = bit_le (suc t) w h in
    let e : 2 ^ suc t ≡ 2 * 2 ^ t = pow-succ' 2 t in
    bit-zero (w - 2 ^ suc t) ∙ omega (arith, l, e) ∙ sym (bit-zero w)
clear-other (suc t) (suc y) w h n =
    bit-half (w - 2 ^ suc t) y
    ∙ ap (λ (m : ℕ). bit_of m y) (half-clear t w)
    ∙ clear-other t y (w / 2) (sym (bit-half w t) ∙ h) (λ e. n (ap suc e))
    ∙ sym (bit-half w y)

-- What the code shifts is that power of two.
pub one_shifted : (y : ℕ) → y < 32 → 1 * 2 ^ y % 2 ^ 32 ≡ 2 ^ y
one_shifted y h = shl_exact {a = 1} 1 y 32 (lit< tt) (omega (arith, h)) ∙ one-mul (2 ^ y)
