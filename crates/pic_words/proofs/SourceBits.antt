-- The bits of the sources 1 to n in word x: the three cases of the code.
use Prim.Native.Nat.{ℕ, zero, suc, ◌+◌, ◌-◌, ◌*◌, ◌%◌, ◌^◌, ◌≤◌, ◌<◌}
use mathlib.Core.Path.{◌≡◌, refl, sym, ap, ◌∙◌}
use mathlib.Core.Bool.{Bool, true, false, ◌&&◌}
use native.Mathlib.Omega.{arith}
use lib.Dec.{leb, eqb-suc-zero}
use lib.Pow.{pow_mono}
use borrow.Author.Tests.{le-leb, lt-leb}
use Rattle.pic_source.specs.Sources.{is_source}
use Rattle.pic_bits.specs.Bits.{join_of, word_to, source_of}
use Rattle.pic_bits.proofs.Bits.{one_shifted}
use Rattle.pic_bits.proofs.Words.{word-off, word_on}
use Rattle.pic_words.specs.Words.{source_bits, low_of}

low-le : (x : ℕ) → low_of x ≤ 1
low-le zero = omega arith
low-le (suc x) = rw (eqb-suc-zero x) (omega arith)

low-power : (x : ℕ) → 2 ^ low_of x ≡ 1 + low_of x
low-power zero = refl
low-power (suc x) = rw (eqb-suc-zero x)

above : (n s : ℕ) → n < s → is_source n s ≡ false
above n s l = go (leb 1 s) (lt-leb s n l)
  where
    go : (t : Bool) {u : Bool} → u ≡ false → (t && u) ≡ false
    go true e = e
    go false e = refl

within : (n s : ℕ) → 1 ≤ s → s ≤ n → is_source n s ≡ true
within n s a b = rw (le-leb 1 s a, le-leb s n b)

module _ (n x : ℕ) where
  abbrev on : ℕ → Bool
  on y = is_source n (source_of x y)

  -- Nothing below the lowest source, all of the sources, nothing above the highest.
  low_word : word_to on (low_of x) ≡ 0
  unfolding word_to join_of
  low_word = go x
    where
      go : (x : ℕ) → word_to (λ (y : ℕ). is_source n (source_of x y)) (low_of x) ≡ 0
      go zero = refl
      go (suc x) = rw (eqb-suc-zero x)

  low-source : (y : ℕ) → low_of x ≤ y → 1 ≤ source_of x y
  low-source y = go x
    where
      go : (x : ℕ) → low_of x ≤ y → 1 ≤ 32 * x + y
      go zero h = omega arith
      go (suc x) h = omega arith

  filled : (k : ℕ) → low_of x ≤ k → 32 * x + k ≤ n + 1 → word_to on k ≡ 2 ^ k - 1 - low_of x
  filled k a h =
      let e : low_of x + (k - low_of x) ≡ k = omega arith in
      let w = word_on on (low_of x) (k - low_of x) (λ y p q. within n (source_of x y) (low-source y p) (omega (arith, q, h, a))) in
      let r : word_to on k + 2 ^ low_of x ≡ word_to on (low_of x) + 2 ^ k = rw e at w in
      omega (arith, r, low_word, low-power x)

  pub bits_none : n + 1 ≤ 32 * x → 0 ≡ source_bits n x
  unfolding source_bits word_to
  bits_none h = sym (word-off on 0 32 (λ y p q. above n (source_of x y) (omega arith)))

  module _ (low : ℕ) (e : low ≡ low_of x) where
    pub bits-all : 32 * x + 32 ≤ n + 1 → 4294967295 - low ≡ source_bits n x
    unfolding source_bits
    bits-all h = ap (λ (i : ℕ). 4294967295 - i) e ∙ sym (filled 32 (omega (arith, low-le x)) h)

    pub bits-some : 32 * x < n + 1 → n + 1 < 32 * x + 32 → 1 * 2 ^ (n + 1 - 32 * x) % 4294967296 - 1 - low ≡ source_bits n x
    unfolding source_bits
    bits-some h k =
        let d = n + 1 - 32 * x in
        let s : d + (32 - d) ≡ 32 = omega arith in
        let o : word_to on (d + (32 - d)) ≡ word_to on d = word-off on d (32 - d) (λ y p q. above n (source_of x y) (omega (arith, p))) in
        rw (one_shifted d (omega (arith, k)), e) (sym (filled d (omega (arith, low-le x, h)) (omega arith)) ∙ sym (rw s at o))

    pub bits_fit : 32 * x < n + 1 → n + 1 < 32 * x + 32 → 1 + low ≤ 1 * 2 ^ (n + 1 - 32 * x) % 4294967296
    bits_fit h k =
        let p : 2 ^ 1 ≤ 2 ^ (n + 1 - 32 * x) = pow_mono {i = 1} {j = n + 1 - 32 * x} (omega (arith, h)) in
        rw (one_shifted (n + 1 - 32 * x) (omega (arith, k))) (omega (arith, p, low-le x, e))
