-- What the code makes of a word is what 01 says of each of its sources.
use Prim.Native.Nat.{ℕ, ◌%◌, ◌^◌, ◌<◌}
use mathlib.Core.Path.{◌≡◌, refl, sym, ap, ◌∙◌}
use mathlib.Core.Bool.{Bool, true, false, cond, not, ◌&&◌}
use native.Mathlib.Omega.{arith}
use lib.Bits.{bit_and, bit_xor, and_le_r}
use lib.Dec.{eqb}
use Rattle.pic_source.specs.Sources.{is_pending, latch_after}
use Rattle.pic_bits.specs.Bits.{bit_of, has_bit, word_of_bits}
use Rattle.pic_bits.proofs.Bits.{each-bit, bit-lt, bit-cases, has-power, and-choice, xor-choice}
use Rattle.pic_bits.proofs.Words.{bit-number, bit-of-word, word-is, word_same as bits-same}
use Rattle.pic_words.specs.declared.Word.{Word}
use Rattle.pic_words.specs.Words.{Source, source_at, word_of, changed, changed_at, pending_source, waiting_source, pending_of, ready_of, bits_put, latches_after}
use Rattle.pic_words.proofs.Put.{put-bit, put_on, put-off, put_same}

-- Bits where a latch is chosen by the type, else whether the line is active: 01's pending.
pub pending-is : (w : Word) (has : ℕ) → has < 2 ^ 32
    → bit_and (bits_put (has_bit w.trigger) (bit_of w.latch) (bit_xor w.line w.polarity)) has ≡ pending_of w has
unfolding pending_of is_pending
pending-is w has l =
    let p = bits_put (has_bit w.trigger) (bit_of w.latch) (bit_xor w.line w.polarity) in
    word-is (λ (y : ℕ). has_bit has y && pending_source (source_at w y)) 32 (bit_and p has) (omega (arith, and_le_r p has))
    (λ y h. and-choice p has y ∙ rw (put-bit (has_bit w.trigger) (bit_of w.latch) (bit_xor w.line w.polarity) y h (bit-lt w.latch y), xor-choice w.line w.polarity y) (go y (has_bit has y)))
  where
    active : (t : Bool) → ◌≡◌ {A = ℕ} (cond t 0 1) (cond (not t) 1 0)
    active true = refl
    active false = refl

    go : (y : ℕ) (t : Bool) → cond t (cond (has_bit w.trigger y) (bit_of w.latch y) (cond (eqb (bit_of w.line y) (bit_of w.polarity y)) 0 1)) 0
        ≡ cond (t && pending_source (source_at w y)) 1 0
    go y false = refl
    go y true =
        each-bit (λ (b : ℕ). cond (eqb b 1) (bit_of w.latch y) (cond (eqb (bit_of w.line y) (bit_of w.polarity y)) 0 1)
        ≡ cond (cond (eqb b 0) (not (eqb (bit_of w.line y) (bit_of w.polarity y))) (eqb (bit_of w.latch y) 1)) 1 0)
        (active (eqb (bit_of w.line y) (bit_of w.polarity y))) (sym (bit-number (bit_of w.latch y) (bit-cases w.latch y))) (bit_of w.trigger y) (bit-lt w.trigger y)

pub ready-is : (w : Word) (has : ℕ) → w.enable < 2 ^ 32 → bit_and (pending_of w has) w.enable ≡ ready_of w has
unfolding pending_of ready_of
ready-is w has l =
    word-is (λ (y : ℕ). has_bit has y && waiting_source (source_at w y)) 32 (bit_and (pending_of w has) w.enable) (omega (arith, and_le_r (pending_of w has) w.enable))
    (λ y h. and-choice (pending_of w has) w.enable y ∙ rw (bit-of-word (λ (z : ℕ). has_bit has z && pending_source (source_at w z)) 32 y h) (go (has_bit w.enable y) (has_bit has y) (pending_source (source_at w y))))
  where
    go : (e t p : Bool) → ◌≡◌ {A = ℕ} (cond e (cond (t && p) 1 0) 0) (cond (t && (e && p)) 1 0)
    go true t p = refl
    go false true p = refl
    go false false p = refl

-- A word of which some sources are changed, by its five words.
word_same : (v w : Word) → v.enable ≡ w.enable → v.trigger ≡ w.trigger → v.polarity ≡ w.polarity → v.line ≡ w.line → v.latch ≡ w.latch → v ≡ w
word_same v w e r p l k = λ i. record { enable = e i; trigger = r i; polarity = p i; line = l i; latch = k i }

module _ (w : Word) (at : ℕ → Bool) (change : ℕ → Source → Source) where
  -- The new values of the sources, and the words that they make.
  abbrev next : (Source → ℕ) → ℕ → ℕ
  next value y = value (change y (source_at w y))

  value-put : (value : Source → ℕ) (b : ℕ) → ((y : ℕ) → value (source_at w y) ≡ bit_of b y)
      → bits_put at (next value) b ≡ word_of_bits (λ (y : ℕ). eqb (value (changed_at w at change y)) 1)
  unfolding bits_put
  value-put value b e =
      bits-same (λ (y : ℕ). eqb (cond (at y) (next value y) (bit_of b y)) 1) (λ (y : ℕ). eqb (value (changed_at w at change y)) 1) 32 (λ y l. ap (λ (i : ℕ). eqb i 1) (go y (at y)))
    where
      go : (y : ℕ) (t : Bool) → cond t (next value y) (bit_of b y) ≡ value (cond t (change y (source_at w y)) (source_at w y))
      go y true = refl
      go y false = sym (e y)

  pub changed-is : (r : Word)
      → r.enable ≡ bits_put at (next (λ (s : Source). s.enable)) w.enable
      → r.trigger ≡ bits_put at (next (λ (s : Source). s.trigger)) w.trigger
      → r.polarity ≡ bits_put at (next (λ (s : Source). s.polarity)) w.polarity
      → r.line ≡ bits_put at (next (λ (s : Source). s.line)) w.line
      → r.latch ≡ bits_put at (next (λ (s : Source). s.latch)) w.latch
      → r ≡ changed w at change
  unfolding changed word_of
  changed-is r e t p l k =
      word_same r (changed w at change)
      (e ∙ value-put (λ (s : Source). s.enable) w.enable (λ y. refl))
      (t ∙ value-put (λ (s : Source). s.trigger) w.trigger (λ y. refl))
      (p ∙ value-put (λ (s : Source). s.polarity) w.polarity (λ y. refl))
      (l ∙ value-put (λ (s : Source). s.line) w.line (λ y. refl))
      (k ∙ value-put (λ (s : Source). s.latch) w.latch (λ y. refl))

-- The words of a word have 32 bits.
pub record Fitting (w : Word) : Type 0 where
  pub enable : w.enable < 2 ^ 32
  pub trigger : w.trigger < 2 ^ 32
  pub polarity : w.polarity < 2 ^ 32
  pub line : w.line < 2 ^ 32
  pub latch : w.latch < 2 ^ 32

-- Latches that are settled by new words ls, ps and ks: of the sources at these places they are settled by the new values.
settled-by : (at : ℕ → Bool) (line polarity latch : ℕ → ℕ) (was ls ps ks : ℕ)
    → ((y : ℕ) → y < 32 → at y ≡ true → bit_of ls y ≡ line y)
    → ((y : ℕ) → y < 32 → at y ≡ true → bit_of ps y ≡ polarity y)
    → ((y : ℕ) → y < 32 → at y ≡ true → bit_of ks y ≡ latch y)
    → ((y : ℕ) → y < 32 → at y ≡ false → bit_of ks y ≡ bit_of was y)
    → latches_after at ls ps ks ≡ bits_put at (λ (y : ℕ). latch_after (line y) (polarity y) (latch y)) was
settled-by at line polarity latch was ls ps ks a b c d =
    put_same at (λ (y : ℕ). latch_after (bit_of ls y) (bit_of ps y) (bit_of ks y)) ks at (λ (y : ℕ). latch_after (line y) (polarity y) (latch y)) was (λ y h. go y h (at y) refl)
  where
    go : (y : ℕ) → y < 32 → (t : Bool) → at y ≡ t → cond t (latch_after (bit_of ls y) (bit_of ps y) (bit_of ks y)) (bit_of ks y) ≡ cond t (latch_after (line y) (polarity y) (latch y)) (bit_of was y)
    go y h true e = rw (a y h e, b y h e, c y h e)
    go y h false e = d y h e

pub sampled-latch : (w : Word) (has v : ℕ)
    → latches_after (has_bit has) (bits_put (has_bit has) (bit_of v) w.line) w.polarity w.latch
    ≡ bits_put (has_bit has) (λ (y : ℕ). latch_after (bit_of v y) (bit_of w.polarity y) (bit_of w.latch y)) w.latch
sampled-latch w has v =
    settled-by (has_bit has) (bit_of v) (bit_of w.polarity) (bit_of w.latch) w.latch (bits_put (has_bit has) (bit_of v) w.line) w.polarity w.latch
    (λ y h e. put_on (has_bit has) (bit_of v) w.line y h (bit-lt v y) e) (λ y h e. refl) (λ y h e. refl) (λ y h e. refl)

-- The source of one bit.
module _ (w : Word) (k : ℕ) where
  abbrev at : ℕ → Bool
  at z = eqb z k

  only_at : (v : ℕ → ℕ) (b : ℕ) → bits_put (has_bit (2 ^ k)) v b ≡ bits_put at v b
  only_at v b = put_same (has_bit (2 ^ k)) v b at v b (λ y h. rw (has-power k y))

  pub gateway-latch : (v : ℕ) → latches_after (has_bit (2 ^ k)) w.line (bits_put at (λ (z : ℕ). v % 2) w.polarity) w.latch
      ≡ bits_put at (λ (y : ℕ). latch_after (bit_of w.line y) (v % 2) (bit_of w.latch y)) w.latch
  gateway-latch v =
      let p = bits_put at (λ (z : ℕ). v % 2) w.polarity in
      only_at (λ (y : ℕ). latch_after (bit_of w.line y) (bit_of p y) (bit_of w.latch y)) w.latch
      ∙ settled-by at (bit_of w.line) (λ (y : ℕ). v % 2) (bit_of w.latch) w.latch w.line p w.latch
      (λ y h e. refl) (λ y h e. put_on at (λ (z : ℕ). v % 2) w.polarity y h (omega arith) e) (λ y h e. refl) (λ y h e. refl)

  pub cleared-latch : latches_after (has_bit (2 ^ k)) w.line w.polarity (bits_put at (λ (z : ℕ). 0) w.latch)
      ≡ bits_put at (λ (y : ℕ). latch_after (bit_of w.line y) (bit_of w.polarity y) 0) w.latch
  cleared-latch =
      let l = bits_put at (λ (z : ℕ). 0) w.latch in
      only_at (λ (y : ℕ). latch_after (bit_of w.line y) (bit_of w.polarity y) (bit_of l y)) l
      ∙ settled-by at (bit_of w.line) (bit_of w.polarity) (λ (y : ℕ). 0) w.latch w.line w.polarity l
      (λ y h e. refl) (λ y h e. refl) (λ y h e. put_on at (λ (z : ℕ). 0) w.latch y h (omega arith) e) (λ y h e. put-off at (λ (z : ℕ). 0) w.latch y h (omega arith) e)
