-- What a word of pending bits has, and what is at each place once a word of values is taken.
use Prim.Native.Nat.{ℕ, zero, suc, ◌/◌, ◌≤◌, ◌<◌}
use mathlib.Core.Path.{◌≡◌, refl, sym, ap, ◌∙◌}
use mathlib.Core.Bool.{Bool, true, false, cond}
use mathlib.Core.List.{List}
use mathlib.Core.Logic.{◌⊎◌, inl, inr, ⊎_elim}
use native.Mathlib.Omega.{arith}
use lib.ListN.{length, get_or, set, length-set}
use lib.Seq.{get_or-set_same, get_or-set_other}
use Rattle.pic.specs.declared.Controller.{Controller}
use Rattle.pic_source.specs.Sources.{is_source}
use Rattle.pic.specs.Sources.{line_at, latch_at}
use Rattle.pic_bits.specs.Bits.{bit_of, source_of}
use Rattle.pic_bits.proofs.Words.{bit-of-word}
use Rattle.pic_registers.specs.Words.{places_to, places_of_word}
use Rattle.pic_registers.specs.Registers.{latch_sampled, sampled, pending_bit, pending_word}
use Rattle.std.proofs.lemmas.Bool.{cases_eq}
use Rattle.pic_source.proofs.Bools.{never}
use Rattle.pic_source.proofs.Ranges.{source-range}

-- Bit Y of meipX is the pending bit of source 32 × X + Y, and 0 where that is no source.
pub pending-bit : (c : Controller) (x y : ℕ) → y < 32 → bit_of (pending_word c x) y ≡ cond (pending_bit c x y) 1 0
pending-bit c x y h = bit-of-word (pending_bit c x) 32 y h

-- An array whose places of word x take values.
module _ (n : ℕ) (l : List ℕ) (x : ℕ) (f : ℕ → ℕ) where
  pub places-to-length : (k : ℕ) → length (places_to n l x f k) ≡ length l
  unfolding places_to
  places-to-length zero = refl
  places-to-length (suc k) = go (is_source n (source_of x k)) (places-to-length k)
    where
      go : (t : Bool) → length (places_to n l x f k) ≡ length l
          → length (cond t (set (places_to n l x f k) (source_of x k) (f k)) (places_to n l x f k)) ≡ length l
      go true i = simp length-set i
      go false i = i

  in-to : (k y : ℕ) → y < k → n < length l → is_source n (source_of x y) ≡ true → get_or (places_to n l x f k) (source_of x y) 0 ≡ f y
  unfolding places_to
  in-to zero y h b e = absurd (omega arith)
  in-to (suc k) y h b e = go (λ a. in-to k y a b e) (cases_eq y k) (is_source n (source_of x k)) refl
    where
      go : (y < k → get_or (places_to n l x f k) (source_of x y) 0 ≡ f y) → (y ≡ k) ⊎ (y ≡ k → ⊥) → (t : Bool) → is_source n (source_of x k) ≡ t
          → get_or (cond t (set (places_to n l x f k) (source_of x k) (f k)) (places_to n l x f k)) (source_of x y) 0 ≡ f y
      go i (inl z) true t =
          rw z (get_or-set_same (places_to n l x f k) (source_of x k) (f k) 0 (omega (arith, places-to-length k, (source-range n (source_of x k) t).1)))
      go i (inl z) false t = never (sym t ∙ ap (λ (j : ℕ). is_source n (source_of x j)) (sym z) ∙ e)
      go i (inr d) true t = get_or-set_other (places_to n l x f k) (source_of x k) (source_of x y) (f k) 0 (λ z. d (omega arith)) ∙ i (omega (arith, d))
      go i (inr d) false t = i (omega (arith, d))

  out-to : (k s : ℕ) → k ≤ 32 → (s / 32 ≡ x → ⊥) ⊎ (is_source n s ≡ false) → get_or (places_to n l x f k) s 0 ≡ get_or l s 0
  unfolding places_to
  out-to zero s h o = refl
  out-to (suc k) s h o = go (is_source n (source_of x k)) refl (out-to k s (omega arith) o)
    where
      apart : is_source n (source_of x k) ≡ true → s ≡ source_of x k → ⊥
      apart t z = ⊎_elim (λ d. d (omega arith)) (λ g. never (sym g ∙ ap (is_source n) z ∙ t)) o

      go : (t : Bool) → is_source n (source_of x k) ≡ t → get_or (places_to n l x f k) s 0 ≡ get_or l s 0
          → get_or (cond t (set (places_to n l x f k) (source_of x k) (f k)) (places_to n l x f k)) s 0 ≡ get_or l s 0
      go true t i = get_or-set_other (places_to n l x f k) (source_of x k) s (f k) 0 (apart t) ∙ i
      go false t i = i

  -- A source of the word has its value,
  pub place_in : (y : ℕ) → y < 32 → n < length l → is_source n (source_of x y) ≡ true → get_or (places_of_word n l x f) (source_of x y) 0 ≡ f y
  place_in y h b e = in-to 32 y h b e

  -- and no other place changes: none of another word, and none of no source.
  pub place_out : (s : ℕ) → (s / 32 ≡ x → ⊥) ⊎ (is_source n s ≡ false) → get_or (places_of_word n l x f) s 0 ≡ get_or l s 0
  place_out s o = out-to 32 s (omega arith) o

-- A sample: bit Y of word X becomes the line of source 32 × X + Y, and its latch follows. No other line and no other latch changes.
module _ (c : Controller) (x v : ℕ) where
  pub line-sampled : (y : ℕ) → y < 32 → c.sources < length c.line → is_source c.sources (source_of x y) ≡ true
      → line_at (sampled c x v) (source_of x y) ≡ bit_of v y
  line-sampled y = place_in c.sources c.line x (bit_of v) y

  pub line_kept : (s : ℕ) → (s / 32 ≡ x → ⊥) ⊎ (is_source c.sources s ≡ false) → line_at (sampled c x v) s ≡ line_at c s
  line_kept = place_out c.sources c.line x (bit_of v)

  pub latch-sampled : (y : ℕ) → y < 32 → c.sources < length c.latch → is_source c.sources (source_of x y) ≡ true
      → latch_at (sampled c x v) (source_of x y) ≡ latch_sampled c x v y
  latch-sampled y = place_in c.sources c.latch x (latch_sampled c x v) y

  pub latch-kept : (s : ℕ) → (s / 32 ≡ x → ⊥) ⊎ (is_source c.sources s ≡ false) → latch_at (sampled c x v) s ≡ latch_at c s
  latch-kept = place_out c.sources c.latch x (latch_sampled c x v)
