-- The bits of a word taken one after the other, from the lowest up.
use Prim.Native.Nat.{ℕ, zero, suc, ◌+◌, ◌-◌, ◌^◌, ◌<◌, ◌≤◌}
use mathlib.Core.Path.{◌≡◌, refl, sym, ap, ◌∙◌}
use mathlib.Core.List.{List}
use mathlib.Core.Logic.{◌⊎◌, inl, inr}
use native.Mathlib.Omega.{arith}
use Rattle.pic_source.specs.declared.Rank.{Rank}
use Rattle.std.proofs.lemmas.Bool.{cases_eq}
use Rattle.pic_source.proofs.Bools.{le-cases}
use Rattle.pic_bits.specs.Bits.{bit_of, source_of, Lowest}
use Rattle.pic_bits.proofs.Bits.{none-of-zero, clear-same, clear-other}
use Rattle.pic_sets.specs.Sets.{flipped_at, flipped_if, flipped_to, flipped_word}

module _ (sets : List (List ℕ)) (rank : ℕ → Rank) (x w : ℕ) where
  -- A bit that is not set changes nothing, one that is set flips its source.
  to-off : (k : ℕ) → bit_of w k ≡ 0 → flipped_to sets rank x w (suc k) ≡ flipped_to sets rank x w k
  unfolding flipped_to flipped_if
  to-off k h = rw h

  to-on : (k : ℕ) → bit_of w k ≡ 1 → flipped_to sets rank x w (suc k) ≡ flipped_at (flipped_to sets rank x w k) (rank (source_of x k)).0 (source_of x k)
  unfolding flipped_to flipped_if
  to-on k h = rw h

  -- Bits from k on that are not set are passed over.
  skip : (k d : ℕ) → ((y : ℕ) → k ≤ y → y < k + d → bit_of w y ≡ 0) → flipped_to sets rank x w (k + d) ≡ flipped_to sets rank x w k
  skip k zero h = let e : k + 0 ≡ k = omega arith in ap (flipped_to sets rank x w) e
  skip k (suc d) h =
      let e : k + suc d ≡ suc (k + d) = omega arith in
      ap (flipped_to sets rank x w) e ∙ to-off (k + d) (h (k + d) (omega arith) (omega arith)) ∙ skip k d (λ y a b. h y a (omega (arith, b)))

  -- The bits below k are done, and those from k up are left.
  pub record Done (left k : ℕ) (now : List (List ℕ)) : Type 0 where
    pub within : k ≤ 32
    pub low : (y : ℕ) → y < k → bit_of left y ≡ 0
    pub high : (y : ℕ) → k ≤ y → bit_of left y ≡ bit_of w y
    pub is : now ≡ flipped_to sets rank x w k

  pub begun : Done w 0 sets
  unfolding flipped_to
  begun = record { within = omega arith; low = λ y a. absurd (omega arith); high = λ y a. refl; is = refl }

  -- One turn: the lowest bit that is left.
  pub turned : (left k t : ℕ) (now : List (List ℕ)) → Done left k now → Lowest 32 left t
      → Done (left - 2 ^ t) (t + 1) (flipped_at now (rank (source_of x t)).0 (source_of x t))
  turned left k t now d l =
      record {
        within = omega (arith, l.within);
        low = λ y a. lows y a (cases_eq y t);
        high = λ y a. clear-other t y left l.on (λ i. absurd (omega arith)) ∙ d.high y (omega (arith, a, above));
        is = ap (λ (s : List (List ℕ)). flipped_at s (rank (source_of x t)).0 (source_of x t)) (d.is ∙ passed) ∙ sym (to-on t (sym (d.high t above) ∙ l.on)) ∙ ap (flipped_to sets rank x w) plus;
      }
    where
      plus : suc t ≡ t + 1
      plus = omega arith

      above : k ≤ t
      above = go (le-cases k t)
        where
          go : (k ≤ t) ⊎ (t < k) → k ≤ t
          go (inl a) = a
          go (inr a) = let z : bit_of left t ≡ 0 = d.low t a in absurd (omega (arith, z, l.on))

      lows : (y : ℕ) → y < t + 1 → (y ≡ t) ⊎ (y ≡ t → ⊥) → bit_of (left - 2 ^ t) y ≡ 0
      lows y a (inl i) = ap (bit_of (left - 2 ^ t)) i ∙ clear-same t left l.on
      lows y a (inr n) = clear-other t y left l.on n ∙ l.below y (omega (arith, a, n))

      sum : k + (t - k) ≡ t
      sum = omega (arith, above)

      passed : flipped_to sets rank x w k ≡ flipped_to sets rank x w t
      passed = sym (skip k (t - k) (λ y a b. sym (d.high y a) ∙ l.below y (omega (arith, b, above)))) ∙ ap (flipped_to sets rank x w) sum

  pub ended : (k : ℕ) (now : List (List ℕ)) → Done 0 k now → now ≡ flipped_word sets rank x w
  unfolding flipped_word
  ended k now d =
      d.is ∙ sym (skip k (32 - k) (λ y a b. sym (d.high y a) ∙ none-of-zero y)) ∙ ap (flipped_to sets rank x w) (omega (arith, d.within))
