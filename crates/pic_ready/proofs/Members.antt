-- Who is in which set.
use Prim.Native.Nat.{ℕ, ◌/◌, ◌%◌, ◌^◌, ◌<◌, ◌≤◌}
use mathlib.Core.Path.{◌≡◌, sym, ap, ◌∙◌}
use mathlib.Core.Bool.{Bool}
use mathlib.Core.List.{List, []}
use mathlib.Core.Logic.{◌⊎◌, inl, inr}
use native.Mathlib.Omega.{arith}
use lib.ListN.{get_or}
use Rattle.pic_bits.specs.Bits.{source_of, word_of_bits, is_member, has_bit}
use Rattle.pic_bits.specs.Tables.{table_of}
use Rattle.pic_bits.specs.Tables.{Shaped}
use Rattle.pic_bits.proofs.Words.{has_word, word_lt}
use Rattle.pic_bits.proofs.Tables.{table_at, table-length, table-out}
use Rattle.pic_bits.proofs.Shapes.{table-shape}
use Rattle.pic_source.proofs.Bools.{le-cases}
use Rattle.pic_sets.proofs.Same.{sets_same}
use Rattle.pic_sets.specs.Sets.{in_set}
use Rattle.pic_ready.specs.Ready.{belongs, sets_by, fresh_of, Member}

-- Source s is in set r exactly where it is said to be.
pub in-sets : (has : ℕ → ℕ → Bool) (r s : ℕ) → r < 16 → s < 256 → is_member (get_or (sets_by has) r []) s ≡ has r s
in-sets has r s l k =
    let a : get_or (sets_by has) r [] ≡ table_of 8 (λ (x : ℕ). word_of_bits (λ (y : ℕ). has r (source_of x y))) = table_at (List ℕ) [] 16 _ r l in
    let b : get_or (table_of 8 (λ (x : ℕ). word_of_bits (λ (y : ℕ). has r (source_of x y)))) (s / 32) 0 ≡ word_of_bits (λ (y : ℕ). has r (source_of (s / 32) y)) =
    table_at ℕ 0 8 _ (s / 32) (omega arith) in
    let e : source_of (s / 32) (s % 32) ≡ s = omega arith in
    ap (λ (row : List ℕ). is_member row s) a ∙ ap (λ (w : ℕ). has_bit w (s % 32)) b ∙ has_word (λ (y : ℕ). has r (source_of (s / 32) y)) 32 (s % 32) (omega arith) ∙ ap (has r) e

pub member : Member
unfolding fresh_of
member c r s l k = in-sets (belongs c) r s l k

-- Sixteen sets of eight words.
pub by-shaped : (has : ℕ → ℕ → Bool) → Shaped 16 (sets_by has)
by-shaped has =
    table-shape 16 _ (λ r l. table-length 8 _)
    (λ r k l. word (λ (x : ℕ). word_of_bits (λ (y : ℕ). has r (source_of x y))) (λ x. word_lt (λ (y : ℕ). has r (source_of x y)) 32) k (le-cases 8 k))
  where
    word : (f : ℕ → ℕ) → ((x : ℕ) → f x < 2 ^ 32) → (k : ℕ) → (8 ≤ k) ⊎ (k < 8) → get_or (table_of 8 f) k 0 < 2 ^ 32
    word f h k (inl l) = rw (table-out 0 8 f k l) (omega arith)
    word f h k (inr l) = rw (table_at ℕ 0 8 f k l) (h k)

-- Sets are those of which this is said.
pub sets-are : (has : ℕ → ℕ → Bool) (sets : List (List ℕ)) → Shaped 16 sets → ((r s : ℕ) → r < 16 → s < 256 → in_set sets r s ≡ has r s) → sets ≡ sets_by has
sets-are has sets h e = sets_same sets (sets_by has) h (by-shaped has) (λ r s l k. e r s l k ∙ sym (in-sets has r s l k))

pub by-same : (f g : ℕ → ℕ → Bool) → ((r s : ℕ) → r < 16 → s < 256 → f r s ≡ g r s) → sets_by f ≡ sets_by g
by-same f g e = sets-are g (sets_by f) (by-shaped f) (λ r s l k. in-sets f r s l k ∙ e r s l k)
