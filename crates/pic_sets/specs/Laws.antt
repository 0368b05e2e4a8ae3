-- What the rules of the ready sets do, source by source: "The sixteen sets share one proof over the rank."
use Rattle.std.specs.Prelude.{ℕ, ◌-◌, ◌/◌, ◌%◌, ◌<◌, ◌≡◌, Bool, cond, not, ◌&&◌, List, eqb}
use Rattle.pic_source.specs.declared.Rank.{Rank}
use Rattle.pic_bits.specs.Bits.{has_bit}
use Rattle.pic_bits.specs.Tables.{Shaped}
use Rattle.pic_sets.specs.Sets.{in_set, flipped_at, updated_of, flipped_word, reversed_of}

-- One of two, and not both.
abbrev pub differs : Bool → Bool → Bool
differs a b = cond a (not b) b

-- Whether this is source s, and the set that of rank r.
abbrev pub is_in : ℕ → ℕ → ℕ → ℕ → Bool
is_in s r t q = eqb t s && eqb q r

-- After a flip: changed in the set of rank r for source s, and nowhere else.
abbrev pub FlipMember : Type 0
FlipMember =
    (sets : List (List ℕ)) → Shaped 16 sets → (r s q t : ℕ) → q < 16 → t < 256
    → in_set (flipped_at sets r s) q t ≡ differs (in_set sets q t) (is_in s r t q)

-- After an update: changed for its source alone, in the set of its old rank where it was ready, and in that of its new rank where it is.
abbrev pub UpdateMember : Type 0
UpdateMember =
    (sets : List (List ℕ)) → Shaped 16 sets → (s : ℕ) (old : Rank) (was : Bool) (new : Rank) (is : Bool) (q t : ℕ) → q < 16 → t < 256
    → in_set (updated_of sets s old was new is) q t ≡ differs (differs (in_set sets q t) (was && is_in s old.0 t q)) (is && is_in s new.0 t q)

-- After the sources of word x entered or left: changed for those whose bit of w is set, each in the set of its rank.
abbrev pub WordMember : Type 0
WordMember =
    (sets : List (List ℕ)) → Shaped 16 sets → (rank : ℕ → Rank) (x w q t : ℕ) → q < 16 → t < 256
    → in_set (flipped_word sets rank x w) q t ≡ differs (in_set sets q t) (eqb (t / 32) x && (has_bit w (t % 32) && eqb q (rank t).0))

-- After a reversal: what was in the set of rank 15 − q.
abbrev pub ReverseMember : Type 0
ReverseMember = (sets : List (List ℕ)) (q t : ℕ) → q < 16 → in_set (reversed_of sets) q t ≡ in_set sets (15 - q) t

-- Sixteen sets of eight words stay that.
pub record StayShaped (sets : List (List ℕ)) : Type 0 where
  pub flip : (r s : ℕ) → Shaped 16 (flipped_at sets r s)
  pub update : (s : ℕ) (old : Rank) (was : Bool) (new : Rank) (is : Bool) → Shaped 16 (updated_of sets s old was new is)
  pub word : (rank : ℕ → Rank) (x w : ℕ) → Shaped 16 (flipped_word sets rank x w)
  pub reverse : Shaped 16 (reversed_of sets)

abbrev pub ShapeKept : Type 0
ShapeKept = (sets : List (List ℕ)) → Shaped 16 sets → StayShaped sets

-- Sets with the same sources are the same.
abbrev pub SetsSame : Type 0
SetsSame =
    (a b : List (List ℕ)) → Shaped 16 a → Shaped 16 b → ((q t : ℕ) → q < 16 → t < 256 → in_set a q t ≡ in_set b q t) → a ≡ b
