-- Document 02, No. 9: the winner from the ready sets. A set has a bit for each number 0 to 255; set r is that of rank r.
use Rattle.std.specs.Prelude.{ℕ, zero, suc, ◌≤◌, ◌<◌, ◌≡◌, ◌⊎◌, Bool, true, false, cond, List, [], Option, None, Some, eqb, get_or}
use Rattle.pic_bits.specs.Bits.{is_member}
use Rattle.pic_source.specs.Ranks.{rank}
use Rattle.pic_comparator.specs.declared.Winner.{Winner}
use Rattle.pic_comparator.specs.Comparator.{no_winner}

-- The first of the d numbers from s on for which on holds; s + d where it holds for none.
unfoldable pub lowest_from : (ℕ → Bool) → ℕ → ℕ → ℕ
lowest_from on zero s = s
lowest_from on (suc d) s = cond (on s) s (lowest_from on d (suc s))

-- The lowest number of a set, 256 where it has none.
abbrev pub lowest_of : List ℕ → ℕ
lowest_of set = lowest_from (is_member set) 256 0

-- The same of an answer: the number, or 256 for none.
abbrev pub number_or_256 : Option ℕ → ℕ
number_or_256 None = 256
number_or_256 (Some s) = s

abbrev pub is_empty : List ℕ → Bool
is_empty set = eqb (lowest_of set) 256

-- "The winner is read from the highest non-empty set above 0": its lowest number. Among the sets 1 to r; with all of them empty, none.
unfoldable pub highest_to : List (List ℕ) → ℕ → Winner
highest_to sets zero = no_winner
highest_to sets (suc r) =
    cond (is_empty (get_or sets (suc r) [])) (highest_to sets r) (record { source = lowest_of (get_or sets (suc r) []); rank = rank (suc r) })

abbrev pub highest_of : List (List ℕ) → Winner
highest_of sets = highest_to sets 15

-- That sentence. The winner w is the lowest number of a set above 0, and every higher set is empty;
pub record ReadFrom (sets : List (List ℕ)) (w : Winner) : Type 0 where
  pub above : 1 ≤ w.rank.0
  pub most : w.rank.0 ≤ 15
  pub number : w.source < 256
  pub member : is_member (get_or sets w.rank.0 []) w.source ≡ true
  pub lowest : (s : ℕ) → s < w.source → is_member (get_or sets w.rank.0 []) s ≡ false
  pub highest : (r s : ℕ) → w.rank.0 < r → r ≤ 15 → s < 256 → is_member (get_or sets r []) s ≡ false

-- or every set above 0 is empty, and there is none.
pub record NothingIn (sets : List (List ℕ)) (w : Winner) : Type 0 where
  pub none : (r s : ℕ) → 1 ≤ r → r ≤ 15 → s < 256 → is_member (get_or sets r []) s ≡ false
  pub is_none : w ≡ no_winner

abbrev pub HighestIs : Type 0
HighestIs = (sets : List (List ℕ)) → ReadFrom sets (highest_of sets) ⊎ NothingIn sets (highest_of sets)
