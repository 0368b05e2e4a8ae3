-- Document 02, No. 9, "Ready sets kept with the machine": the sixteen sets as rows of words.
use Rattle.std.specs.Prelude.{ℕ, zero, suc, ◌-◌, ◌/◌, ◌%◌, ◌^◌, ◌≡◌, Bool, cond, List, [], get_or, set}
use Rattle.std.specs.Int.Bits.{bit_xor}
use Rattle.pic_source.specs.declared.Rank.{Rank}
use Rattle.pic_source.specs.Ranks.{field, rank_of}
use Rattle.pic_bits.specs.Bits.{has_bit, is_member, source_of}
use Rattle.pic_bits.specs.Tables.{table_of}

-- "For each rank 0 to 15, a set of 256 bits": whether source s is in the set of rank r. Bit y of word x of a set is source 32 x + y.
abbrev pub in_set : List (List ℕ) → ℕ → ℕ → Bool
in_set sets r s = is_member (get_or sets r []) s

-- Source s enters the set of rank r, or leaves it. A rank above 15 has no set, and changes none.
unfoldable pub flipped_at : List (List ℕ) → ℕ → ℕ → List (List ℕ)
flipped_at sets r s = set sets r (set (get_or sets r []) (s / 32) (bit_xor (get_or (get_or sets r []) (s / 32) 0) (2 ^ (s % 32))))

unfoldable pub flipped_if : Bool → List (List ℕ) → ℕ → ℕ → List (List ℕ)
flipped_if on sets r s = cond on (flipped_at sets r s) sets

-- "An update for one source": it leaves the set of its old rank where it was ready, and enters that of its new rank where it is.
unfoldable pub updated_of : List (List ℕ) → ℕ → Rank → Bool → Rank → Bool → List (List ℕ)
updated_of sets s old was new is = flipped_if is (flipped_if was sets old.0 s) new.0 s

-- It "touches at most the sets of its old and new rank": every other set is as before.
abbrev pub OthersStay : List (List ℕ) → List (List ℕ) → Rank → Rank → Type 0
OthersStay before after old new = (r : ℕ) → (r ≡ old.0 → ⊥) → (r ≡ new.0 → ⊥) → get_or after r [] ≡ get_or before r []

-- The rank of source s, by the fields of all sources.
abbrev pub rank_at : ℕ → List ℕ → ℕ → Rank
rank_at priord fields s = rank_of priord (field (get_or fields s 0))

-- Of the first k bits of w, each source of word x whose bit is set enters the set of its rank, or leaves it; and of all 32.
unfoldable pub flipped_to : List (List ℕ) → (ℕ → Rank) → ℕ → ℕ → ℕ → List (List ℕ)
flipped_to sets rank x w zero = sets
flipped_to sets rank x w (suc k) = flipped_if (has_bit w k) (flipped_to sets rank x w k) (rank (source_of x k)).0 (source_of x k)

unfoldable pub flipped_word : List (List ℕ) → (ℕ → Rank) → ℕ → ℕ → List (List ℕ)
flipped_word sets rank x w = flipped_to sets rank x w 32

-- A switch of priord reverses the sixteen sets: the set of rank r becomes that of rank 15 − r.
unfoldable pub reversed_of : List (List ℕ) → List (List ℕ)
reversed_of sets = table_of 16 (λ (r : ℕ). get_or sets (15 - r) [])
