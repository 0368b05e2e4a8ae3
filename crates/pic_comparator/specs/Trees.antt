-- Document 02, No. 6: trees of two-way comparators, and the balanced one.
use Rattle.std.specs.Prelude.{ℕ, zero, suc, ◌+◌, ◌-◌, ◌/◌, ◌^◌, ◌≤◌, ◌<◌, ◌≡◌, cond, List, [], ◌∷◌, ◌++◌, length, get_or, leb, ltb}
use Rattle.pic_source.specs.Ranks.{rank}
use Rattle.pic_comparator.specs.declared.Winner.{Winner}
use Rattle.pic_comparator.specs.Comparator.{no_winner, entry_of, better_of, Entered}

-- "The supplier builds the winner as a tree of two-way comparators, and wants any tree shape allowed." An input is wired to a source, or to none.
pub data Tree : Type 0 where
  unused : Tree
  leaf : ℕ → Tree
  node : Tree → Tree → Tree

-- Its leaves, from left to right.
unfoldable pub leaves : Tree → List ℕ
leaves unused = []
leaves (leaf s) = s ∷ []
leaves (node l r) = leaves l ++ leaves r

-- What passes at its root, where each source enters as said. An input of no source is (0, 0).
unfoldable pub passing : (ℕ → Winner) → Tree → Winner
passing enters unused = no_winner
passing enters (leaf s) = enters s
passing enters (node l r) = better_of (passing enters l) (passing enters r)

-- The n numbers from s on,
unfoldable pub numbers : ℕ → ℕ → List ℕ
numbers s zero = []
numbers s (suc n) = s ∷ numbers (suc s) n

-- which are n, and s + i at place i.
pub record Numbers (s n : ℕ) (l : List ℕ) : Type 0 where
  pub count : length l ≡ n
  pub each : (i : ℕ) → i < n → get_or l i 0 ≡ s + i

-- "Leaves from left to right are sources 1 to N."
abbrev pub OverSources : ℕ → Tree → Type 0
OverSources n t = leaves t ≡ numbers 1 n

-- Trees with the same leaves from left to right, whatever their shapes, pass the same.
abbrev pub AnyShape : Type 0
AnyShape = (enters : ℕ → Winner) → ((s : ℕ) → Entered (enters s)) → (t u : Tree) → leaves t ≡ leaves u → passing enters t ≡ passing enters u

-- The scan is a tree too: each source stands beside all before it.
unfoldable pub scan_of : ℕ → Tree
scan_of zero = unused
scan_of (suc n) = node (scan_of n) (leaf (suc n))

-- The balanced tree of the n sources from s on: one half beside the other. The first number only bounds how deep it goes; n is enough.
unfoldable pub halves_to : ℕ → ℕ → ℕ → Tree
halves_to zero s n = unused
halves_to (suc k) s zero = unused
halves_to (suc k) s (suc zero) = leaf s
halves_to (suc k) s (suc (suc n)) =
    node (halves_to k s (suc (suc n) / 2)) (halves_to k (s + suc (suc n) / 2) (suc (suc n) - suc (suc n) / 2))

abbrev pub halves_of : ℕ → ℕ → Tree
halves_of s n = halves_to n s n

-- That of the sources 1 to n.
abbrev pub balanced_of : ℕ → Tree
balanced_of n = halves_of 1 n

-- At every node the two sides differ by at most one leaf.
pub data Balanced : Tree → Type 0 where
  nothing : Balanced unused
  alone : {s : ℕ} → Balanced (leaf s)
  both : {l r : Tree} → length (leaves l) ≤ length (leaves r) + 1 → length (leaves r) ≤ length (leaves l) + 1 → Balanced l → Balanced r
      → Balanced (node l r)

-- The comparators of a tree,
unfoldable pub comparators : Tree → ℕ
comparators unused = 0
comparators (leaf s) = 0
comparators (node l r) = 1 + comparators l + comparators r

-- and how many of them an input passes at most.
unfoldable pub levels : Tree → ℕ
levels unused = 0
levels (leaf s) = 0
levels (node l r) = 1 + cond (ltb (levels l) (levels r)) (levels r) (levels l)

-- What the balanced tree of n sources is: its leaves are 1 to n, and its sides differ by at most one leaf. It has a comparator less than sources, so no
-- input is unused where there is a source; and for 2^k sources at most k levels, so for 255 at most 8.
pub record BalancedTree (n : ℕ) : Type 0 where
  pub over : OverSources n (balanced_of n)
  pub balanced : Balanced (balanced_of n)
  pub comparators : comparators (balanced_of n) ≡ n - 1
  pub levels : (k : ℕ) → n ≤ 2 ^ k → levels (balanced_of n) ≤ k

-- The array of entering ranks has the rank of each eligible source, and 0 for any other: what source s enters as.
abbrev pub entered_by : List ℕ → ℕ → Winner
entered_by ranks s = entry_of (leb 1 (get_or ranks s 0)) s (rank (get_or ranks s 0))
