-- Document 02, No. 6: the winner of a controller by a tree of comparators.
use Rattle.std.specs.Prelude.{ℕ, ◌≤◌, ◌≡◌, Bool, cond, List}
use Rattle.pic_source.specs.declared.Field.{Field}
use Rattle.pic_source.specs.Ranks.{rank_of}
use Rattle.pic_comparator.specs.declared.Winner.{Winner}
use Rattle.pic_comparator.specs.Trees.{Tree, OverSources, passing, balanced_of, entered_by}
use Rattle.pic.specs.declared.Controller.{Controller}
use Rattle.pic.specs.Sources.{entry_at, winner_of, IsWinner}

-- What passes at the root of a tree, with each source entering as the controller has it.
abbrev pub root_of : Controller → Tree → Winner
root_of c t = passing (entry_at c) t

-- "Every tree whose leaves from left to right are sources 1 to N gives 01's winner": the one of the scan,
pub record Gives (c : Controller) (t : Tree) : Type 0 where
  pub scanned : root_of c t ≡ winner_of c
  -- and the one of 01's own sentence.
  pub winner : IsWinner c c.sources (root_of c t)

abbrev pub AnyTree : Type 0
AnyTree = (c : Controller) (t : Tree) → OverSources c.sources t → Gives c t

-- "Build the balanced tree beside the scan."
abbrev pub tree_winner : Controller → Winner
tree_winner c = root_of c (balanced_of c.sources)

-- The code's array of entering ranks: the rank of a source that is enabled and pending, else 0.
abbrev pub entering_rank : Bool → ℕ → Field → ℕ
entering_rank waits priord f = cond waits (rank_of priord f).0 0

-- By the array each of the sources 1 to n enters as by the controller.
abbrev pub Entering : Controller → ℕ → List ℕ → Type 0
Entering c n ranks = (s : ℕ) → 1 ≤ s → s ≤ n → entered_by ranks s ≡ entry_at c s
