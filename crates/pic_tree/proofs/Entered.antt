-- One turn of the loop that writes the entering ranks, over plain variables; and what the tree makes of them.
use Prim.Native.Nat.{ℕ, ◌-◌, ◌<◌}
use mathlib.Core.Path.{◌≡◌, sym, ap, ◌∙◌}
use mathlib.Core.Bool.{cond}
use mathlib.Core.List.{List}
use mathlib.Core.Logic.{⊎_elim}
use native.Mathlib.Omega.{arith}
use lib.ListN.{length, get_or, set}
use lib.Seq.{get_or-set_same, get_or-set_other}
use lib.Dec.{leb}
use Rattle.pic_source.specs.Ranks.{rank}
use Rattle.std.proofs.lemmas.Bool.{cases_eq}
use Rattle.pic_comparator.specs.Comparator.{entry_of}
use Rattle.pic_comparator.specs.Trees.{passing, balanced_of, entered_by}
use Rattle.pic_comparator.proofs.Comparing.{enters-waiting}
use Rattle.pic_comparator.proofs.Shapes.{alike, ranks-entered}
use Rattle.pic_comparator.proofs.Halves.{balanced-tree}
use Rattle.pic.specs.declared.Controller.{Controller}
use Rattle.pic.specs.Sources.{rank_at, entry_at, winner_of}
use Rattle.pic.proofs.Winning.{source-entered}
use Rattle.pic.proofs.Turns.{waiting_at, entry-waiting}
use Rattle.pic_tree.specs.Tree.{Entering, tree_winner}
use Rattle.pic_tree.proofs.Rooted.{any-tree}

-- The next source's entering rank.
pub turn : (c : Controller) (s : ℕ) (ranks : List ℕ) {r : ℕ} → s < length ranks → Entering c (s - 1) ranks → r ≡ cond (waiting_at c s) (rank_at c s).0 0
    → Entering c s (set ranks s r)
turn c s ranks {r} l h e i a b = ⊎_elim same other (cases_eq i s)
  where
    at : (v w : ℕ) → v ≡ w → entry_of (leb 1 v) i (rank v) ≡ entry_of (leb 1 w) i (rank w)
    at v w e = ap (λ (v : ℕ). entry_of (leb 1 v) i (rank v)) e

    same : i ≡ s → entered_by (set ranks s r) i ≡ entry_at c i
    same z =
        let v : get_or (set ranks s r) i 0 ≡ cond (waiting_at c i) (rank_at c i).0 0 = rw (z, get_or-set_same ranks s r 0 l, e) in
        at _ _ v ∙ enters-waiting (waiting_at c i) i (rank_at c i) ∙ sym (entry-waiting c i)

    other : (i ≡ s → ⊥) → entered_by (set ranks s r) i ≡ entry_at c i
    other z = at _ _ (get_or-set_other ranks s i r 0 z) ∙ h i a (omega (arith, z))

-- So the tree of the array passes what the controller's does.
pub tree-of-ranks : (c : Controller) (ranks : List ℕ) → Entering c c.sources ranks → passing (entered_by ranks) (balanced_of c.sources) ≡ tree_winner c
tree-of-ranks c ranks h =
    alike (entered_by ranks) (entry_at c) (ranks-entered ranks) (source-entered c) c.sources (balanced_of c.sources) (balanced-tree c.sources).over h

-- And that is the winner.
pub tree-winner : (c : Controller) → tree_winner c ≡ winner_of c
tree-winner c = (any-tree c (balanced_of c.sources) (balanced-tree c.sources).over).scanned
