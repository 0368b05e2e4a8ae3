-- Every tree over the sources gives 01's winner.
use mathlib.Core.Path.{◌≡◌, ◌∙◌, sym}
use Rattle.pic_comparator.specs.Trees.{scan_of}
use Rattle.pic_comparator.proofs.Shapes.{any-shape, scan-over, scan-passes}
use Rattle.pic.specs.declared.Controller.{Controller}
use Rattle.pic.specs.Sources.{entry_at, winner_to, winner_of}
use Rattle.pic.proofs.Winning.{winner-none, winner-next, winner-is, source-entered}
use Rattle.pic_tree.specs.Tree.{root_of, AnyTree}

-- The scan is the tree of the scan.
scanned : (c : Controller) → root_of c (scan_of c.sources) ≡ winner_of c
scanned c = scan-passes (entry_at c) (winner_to c) (winner-none c) (winner-next c) c.sources

pub any-tree : AnyTree
any-tree c t h =
    let e : root_of c t ≡ winner_of c = any-shape (entry_at c) (source-entered c) t (scan_of c.sources) (h ∙ sym (scan-over c.sources)) ∙ scanned c in
    record { scanned = e; winner = rw e (winner-is c) }
