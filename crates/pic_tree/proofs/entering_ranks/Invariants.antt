use Prim.Native.Nat.{◌-◌}
use mathlib.Core.Path.{◌≡◌}
use lib.ListN.{length}
use Rattle.pic_tree.specs.Tree.{Entering}
use Rattle.pic_tree.proofs.entering_ranks.Given as goal

abbrev pub invariant-loop-s : goal.invariant-loop-s
invariant-loop-s l = (length l.ranks ≡ 256) × Entering l.c (l.s - 1) l.ranks
