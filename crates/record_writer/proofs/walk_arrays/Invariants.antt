use Prim.Native.Nat.{◌≤◌, ◌-◌}
use mathlib.Core.Path.{◌≡◌}
use lib.ListN.{length, drop}
use Rattle.record.specs.Questions.{write_shape_of, walk, walk_from}
use Rattle.record_writer.proofs.walk_arrays.Given as goal

abbrev pub invariant-loop-i : goal.invariant-loop-i
invariant-loop-i l =
    (l.i ≤ length l.heads) × (walk write_shape_of l.heads l.values ≡ walk_from write_shape_of l.i (drop l.i l.heads) (drop l.i l.values))

abbrev pub decreases-loop-i : goal.decreases-loop-i
decreases-loop-i l = length l.heads - l.i
