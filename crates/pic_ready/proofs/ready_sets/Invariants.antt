use Prim.Native.Nat.{◌+◌, ◌-◌, ◌≤◌}
use mathlib.Core.Path.{◌≡◌}
use Rattle.pic_ready.specs.Ready.{sets_by}
use Rattle.pic_ready.proofs.Entering.{entered}
use Rattle.pic_ready.proofs.ready_sets.Given as goal

abbrev pub invariant-loop-s : goal.invariant-loop-s
invariant-loop-s l = (l.s ≤ l.c.sources + 1) × (l.sets ≡ sets_by (entered l.c (l.s - 1)))
