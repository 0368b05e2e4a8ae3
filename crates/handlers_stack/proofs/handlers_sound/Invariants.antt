use Rattle.std.proofs.Common.{◌≡◌}
use Rattle.handlers_stack.specs.Stacks.{handlers_sound}
use Rattle.handlers_stack.proofs.Stacks.{rank_under}
use Rattle.handlers_stack.proofs.handlers_sound.Given as goal

abbrev pub invariant-loop-k : goal.invariant-loop-k
invariant-loop-k l = (l.ok ≡ handlers_sound l.n l.depth l.stack l.k) × (l.below ≡ rank_under l.stack l.k)
