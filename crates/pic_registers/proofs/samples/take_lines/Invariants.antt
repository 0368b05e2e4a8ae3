use Rattle.std.proofs.Common.{◌≡◌}
use Rattle.pic_registers.proofs.Turns.{sampled_to}
use Rattle.pic_registers.proofs.samples.take_lines.Given as goal

abbrev pub invariant-loop-y : goal.invariant-loop-y
invariant-loop-y l = l.c ≡ sampled_to l.initial.c l.x l.v l.y
