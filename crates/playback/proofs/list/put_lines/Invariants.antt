use Rattle.playback.proofs.Printing.{Printed}
use Rattle.playback.proofs.list.put_lines.Given as goal

abbrev pub invariant-loop-i : goal.invariant-loop-i
invariant-loop-i l = Printed l.initial.out l.initial.at l.heads l.answers l.refusals l.out l.at l.i
