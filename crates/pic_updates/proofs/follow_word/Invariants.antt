use Prim.Native.Nat.{◌%◌}
use mathlib.Core.Path.{◌≡◌}
use Rattle.pic_updates.specs.Updates.{moved_where}
use Rattle.pic_updates.proofs.Moving.{up_to}
use Rattle.pic_updates.proofs.follow_word.Given as goal

abbrev pub invariant-loop-y : goal.invariant-loop-y
invariant-loop-y l = l.sets ≡ moved_where (up_to l.c l.d (l.x % 8) l.y) l.c l.d l.initial.sets
