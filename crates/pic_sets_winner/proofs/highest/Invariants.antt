use mathlib.Core.Path.{◌≡◌}
use Rattle.pic_sets_winner.specs.Highest.{highest_to, highest_of}
use Prim.Native.Nat.{◌-◌}
use Rattle.pic_sets_winner.proofs.highest.Given as goal

abbrev pub invariant-loop-r : goal.invariant-loop-r
invariant-loop-r l = highest_to l.sets (l.r - 1) ≡ highest_of l.sets
