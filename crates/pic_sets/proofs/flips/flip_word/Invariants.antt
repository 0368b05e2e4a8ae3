use Prim.Native.Nat.{ℕ, ◌%◌, ◌^◌, ◌<◌}
use Rattle.pic_sets.specs.Sets.{rank_at}
use Rattle.pic_sets.proofs.Steps.{Done}
use Rattle.pic_sets.proofs.flips.flip_word.Given as goal

abbrev pub invariant-loop-left : goal.invariant-loop-left
invariant-loop-left l = (l.left < 2 ^ 32) × (k : ℕ) × Done l.initial.sets (rank_at l.priord l.field) (l.x % 8) l.changed l.left k l.sets

abbrev pub decreases-loop-left : goal.decreases-loop-left
decreases-loop-left l = l.left
