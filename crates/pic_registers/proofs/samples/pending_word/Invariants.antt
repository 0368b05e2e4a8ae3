use Rattle.std.proofs.Common.{◌≡◌, ◌<◌, ◌^◌}
use Rattle.pic_bits.specs.Bits.{word_to}
use Rattle.pic_registers.specs.Registers.{pending_bit}
use Rattle.pic_registers.proofs.samples.pending_word.Given as goal

abbrev pub invariant-loop-y : goal.invariant-loop-y
invariant-loop-y l = (l.w ≡ word_to (pending_bit l.c l.x) l.y) × (l.w < 2 ^ l.y)
