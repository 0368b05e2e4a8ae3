use Rattle.std.proofs.Common.{◌≡◌, ◌%◌, length, arith, rules}
use Rattle.pic_registers.proofs.Turns.{sample-start, sample_in, sample_out}
use Rattle.pic_registers.proofs.samples.take_lines.Goals as goal
use Rattle.pic_registers.proofs.samples.take_lines.Goals.{then-is_source, else-is_source}

pub loop-y-init : goal.loop-y-init
loop-y-init c = sample-start _ _ _

pub loop-y-preserved : goal.loop-y-preserved
loop-y-preserved c =
    let i = c.loop-y.invariant in
    let e : c.loop-y.y % 32 ≡ c.loop-y.y = omega arith in
    let n : length c.args.c.line ≡ 256 = search rules in
    elim c.if-is_source.branch [
      | then-is_source w ↦ sample_in _ _ _ _ i c.is_source.ensures (rw e at w.bit.ensures) w.if-is_source.true (omega arith) (rw w.c-is w.settle_at.ensures)
      | else-is_source w ↦ rw w.c-is (sample_out _ _ _ _ i c.is_source.ensures w.if-is_source.false)
    ]
