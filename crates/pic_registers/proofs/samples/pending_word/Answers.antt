use Rattle.std.proofs.Common.{◌≡◌, ◌&&◌, arith, rules}
use Rattle.pic_bits.specs.Bits.{join_of, word_to}
use Rattle.pic_bits.proofs.Words.{join-set, join-lt}
use Rattle.pic_registers.proofs.Turns.{pending-turn}
use Rattle.pic_registers.proofs.samples.pending_word.Goals as goal
use Rattle.pic_registers.proofs.samples.pending_word.Goals.{then-is_source-is_pending, else-is_source-is_pending}

pub loop-y-init : goal.loop-y-init
unfolding word_to
loop-y-init c = search rules

pub loop-y-preserved : goal.loop-y-preserved
unfolding join_of
loop-y-preserved c =
    let i = c.loop-y.invariant in
    let on = c.is_source.result && c.is_pending.result in
    let e : c.if-is_source-is_pending.w ≡ join_of c.loop-y.w c.loop-y.y on =
    elim c.if-is_source-is_pending.branch [
      | then-is_source-is_pending w ↦ rw (w.w-is, w.if-is_source-is_pending.true) (join-set c.loop-y.w c.loop-y.y (omega arith) i.1)
      | else-is_source-is_pending w ↦ rw (w.w-is, w.if-is_source-is_pending.false)
    ] in
    (pending-turn c.args.c _ _ i.0 c.is_source.ensures c.is_pending.ensures e, rw e (join-lt _ _ on i.1))
