use Rattle.std.proofs.Common.{◌≡◌, ◌+◌, ◌-◌, ap, ◌∙◌, arith}
use Rattle.pic.specs.Sources.{winner_to}
use Rattle.pic.proofs.Turns.{winner-at, winner-stays-at}
use Rattle.pic.proofs.Controller.winner.Goals as goal
use Rattle.pic.proofs.Controller.winner.Goals.{then-waits, else-waits}

pub loop-s-init : goal.loop-s-init
unfolding winner_to
loop-s-init c = (omega arith, c.none-w.ensures)

pub loop-s-preserved : goal.loop-s-preserved
loop-s-preserved c = (
  omega arith,
  elim c.if-waits.branch [
    | then-waits w ↦ rw w.w-is (winner-at _ _ c.loop-s.auto.s c.loop-s.invariant.1 c.waits.ensures w.if-waits.true w.rank.ensures w.better-w.ensures)
    | else-waits w ↦ rw w.w-is (winner-stays-at _ _ c.loop-s.auto.s c.loop-s.invariant.1 c.waits.ensures w.if-waits.false)
  ],
)

pub returns : goal.returns
returns c =
    let e : c.loop-s.s - 1 ≡ c.args.self.sources = omega arith in
    c.loop-s.invariant.1 ∙ ap (winner_to c.args.self) e

-- The turn of the last source.
pub returns-after-waits : goal.returns-after-waits
returns-after-waits c =
    let e : c.loop-s.s + 1 - 1 ≡ c.args.self.sources = omega arith in
    let i = c.loop-s.invariant.1 in
    elim c.if-waits.branch [
      | then-waits w ↦ rw w.w-is (winner-at _ _ c.loop-s.auto.s i c.waits.ensures w.if-waits.true w.rank.ensures w.better-w.ensures) ∙ ap (winner_to c.args.self) e
      | else-waits w ↦ rw w.w-is (winner-stays-at _ _ c.loop-s.auto.s i c.waits.ensures w.if-waits.false) ∙ ap (winner_to c.args.self) e
    ]
