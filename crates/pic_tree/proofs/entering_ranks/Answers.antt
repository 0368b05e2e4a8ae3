use mathlib.Core.Path.{◌≡◌}
use native.Mathlib.Omega.{arith}
use Prim.Native.Nat.{◌+◌, ◌-◌}
use borrow.Author.Rules.{rules}
use Rattle.pic_tree.proofs.Entered.{turn}
use Rattle.pic_tree.proofs.entering_ranks.Goals as goal

pub loop-s-init : goal.loop-s-init
loop-s-init c = (search rules, λ i a b. absurd (omega arith))

pub loop-s-preserved : goal.loop-s-preserved
loop-s-preserved c =
    let l = c.loop-s in
    let e : l.s + 1 - 1 ≡ l.s = omega arith in
    (search rules, rw e (turn c.args.c l.s l.ranks (omega (arith, l.invariant.0)) l.invariant.1 c.entering_rank.ensures))

pub returns : goal.returns
returns c i a b = c.loop-s.invariant.1 i a (omega arith)

pub returns-2 : goal.returns-2
returns-2 c i a b =
    let l = c.loop-s in
    turn c.args.c l.s l.ranks (omega (arith, l.invariant.0)) l.invariant.1 c.entering_rank.ensures i a (omega arith)
