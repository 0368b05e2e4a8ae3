use Prim.Native.Nat.{◌-◌, ◌<◌}
use mathlib.Core.Path.{◌≡◌, sym, ◌∙◌}
use native.Mathlib.Omega.{arith}
use borrow.Author.Rules.{rules}
use borrow.Author.Tests.{eq-eqb, ne_eqb}
use Rattle.pic_sets_winner.specs.Highest.{highest_to}
use Rattle.pic_sets_winner.proofs.Winners.{pass, stop}
use Rattle.pic_sets_winner.proofs.highest.Goals as goal

pub returns-in-Some : goal.returns-in-Some
returns-in-Some c =
    let s = c.in-Some.source in
    let l : s < 256 = search rules in
    stop c.args.sets.now (c.loop-r.r - 1) s (omega arith) (ne_eqb _ 256 (λ z. omega (arith, z, l, c.in-Some.ensures))) c.in-Some.ensures ∙ c.loop-r.invariant

pub loop-r-preserved : goal.loop-r-preserved
loop-r-preserved c = pass c.args.sets.now (c.loop-r.r - 1) (omega arith) (eq-eqb _ 256 (sym c.in_default.ensures)) ∙ c.loop-r.invariant

pub returns : goal.returns
unfolding highest_to
returns c = let e : c.loop-r.r - 1 ≡ 0 = omega arith in c.none.ensures ∙ (rw e at c.loop-r.invariant)
