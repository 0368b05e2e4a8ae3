use Prim.Native.Nat.{◌+◌, ◌-◌}
use mathlib.Core.Path.{◌≡◌, ap, ◌∙◌}
use native.Mathlib.Omega.{arith}
use borrow.Author.Rules.{rules}
use Rattle.pic_ready.specs.Ready.{sets_by}
use Rattle.pic_ready.proofs.Entering.{entered, entered-next, entered-none, entered_all}
use Rattle.pic_ready.proofs.ready_sets.Goals as goal

pub loop-s-init : goal.loop-s-init
loop-s-init c = (search rules, entered-none c.args.c)

pub loop-s-preserved : goal.loop-s-preserved
loop-s-preserved c =
    let l = c.loop-s in
    let e : l.s ≡ l.s + 1 - 1 = omega arith in (
      search rules,
      entered-next c.args.c (l.s - 1) l.s (omega arith) l.invariant.1 c.rank-rank.ensures c.ready.ensures c.update.ensures.sets_after
          ∙ ap (λ k. sets_by (entered c.args.c k)) e,
    )

pub returns : goal.returns
returns c =
    let e : c.loop-s.s - 1 ≡ c.args.c.sources = omega (arith, c.loop-s.invariant.0) in
    c.loop-s.invariant.1 ∙ ap (λ k. sets_by (entered c.args.c k)) e ∙ entered_all c.args.c

pub returns-2 : goal.returns-2
returns-2 c =
    let l = c.loop-s in
    let e : l.s ≡ c.args.c.sources = omega arith in
    entered-next c.args.c (l.s - 1) l.s (omega arith) l.invariant.1 c.rank-rank.ensures c.ready.ensures c.update.ensures.sets_after
    ∙ ap (λ k. sets_by (entered c.args.c k)) e
    ∙ entered_all c.args.c
