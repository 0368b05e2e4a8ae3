use lib.ListN.{length, get_or, set, length-set}
use Prim.Native.Nat.{◌<◌}
use mathlib.Core.Path.{◌≡◌, refl, ap, ◌∙◌}
use native.Mathlib.Omega.{arith}
use Rattle.handlers.specs.Outcome.{Outcome}
use Rattle.outcome.specs.declared.Answered.{Answered}
use Rattle.claims.specs.Play.{end_of, each_of}
use Rattle.claims.proofs.Playing.{count_fits, machine-turn, stored-turn, claimed, machine-end}
use Rattle.claims.proofs.play_on.Goals as goal

pub loop-i-init : goal.loop-i-init
unfolding end_of each_of
loop-i-init g c =
    (rw (c.lesser-k.ensures, c.lesser-2.ensures, c.lesser.ensures) (count_fits _ _ _ _), refl, refl, c.start-on.ensures.machine, refl, refl, c.start-on.ensures.ready)

-- What the event answers is what its place takes.
pub loop-i-preserved : goal.loop-i-preserved
loop-i-preserved g c =
    let v = c.loop-i.invariant in
    let i = c.loop-i.i in
    let h : i < length c.args.heads.now = omega (arith, c.loop-i-test.true, v.0.heads) in
    let w : i < length c.args.values.now = omega (arith, c.loop-i-test.true, v.0.values) in
    let a : i < length c.args.answers.now = omega (arith, c.loop-i-test.true, v.0.answers) in
    let r : i < length c.args.refusals.now = omega (arith, c.loop-i-test.true, v.0.refusals) in
    let head = get_or c.args.heads.now i 0 in
    let value = get_or c.args.values.now i 0 in
    let e = c.advance-answered.ensures in
    let ready = v.6 in
    let step = g.met.P.Plays.steps c.loop-i.m head value ready in
    let says = e.value ∙ g.met.P.Plays.answers c.loop-i.m head value ready in (
      v.0,
      simp length-set v.1,
      simp length-set v.2,
      ap g.P.Plays.machine e.self_after ∙ step ∙ machine-turn _ _ _ _ h w v.3 refl,
      ap (λ (z : Answered). set c.loop-i.answers i z.answer) says ∙ stored-turn _ _ _ _ h w v.3 (λ (o : Outcome). o.answer) _ refl a v.4,
      ap (λ (z : Answered). set c.loop-i.refusals i z.refusal) says ∙ stored-turn _ _ _ _ h w v.3 (λ (o : Outcome). o.refusal) _ refl r v.5,
      rw e.self_after (g.met.P.Plays.keeps c.loop-i.m head value (c.type_inv.values i).fits ready),
    )

pub returns-clause-claimed : goal.returns-clause-claimed
returns-clause-claimed g c =
    let n = c.args.n in
    let h = c.args.heads.now in
    let v = c.args.values.now in
    let e : c.loop-i.i ≡ c.lesser-k.result = omega (arith, c.loop-i-test.false, c.loop-i.auto.i-end) in
    claimed n c.lesser-k.result h v (λ i. (c.type_inv.heads i).fits) (λ i. (c.type_inv.values i).fits) (c.leave.ensures ∙ machine-end n h v e c.loop-i.invariant.3)
