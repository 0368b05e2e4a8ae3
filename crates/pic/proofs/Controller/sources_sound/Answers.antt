use Rattle.std.proofs.Common.{◌≡◌, ◌+◌, ◌-◌, ap, ◌∙◌, refl, arith}
use Rattle.pic.specs.Sound.{sources_sound}
use Rattle.pic.proofs.Turns.{sources-at}
use Rattle.pic.proofs.Controller.sources_sound.Goals as goal

pub loop-s-init : goal.loop-s-init
unfolding sources_sound
loop-s-init c = (omega arith, refl)

pub loop-s-preserved : goal.loop-s-preserved
loop-s-preserved c = (omega arith, sources-at _ _ c.loop-s.auto.s c.loop-s.invariant.1 c.source_sound-ok.ensures)

pub returns : goal.returns
returns c =
    let e : c.loop-s.s - 1 ≡ c.args.self.sources = omega arith in
    c.loop-s.invariant.1 ∙ ap (sources_sound c.args.self) e

-- The turn of the last source.
pub returns-2 : goal.returns-2
returns-2 c =
    let e : c.loop-s.s + 1 - 1 ≡ c.args.self.sources = omega arith in
    sources-at _ _ c.loop-s.auto.s c.loop-s.invariant.1 c.source_sound-ok.ensures ∙ ap (sources_sound c.args.self) e
