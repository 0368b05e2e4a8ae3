use mathlib.Core.Path.{ap}
use Rattle.pic.specs.Outcome.{Outcome}
use Rattle.pic_updates.proofs.Follow.{sample-follows}
use Rattle.pic_updates.proofs.sample.Goals as goal

pub returns : goal.returns
returns c =
    let a = c.args in
    let e = c.sample-out.ensures in
    record { value = e; sets_after = sample-follows a.c a.sets.now a.x a.v (ap (λ (r : Outcome). r.machine) e) c.follow_word.ensures }
