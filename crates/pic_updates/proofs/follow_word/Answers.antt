use Prim.Native.Nat.{◌%◌}
use mathlib.Core.Path.{◌≡◌, ap, ◌∙◌}
use native.Mathlib.Omega.{arith}
use Rattle.pic_updates.specs.Updates.{moved_where}
use Rattle.pic_updates.proofs.Moving.{up_to, word-turn, word-begun, word-ended}
use Rattle.pic_updates.proofs.follow_word.Goals as goal

pub loop-y-init : goal.loop-y-init
loop-y-init c = let a = c.args in word-begun a.c a.d a.sets.now (a.x % 8) c.sixteen.ensures

pub loop-y-preserved : goal.loop-y-preserved
loop-y-preserved c =
    let a = c.args in
    word-turn a.c a.d a.sets.now c.loop-y.sets _ (a.x % 8) c.loop-y.y (omega arith) c.loop-y.invariant c.follow_source.ensures

pub returns : goal.returns
returns c =
    let a = c.args in
    let e : c.loop-y.y ≡ 32 = omega arith in
    c.loop-y.invariant ∙ ap (λ k. moved_where (up_to a.c a.d (a.x % 8) k) a.c a.d a.sets.now) e ∙ word-ended a.c a.d a.sets.now (a.x % 8)
