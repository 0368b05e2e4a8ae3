use borrow.Author.Rules.{rules}
use mathlib.Core.Path.{refl, ◌∙◌, sym}
use Rattle.questions.specs.Numbers.{number_in}
use Rattle.event.specs.Event.{shape_of}
use Rattle.record.proofs.Questions.{refuses}
use Rattle.record.proofs.Walk.{walk_none, walk-past, walk-stop, in-heads, in-values, past-heads, check-there}
use Rattle.record.proofs.walk_bytes.Goals as goal

pub loop-i-preserved : goal.loop-i-preserved
unfolding number_in
loop-i-preserved c =
    let long = c.loop-i.invariant.0 in
    let more = c.if-n-i.false in
    let here = check-there _ _ long shape_of more c.in-Ok.ensures c.word.ensures c.word-in-loop-i.ensures in
    (long, search rules, c.loop-i.invariant.2 ∙ walk-past shape_of _ _ _ _ (in-heads _ _ long _ more) (in-values _ _ long _ more) here refl)

pub returns-then-n-i : goal.returns-then-n-i
returns-then-n-i c = sym (c.loop-i.invariant.2 ∙ walk_none shape_of _ _ _ (past-heads _ _ c.loop-i.invariant.0 _ c.if-n-i.true))

pub returns-in-Err : goal.returns-in-Err
unfolding number_in
returns-in-Err c =
    let long = c.loop-i.invariant.0 in
    let more = c.if-n-i.false in
    let here = check-there _ _ long shape_of more c.in-Err.ensures c.word.ensures c.word-in-loop-i.ensures in
    sym (c.loop-i.invariant.2 ∙ walk-stop shape_of _ _ _ _ (in-heads _ _ long _ more) (in-values _ _ long _ more) here (refuses c.in-Err.refusal))
