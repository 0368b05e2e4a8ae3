use borrow.Author.Rules.{rules}
use mathlib.Core.Path.{◌≡◌, refl, ◌∙◌, sym}
use mathlib.Core.Logic.{inl, inr}
use lib.ListN.{drop}
use Rattle.questions.specs.Numbers.{number_in}
use Rattle.record.specs.Questions.{no_refusal, write_shape_of, walk_from}
use Rattle.record.proofs.Questions.{refuses}
use Rattle.record.proofs.Walk.{walk_none, walk-short, walk-past, walk-stop}
use Rattle.record_writer.proofs.walk_arrays.Goals as goal

pub loop-i-preserved : goal.loop-i-preserved
unfolding number_in
loop-i-preserved c = (search rules, c.loop-i.invariant.1 ∙ walk-past write_shape_of _ _ _ _ c.if-heads-i.false c.if-values-i.false c.in-Ok.ensures refl)

pub returns-then-heads-i : goal.returns-then-heads-i
returns-then-heads-i c = sym (c.loop-i.invariant.1 ∙ over)
  where
    over : walk_from write_shape_of c.loop-i.i (drop c.loop-i.i c.args.heads.now) (drop c.loop-i.i c.args.values.now) ≡ no_refusal
    over = elim c.then-heads-i.either [ inl h ↦ walk_none write_shape_of _ _ _ h | inr h ↦ walk-short write_shape_of _ _ _ h.1 ]

pub returns-in-Err : goal.returns-in-Err
unfolding number_in
returns-in-Err c = sym (c.loop-i.invariant.1 ∙ walk-stop write_shape_of _ _ _ _ c.if-heads-i.false c.if-values-i.false c.in-Err.ensures (refuses c.in-Err.refusal))
