use Rattle.digits.proofs.Digits.{count-start, count_turn, count-enough, count-most}
use Rattle.digits.proofs.count_digits.Goals as goal

pub loop-k-init : goal.loop-k-init
loop-k-init c = count-start c.args.form.base c.args.form.least c.args.form.most c.args.n c.args.form.sound.2

pub returns-then-form-k : goal.returns-then-form-k
returns-then-form-k c = count-enough _ _ _ _ _ _ c.if-left-form.true c.if-form-k.true c.loop-k.invariant

pub loop-k-preserved : goal.loop-k-preserved
loop-k-preserved c = count_turn _ _ _ _ _ _ c.loop-k-test.true c.else-left-form.either c.loop-k.invariant

pub returns : goal.returns
returns c = count-most _ _ _ _ _ _ c.loop-k-test.false c.loop-k.invariant
