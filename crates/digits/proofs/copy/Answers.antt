use Rattle.digits.proofs.Stores.{copy-turn, copy-end}
use Rattle.digits.proofs.copy.Goals as goal

pub loop-i-preserved : goal.loop-i-preserved
loop-i-preserved c = copy-turn _ _ _ _ c.loop-i-test.true c.loop-i.invariant

pub returns : goal.returns
returns c = copy-end _ _ _ _ c.loop-i-test.false c.loop-i.invariant
