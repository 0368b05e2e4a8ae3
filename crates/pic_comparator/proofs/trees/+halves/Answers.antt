use mathlib.Core.Path.{◌∙◌}
use native.Mathlib.Omega.{arith}
use Rattle.pic_comparator.proofs.Halves.{passing-none, passing-one, passing-two}
use Rattle.pic_comparator.proofs.trees.+halves.Goals as goal

pub returns-then-n-eq0 : goal.returns-then-n-eq0
returns-then-n-eq0 t c = c.none.ensures ∙ passing-none _ _ _ c.if-n-eq0.true

pub returns-then-n-eq1 : goal.returns-then-n-eq1
returns-then-n-eq1 t c = c.entry.ensures ∙ passing-one _ _ _ c.if-n-eq1.true

pub returns-else-n-eq1 : goal.returns-else-n-eq1
returns-else-n-eq1 t c = passing-two _ _ _ (omega (arith, c.if-n-eq0.false, c.if-n-eq1.false)) c.halves-left.ensures c.halves-right.ensures c.better.ensures
