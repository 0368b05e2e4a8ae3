use Rattle.digits.proofs.Digits.{Counted}
use Rattle.digits.proofs.count_digits.Given as goal

abbrev pub invariant-loop-k : goal.invariant-loop-k
invariant-loop-k l = Counted l.form.base l.form.least l.form.most l.n l.k l.left
