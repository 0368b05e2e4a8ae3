use mathlib.Core.Path.{◌≡◌}
use lib.Seq.{sets}
use Rattle.digits.specs.Digits.{digits_to}
use Rattle.digits.proofs.store_digits.Given as goal

abbrev pub invariant-loop-i : goal.invariant-loop-i
invariant-loop-i l = sets l.buffer l.at (digits_to l.form.base l.i l.i l.left) ≡ sets l.initial.buffer l.at (digits_to l.form.base l.k l.k l.n)
