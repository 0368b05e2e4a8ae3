use native.Mathlib.Omega.{arith}
use borrow.Author.Rules.{rules}
use Rattle.pic_source.specs.Ranks.{mirror}
use Rattle.pic_source.proofs.Signed.{keeping}
use Rattle.pic_source.proofs.ClosedForm.{Total, total}
use Rattle.pic_source.proofs.ranks.mirrored.Goals as goal

abbrev Place : Type 0
Place = goal.After-closed_form-z

worked : (c : Place) → Total (mirror c.before.before.args.priord c.before.before.args.n) c.closed_form-z.result
worked c =
    rw (c.closed_form-z.ensures, c.before.order.ensures)
    (total c.before.before.args.priord c.before.before.args.n (search rules))

pub overflow_mul-result : goal.overflow_mul-result
overflow_mul-result c = (keeping c.closed_form-z.result (worked c).near).fits

pub overflow_cast-result-2 : goal.overflow_cast-result-2
overflow_cast-result-2 c = let k = (keeping c.closed_form-z.result (worked c).near).exact in rw k.is (tt, record { fits = omega arith })

pub returns : goal.returns
returns c = rw (keeping c.closed_form-z.result (worked c).near).exact.is (worked c).is
