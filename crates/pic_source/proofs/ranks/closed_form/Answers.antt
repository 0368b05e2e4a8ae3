use lib.Dec.{lit<}
use lib.IntN.{pos}
use mir.Val.{to_z}
use mir.Syntax.{w32}
use borrow.Author.Rules.{rules}
use Rattle.pic_source.specs.ClosedForm.{closed_form}
use Rattle.pic_source.proofs.Signed.{Exact, literal, byte, sum, difference, product}
use Rattle.pic_source.proofs.ranks.closed_form.Goals as goal

p : (c : goal.Start) → Exact 255 (to_z w32 c.args.priord) (pos c.args.priord)
p c = byte c.args.priord (search rules)

f : (c : goal.Start) → Exact 255 (to_z w32 c.args.n) (pos c.args.n)
f c = byte c.args.n (search rules)

-- The literals are those of the code, whatever they are: that it computes the rule's number is said at the end alone.
pub overflow_mul-result : goal.overflow_mul-result
overflow_mul-result c = (product (literal _) (f c) (lit< tt)).fits

pub overflow_sub-result : goal.overflow_sub-result
overflow_sub-result c = (difference (literal _) (product (literal _) (f c) (lit< tt)).exact (lit< tt)).fits

pub overflow_mul-result-2 : goal.overflow_mul-result-2
overflow_mul-result-2 c = (product (p c) (difference (literal _) (product (literal _) (f c) (lit< tt)).exact (lit< tt)).exact (lit< tt)).fits

pub overflow_add-result : goal.overflow_add-result
overflow_add-result c = (sum (f c) (product (p c) (difference (literal _) (product (literal _) (f c) (lit< tt)).exact (lit< tt)).exact (lit< tt)).exact (lit< tt)).fits

pub returns : goal.returns
unfolding closed_form
returns c = (sum (f c) (product (p c) (difference (literal _) (product (literal _) (f c) (lit< tt)).exact (lit< tt)).exact (lit< tt)).exact (lit< tt)).exact.is
