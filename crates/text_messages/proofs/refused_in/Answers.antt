use Prim.Native.Nat.{◌≤◌}
use native.Mathlib.Omega.{arith}
use lib.ListN.{length}
use borrow.Author.Rules.{rules}
use Rattle.digits.specs.Ascii.{ascii}
use Rattle.text_messages.specs.Messages.{message_size}
use Rattle.text_messages.proofs.Messages.{refused-in-fits}
use Rattle.text_messages.proofs.refused_in.Goals as goal

pub put_refusal-requires : goal.put_refusal-requires
unfolding ascii
put_refusal-requires c =
    let room : message_size ≤ length c.args.out.now = search rules in
    omega (arith, refused-in-fits c.args.refusal c.args.place c.args.line (length c.args.out.now) room)

pub returns : goal.returns
unfolding ascii
returns c = record { value = c.put_refusal.ensures.value; out_after = c.put_refusal.ensures.out_after; has_first = c.put_refusal.ensures.has_first }
