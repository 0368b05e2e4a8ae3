use Prim.Native.Nat.{◌≤◌}
use native.Mathlib.Omega.{arith}
use mathlib.Core.List.{[]}
use mathlib.Core.Path.{◌≡◌, ap}
use lib.ListN.{length}
use borrow.Author.Rules.{rules}
use Rattle.text_messages.specs.Messages.{refused_with, refused, message_size}
use Rattle.text_messages.proofs.Messages.{refused-fits, nothing-said}
use Rattle.text_messages.proofs.refused.Goals as goal

pub put_refusal-requires : goal.put_refusal-requires
put_refusal-requires c =
    let room : message_size ≤ length c.args.out.now = search rules in
    let whole : length (refused_with c.args.refusal c.args.place []) ≡ length (refused c.args.refusal c.args.place) = ap length (nothing-said c.args.refusal c.args.place) in
    omega (arith, refused-fits c.args.refusal c.args.place (length c.args.out.now) room)
