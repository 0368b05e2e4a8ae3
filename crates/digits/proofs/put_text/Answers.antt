use mathlib.Core.Path.{◌∙◌}
use lib.ListN.{length}
use Rattle.digits.proofs.Stores.{fitting, room}
use Rattle.digits.proofs.put_text.Goals as goal

pub returns-then-has_room-clause-buffer_after : goal.returns-then-has_room-clause-buffer_after
returns-then-has_room-clause-buffer_after c =
    c.copy.ensures ∙ (fitting c.args.buffer.now c.args.at c.args.text.now (room c.args.at (length c.args.text.now) (length c.args.buffer.now) c.has_room.ensures c.if-has_room.true)).1
