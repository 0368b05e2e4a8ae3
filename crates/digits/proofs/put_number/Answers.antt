use lib.ListN.{length}
use Rattle.digits.proofs.Digits.{number-fitting, number-not-fitting}
use Rattle.digits.proofs.Stores.{room, no_room}
use Rattle.digits.proofs.put_number.Goals as goal

pub returns-then-has_room : goal.returns-then-has_room
returns-then-has_room c =
    let r = number-fitting c.args.form.base c.args.form.least c.args.form.most c.args.n c.args.at c.count_digits-k.result c.args.buffer.now c.count_digits-k.ensures (room c.args.at c.count_digits-k.result (length c.args.buffer.now) c.has_room.ensures c.if-has_room.true) c.store_digits.ensures in record { value = r.0; buffer_after = r.1 }

pub returns : goal.returns
returns c =
    let r = number-not-fitting c.args.form.base c.args.form.least c.args.form.most c.args.n c.args.at c.count_digits-k.result c.args.buffer.now c.count_digits-k.ensures (no_room c.args.at c.count_digits-k.result (length c.args.buffer.now) c.has_room.ensures c.if-has_room.false) in record { value = r.0; buffer_after = r.1 }
