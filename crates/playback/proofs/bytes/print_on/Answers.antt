use Rattle.record.specs.Record.{board}
use Rattle.playback.proofs.Reading.{room-enough, print-first}
use borrow.Author.Rules.{rules}
use Rattle.playback.proofs.bytes.print_on.Goals as goal

pub returns : goal.returns
returns g c =
    let printed = room-enough board c.args.«record».now c.args.out.now (search rules) (c.print_by.ensures.value, c.print_by.ensures.out_after) in
    record { value = printed.0; out_after = printed.1; has_first = print-first board c.args.«record».now c.args.out.now printed.0 printed.1 }
