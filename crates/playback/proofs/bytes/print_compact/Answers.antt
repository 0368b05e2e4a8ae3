use Rattle.record.specs.Record.{compact}
use Rattle.playback.proofs.Reading.{room-enough, print-first}
use borrow.Author.Rules.{rules}
use Rattle.playback.proofs.bytes.print_compact.Goals as goal

pub returns : goal.returns
returns c =
    let printed = room-enough compact c.args.«record».now c.args.out.now (search rules) (c.print_by.ensures.value, c.print_by.ensures.out_after) in
    record { value = printed.0; out_after = printed.1; has_first = print-first compact c.args.«record».now c.args.out.now printed.0 printed.1 }
