use Rattle.record_writer.proofs.Stores.{record-stored}
use Rattle.record_writer.proofs.put_record.Goals as goal

pub returns : goal.returns
returns c =
    let fourth = c.before.before in
    let third = fourth.before.before.before.before in
    let second = third.before.before.before.before in
    let first = second.before.before.before.before in
    let at-start = first.before.before.before.before.before in
    let args = at-start.args in
    record-stored args.sources args.heads.now args.values.now args.bytes.now at-start.requires.1
    first.put_word.ensures second.put_word-2.ensures third.put_words.ensures fourth.put_words-2.ensures
