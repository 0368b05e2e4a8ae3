use borrow.Author.Rules.{rules}
use mathlib.Core.Path.{refl}
use Rattle.std.proofs.lemmas.Result.{err_from_is_err_and}
use Rattle.record.proofs.Questions.{refuses, writes}
use Rattle.record_writer.proofs.Answers.{write-refused, write-accepted}
use Rattle.record_writer.proofs.write.Goals as goal

pub returns-in_err-ask_writing : goal.returns-in_err-ask_writing
returns-in_err-ask_writing c =
    let args = c.args in
    let p = err_from_is_err_and c.from_residual.result c.from_residual.ensures.1 in
    let r = write-refused args.sources args.heads.now args.values.now args.bytes.now c.in_err-ask_writing.ensures
    (refuses c.in_err-ask_writing.field-0.0.refusal) in
    rw (p.1, p.2) (record { result_value = r.0; bytes_after = r.1 })

pub put_record-requires : goal.put_record-requires
put_record-requires c = let h = writes c.in_ok-ask_writing.ensures in (search rules, search rules)

pub overflow_add-result : goal.overflow_add-result
overflow_add-result c = let h = writes c.in_ok-ask_writing.ensures in search rules

pub returns : goal.returns
returns c =
    let args = c.args in
    let r = write-accepted args.sources args.heads.now args.values.now args.bytes.now c.in_ok-ask_writing.ensures refl c.put_record.ensures in
    record { result_value = r.0; bytes_after = r.1 }
