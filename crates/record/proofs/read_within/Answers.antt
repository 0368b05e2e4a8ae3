use native.Mathlib.Omega.{arith}
use mathlib.Core.Path.{refl}
use Prim.Native.Nat.{◌+◌, ◌*◌, ◌≤◌}
use lib.ListN.{length}
use lib.Seq.{length-take-le}
use Rattle.std.proofs.lemmas.Result.{err_from_is_err_and}
use Rattle.record.proofs.Words.{words-filled}
use Rattle.record.proofs.Answers.{read-refused, read-accepted}
use Rattle.record.proofs.Questions.{refuses, accepted}
use Rattle.record.proofs.read_within.Goals as goal

pub returns-in_err-ask_reading : goal.returns-in_err-ask_reading
returns-in_err-ask_reading c =
    let args = c.args in
    let refused = c.in_err-ask_reading.field-0.0 in
    let p = err_from_is_err_and c.from_residual.result c.from_residual.ensures.1 in
    let r = read-refused args.limits args.bytes.now args.heads.now args.values.now c.in_err-ask_reading.ensures
    (refuses refused.refusal) in
    rw (p.1, p.2) (record { result_value = r.0; heads_after = r.1.0; values_after = r.1.1 })

pub word-events-requires : goal.word-events-requires
word-events-requires c = let h = accepted c.in_ok-ask_reading.ensures in omega arith

pub slice_bounds-read_words-end : goal.slice_bounds-read_words-end
slice_bounds-read_words-end c = let h = accepted c.in_ok-ask_reading.ensures in omega arith

pub slice_bounds-read_words-end-2 : goal.slice_bounds-read_words-end-2
slice_bounds-read_words-end-2 c =
    let h = accepted c.in_ok-ask_reading.ensures in
    let hold : c.word-events.result ≤ length c.args.heads.now = omega arith in
    omega (arith, length-take-le c.word-events.result c.args.heads.now hold)

pub slice_bounds-read_words-end-3 : goal.slice_bounds-read_words-end-3
slice_bounds-read_words-end-3 c = let h = accepted c.in_ok-ask_reading.ensures in omega arith

pub slice_bounds-read_words-end-4 : goal.slice_bounds-read_words-end-4
slice_bounds-read_words-end-4 c =
    let h = accepted c.in_ok-ask_reading.ensures in
    let hold : c.word-events.result ≤ length c.args.values.now = omega arith in
    omega (arith, length-take-le c.word-events.result c.args.values.now hold)

pub read_words-requires : goal.read_words-requires
read_words-requires c =
    let h = accepted c.in_ok-ask_reading.ensures in
    let hold : c.word-events.result ≤ length c.args.heads.now = omega arith in
    omega (arith, length-take-le c.word-events.result c.args.heads.now hold)

pub read_words-requires-2 : goal.read_words-requires-2
read_words-requires-2 c =
    let h = accepted c.in_ok-ask_reading.ensures in
    let hold : c.word-events.result ≤ length c.args.values.now = omega arith in
    omega (arith, length-take-le c.word-events.result c.args.values.now hold)

pub word-requires : goal.word-requires
word-requires c = let h = accepted c.in_ok-ask_reading.ensures in omega arith

pub returns : goal.returns
returns c =
    let args = c.args in
    let n = c.word-events.result in
    let bytes = args.bytes.now in
    let h = accepted c.in_ok-ask_reading.ensures in
    let heads_long : 4 * (2 + n) ≤ length bytes = omega arith in
    let values_long : 4 * (2 + n + n) ≤ length bytes = omega arith in
    let r = read-accepted args.limits bytes args.heads.now args.values.now c.in_ok-ask_reading.ensures refl c.word-events.ensures c.word.ensures
    (words-filled bytes 2 n args.heads.now heads_long (omega arith) c.read_words.ensures)
    (words-filled bytes (2 + n) n args.values.now values_long (omega arith) c.read_words-2.ensures) in
    record { result_value = r.0; heads_after = r.1.0; values_after = r.1.1 }
