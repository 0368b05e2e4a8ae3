use Prim.Native.Nat.{◌≤◌}
use mathlib.Core.Path.{sym}
use native.Mathlib.Omega.{arith}
use lib.ListN.{length}
use lib.Seq.{length-take-le}
use Rattle.std.proofs.lemmas.Result.{err_from_is_err_and}
use Rattle.record.proofs.Questions.{writable}
use Rattle.record.proofs.Answers.{write_done}
use Rattle.record_round_trip.proofs.Calls.{written_read, not_written}
use Rattle.record_round_trip.proofs.write_then_read.Goals as goal
use Rattle.record_round_trip.proofs.write_then_read.Goals.{In_ok-length}

-- Where something was written, it is within the bytes.
fits : (c : In_ok-length) → c.in_ok-length.length ≤ length c.write.new.bytes
fits c =
    let args = c.args in
    let done = write_done args.sources args.heads.now args.values.now (length args.bytes.now) c.write.ensures.result_value c.in_ok-length.was in
    let w = writable args.sources args.heads.now args.values.now (length args.bytes.now) done.0 in
    omega (arith, c.write.auto.bytes, w.holds, done.1)

pub slice_bounds-read-end : goal.slice_bounds-read-end
slice_bounds-read-end c = fits c

pub slice_bounds-read-end-2 : goal.slice_bounds-read-end-2
slice_bounds-read-end-2 c = sym (length-take-le _ _ (fits c))

pub returns-in_err-length : goal.returns-in_err-length
returns-in_err-length c =
    let args = c.args in
    let p = err_from_is_err_and c.from_residual.result c.from_residual.ensures.1 in
    let r = not_written args.sources args.heads.now args.values.now (λ i. (c.type_inv.heads i).fits) (λ i. (c.type_inv.values i).fits)
    args.bytes.now args.heads_back.now args.values_back.now c.write.ensures.result_value c.write.ensures.bytes_after c.in_err-length.was in
    rw (p.1, p.2)
    (record { result_value = r.0; bytes_after = r.1.0; heads_back_after = r.1.1.0; values_back_after = r.1.1.1.0; reads_back = r.1.1.1.1 })

pub returns : goal.returns
returns c =
    let args = c.args in
    let r = written_read args.sources args.heads.now args.values.now (λ i. (c.type_inv.heads i).fits) (λ i. (c.type_inv.values i).fits)
    args.bytes.now args.heads_back.now args.values_back.now c.write.ensures.result_value c.write.ensures.bytes_after
    c.in_ok-length.was c.read.ensures.result_value c.read.ensures.heads_after c.read.ensures.values_after in
    record { result_value = r.0; bytes_after = r.1.0; heads_back_after = r.1.1.0; values_back_after = r.1.1.1.0; reads_back = r.1.1.1.1 }
