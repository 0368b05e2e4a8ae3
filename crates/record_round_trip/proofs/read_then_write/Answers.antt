use Prim.Native.Nat.{◌≤◌}
use mathlib.Core.Path.{sym}
use native.Mathlib.Omega.{arith}
use lib.ListN.{length}
use lib.Seq.{length-take-le}
use Rattle.std.proofs.lemmas.Result.{err_from_is_err_and}
use Rattle.record.specs.Record.{board}
use Rattle.record.proofs.Questions.{readable}
use Rattle.record.proofs.Answers.{read_done}
use Rattle.record_round_trip.proofs.Calls.{read-written, not-read}
use Rattle.record_round_trip.proofs.read_then_write.Goals as goal
use Rattle.record_round_trip.proofs.read_then_write.Goals.{In_ok-sizes}

-- Where something was read, it is within the arrays.
fits : (c : In_ok-sizes) → (c.in_ok-sizes.sizes.events ≤ length c.read.new.heads) × (c.in_ok-sizes.sizes.events ≤ length c.read.new.values)
fits c =
    let args = c.args in
    let done = read_done board args.bytes.now (length args.heads.now) (length args.values.now) c.read.ensures.result_value c.in_ok-sizes.was in
    let r = readable board args.bytes.now (length args.heads.now) (length args.values.now) done.0 in
    (omega (arith, c.read.auto.heads, r.heads_hold, done.1), omega (arith, c.read.auto.values, r.values_hold, done.1))

pub slice_bounds-write-end : goal.slice_bounds-write-end
slice_bounds-write-end c = (fits c).0

pub slice_bounds-write-end-2 : goal.slice_bounds-write-end-2
slice_bounds-write-end-2 c = sym (length-take-le _ _ (fits c).0)

pub slice_bounds-write-end-3 : goal.slice_bounds-write-end-3
slice_bounds-write-end-3 c = (fits c).1

pub slice_bounds-write-end-4 : goal.slice_bounds-write-end-4
slice_bounds-write-end-4 c = sym (length-take-le _ _ (fits c).1)

pub returns-in_err-sizes : goal.returns-in_err-sizes
returns-in_err-sizes c =
    let args = c.args in
    let p = err_from_is_err_and c.from_residual.result c.from_residual.ensures.1 in
    let r = not-read board args.bytes.now (λ i. (c.type_inv.bytes i).fits) args.heads.now args.values.now args.back.now
    c.read.ensures.result_value c.read.ensures.heads_after c.read.ensures.values_after c.in_err-sizes.was in
    rw (p.1, p.2)
    (record { result_value = r.0; heads_after = r.1.0; values_after = r.1.1.0; back_after = r.1.1.1.0; writes_back = r.1.1.1.1 })

pub returns : goal.returns
returns c =
    let args = c.args in
    let r = read-written board args.bytes.now (λ i. (c.type_inv.bytes i).fits) args.heads.now args.values.now args.back.now
    c.read.ensures.result_value c.read.ensures.heads_after c.read.ensures.values_after
    c.in_ok-sizes.was c.write.ensures.result_value c.write.ensures.bytes_after in
    record { result_value = r.0; heads_after = r.1.0; values_after = r.1.1.0; back_after = r.1.1.1.0; writes_back = r.1.1.1.1 }
