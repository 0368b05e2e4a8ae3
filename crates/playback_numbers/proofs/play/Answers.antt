use Prim.Native.Nat.{ℕ}
use mathlib.Core.Path.{◌≡◌, sym}
use mathlib.Core.List.{List}
use native.Mathlib.Omega.{arith}
use lib.ListN.{length, take, replicate, length-replicate}
use lib.Seq.{length-take-le}
use Rattle.std.proofs.lemmas.Result.{err_from_is_err_and}
use Rattle.questions.specs.Numbers.{number_of}
use Rattle.record.specs.Record.{board, most_events}
use Rattle.record.specs.Questions.{read_verdict}
use Rattle.playback.proofs.Reading.{WasRead, was_read, WasRefused, was-refused}
use Rattle.playback_numbers.specs.Numbers.{verdict_of}
use Rattle.playback_numbers.proofs.Reading.{served, serves-part}
use Rattle.playback_numbers.proofs.Playing.{left-played, left-refused}
use Rattle.playback_numbers.proofs.play.Goals as goal
use Rattle.playback_numbers.proofs.play.Goals.{After-read, In_ok-sizes, After-from_residual}

-- The places of a part.
abbrev zeros : ℕ → List ℕ
zeros n = take n (replicate most_events 0)

-- The reader's verdict is that of the lent arrays.
alike : (c : After-read)
    → read_verdict board c.args.«record».now (length (zeros c.places.result)) (length (zeros c.places-2.result))
    ≡ verdict_of c.args.«record».now (length c.args.answers.now) (length c.args.refusals.now)
alike c =
    let count : length (replicate {A = ℕ} most_events 0) ≡ most_events = length-replicate {A = ℕ} most_events 0 in
    served c.args.«record».now (zeros c.places.result) (zeros c.places-2.result) (length c.args.answers.now) (length c.args.refusals.now)
    (serves-part _ _ (replicate most_events 0) count c.places.ensures) (serves-part _ _ (replicate most_events 0) count c.places-2.ensures)

-- The record that was read.
done : (c : In_ok-sizes)
    → WasRead board c.args.«record».now (length c.args.answers.now) (length c.args.refusals.now) c.read.new.heads c.read.new.values c.in_ok-sizes.sizes.events c.in_ok-sizes.sizes.sources
done c =
    was_read board c.args.«record».now (zeros c.places.result) (zeros c.places-2.result) (length c.args.answers.now) (length c.args.refusals.now)
    (alike (goal.at-In_ok-sizes c).After-read)
    c.read.auto.heads c.read.auto.values c.read.ensures.result_value c.read.ensures.heads_after c.read.ensures.values_after c.in_ok-sizes.was

-- The record that was refused.
not : (c : After-from_residual)
    → WasRefused board c.args.«record».now (length c.args.answers.now) (length c.args.refusals.now) (number_of c.in_err-sizes.field-0.0.refusal) c.in_err-sizes.field-0.0.place
not c =
    was-refused board c.args.«record».now (zeros c.places.result) (zeros c.places-2.result) (length c.args.answers.now) (length c.args.refusals.now)
    (alike (goal.at-After-from_residual c).After-read)
    c.read.ensures.result_value c.in_err-sizes.was

pub slice_bounds-play-end : goal.slice_bounds-play-end
slice_bounds-play-end c = sym (length-take-le _ _ (done c).in-heads)

pub slice_bounds-play-end-2 : goal.slice_bounds-play-end-2
slice_bounds-play-end-2 c = sym (length-take-le _ _ (done c).in-values)

pub overflow_cast-sizes : goal.overflow_cast-sizes
overflow_cast-sizes c = omega (arith, (done (goal.at.overflow_cast-sizes c).In_ok-sizes).most)

pub overflow_cast-sizes-2 : goal.overflow_cast-sizes-2
overflow_cast-sizes-2 c = omega (arith, (done (goal.at.overflow_cast-sizes-2 c).In_ok-sizes).few)

pub returns : goal.returns
returns c =
    let r = left-played c.args.«record».now c.args.answers.now c.args.refusals.now c.read.new.heads c.read.new.values (done (goal.at.returns c).In_ok-sizes) c.play-played.ensures.value c.play-played.ensures.answers_after c.play-played.ensures.refusals_after c.accepted.ensures in record { value = r.0; answers_after = r.1.0; refusals_after = r.1.1 }

pub returns-in_err-sizes : goal.returns-in_err-sizes
returns-in_err-sizes c =
    let p = err_from_is_err_and c.from_residual.result c.from_residual.ensures.1 in
    let r = left-refused c.args.«record».now c.args.answers.now c.args.refusals.now (not c) (rw (p.1, p.2)) in record { value = r.0; answers_after = r.1.0; refusals_after = r.1.1 }
