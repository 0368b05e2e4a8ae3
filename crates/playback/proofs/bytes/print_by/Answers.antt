use mathlib.Core.Path.{◌≡◌, ◌∙◌}
use mathlib.Core.List.{List}
use Prim.Native.Nat.{ℕ, ◌≤◌}
use native.Mathlib.Omega.{arith}
use lib.ListN.{length, replicate, length-replicate}
use Rattle.questions.specs.Numbers.{number_of}
use Rattle.record.specs.Record.{most_events, heads_of}
use Rattle.record.proofs.Questions.{own-arrays}
use Rattle.playback.proofs.Room.{put_as}
use Rattle.playback.proofs.Reading.{WasRead, was_read, WasRefused, was-refused, print-refused, played-is, room-done, room-refused}
use borrow.Author.Rules.{rules}
use Rattle.playback.proofs.bytes.print_by.Goals as goal
use Rattle.playback.proofs.bytes.print_by.Goals.{In-Ok, In-Err}
use Rattle.playback.proofs.bytes.print_by.Given.{Over}

-- The record that was read.
done : (g : Over) (c : In-Ok g)
    → WasRead c.args.limits c.args.«record».now c.args.limits.events c.args.limits.events c.read_within.new.heads c.read_within.new.values c.in-Ok.sizes.events c.in-Ok.sizes.sources
done g c =
    let places : List ℕ = replicate g.row.EVENTS 0 in
    let count : length places ≡ c.args.limits.events = length-replicate {A = ℕ} g.row.EVENTS 0 ∙ c.requires in
    was_read c.args.limits c.args.«record».now places places c.args.limits.events c.args.limits.events
    (own-arrays c.args.limits c.args.«record».now count count)
    c.read_within.auto.heads c.read_within.auto.values c.read_within.ensures.result_value c.read_within.ensures.heads_after c.read_within.ensures.values_after c.in-Ok.is

-- The record that was refused.
not : (g : Over) (c : In-Err g)
    → WasRefused c.args.limits c.args.«record».now c.args.limits.events c.args.limits.events (number_of c.in-Err.refused.refusal) c.in-Err.refused.place
not g c =
    let places : List ℕ = replicate g.row.EVENTS 0 in
    let count : length places ≡ c.args.limits.events = length-replicate {A = ℕ} g.row.EVENTS 0 ∙ c.requires in
    was-refused c.args.limits c.args.«record».now places places c.args.limits.events c.args.limits.events
    (own-arrays c.args.limits c.args.«record».now count count) c.read_within.ensures.result_value c.in-Err.is

pub shared_whole_as_front-print_played : goal.shared_whole_as_front-print_played
shared_whole_as_front-print_played g c =
    (omega (arith, (done g (goal.at.shared_whole_as_front-print_played g c).In-Ok).in-a, c.requires), search rules)

pub print_played-requires : goal.print_played-requires
print_played-requires g c =
    let f = done g (goal.at.print_played-requires g c).In-Ok in
    let few : length (heads_of c.args.«record».now) ≤ most_events = omega (arith, f.few, f.count) in
    let fits : length (heads_of c.args.«record».now) ≤ length (replicate {A = ℕ} g.row.EVENTS 0) = omega (arith, f.count, f.in-a, c.requires, length-replicate {A = ℕ} g.row.EVENTS 0) in
    rw (f.has-heads, f.has-values) (few, f.same, f.kinds, fits, fits)

pub returns-in-Ok : goal.returns-in-Ok
returns-in-Ok g c =
    let f = done g (goal.at.returns-in-Ok g c).In-Ok in
    let r = put_as c.args.out.now (room-done f) (played-is f) (c.print_played.ensures.value, c.print_played.ensures.out_after) in record { value = r.0; out_after = r.1 }

pub returns-in-Err : goal.returns-in-Err
returns-in-Err g c =
    let f = not g (goal.at.returns-in-Err g c).In-Err in
    let r = put_as c.args.out.now (room-refused f) (print-refused f) (c.print_bad.ensures.value, c.print_bad.ensures.out_after) in record { value = r.0; out_after = r.1 }
