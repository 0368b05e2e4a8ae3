use mathlib.Core.Path.{◌≡◌, ap}
use mathlib.Core.List.{List, [], ◌∷◌, ◌++◌}
use Prim.Native.Nat.{ℕ, ◌<◌}
use native.Mathlib.Omega.{arith}
use lib.ListN.{length, get_or, take, length-append}
use Rattle.std.proofs.Common.{rules}
use Rattle.std.proofs.lemmas.Slice.Zip.{zip_turn, zip_end}
use Rattle.digits.specs.Pieces.{put_each, place_after_each}
use Rattle.text_writer.specs.Writing.{ended, sources_text, line_texts, listing_of}
use Rattle.text_writer.proofs.Writing.{none-listed, one-listed, all-listed, events-short}
use Rattle.text_writer.proofs.put_listing.Goals as goal
use Rattle.text_writer.proofs.put_listing.Goals.{In-Some, In-None}

pub loop-head-init : goal.loop-head-init
loop-head-init c =
    let pre = c.requires in
    let none = none-listed c.args.text.now c.args.sources c.args.heads.now c.args.values.now pre.0 pre.1 c.put_pieces-at.ensures.value c.put_pieces-at.ensures.buffer_after in
    record { small = pre.0; room = pre.1; place = none.0; put = none.1 }

-- The event whose line is put.
turn : (c : In-Some)
    → (length c.loop-head.yielded < length c.args.heads.now)
    × (length c.loop-head.yielded < length c.args.values.now)
    × (c.in-Some.head.now ≡ get_or c.args.heads.now (length c.loop-head.yielded) 0)
    × (c.in-Some.value.now ≡ get_or c.args.values.now (length c.loop-head.yielded) 0)
turn c =
    let t = zip_turn c.args.heads.now c.args.values.now c.loop-head.yielded c.into_iter-head-iterator.result c.loop-head.head-iterator c.next.new.self c.next.result (search rules) (search rules)
    c.loop-head.yielded_by (c.in-Some.head, c.in-Some.value) c.in-Some.is c.next.ensures.steps in
    (t.0, t.1, t.2 0, t.3 0)

pub loop-head-preserved : goal.loop-head-preserved
loop-head-preserved c =
    let inv = c.loop-head.invariant in
    let t = turn (goal.at.loop-head-preserved c).In-Some in
    let k = length c.loop-head.yielded in
    let one = length-append c.loop-head.yielded ((c.in-Some.head, c.in-Some.value) ∷ []) in
    let texts = line_texts (get_or c.args.heads.now k 0) (get_or c.args.values.now k 0) in
    let place : c.put_event-at.result ≡ place_after_each c.loop-head.text c.loop-head.at texts = rw (← t.2, ← t.3) c.put_event-at.ensures.value in
    let put : c.put_event-at.new.text ≡ put_each c.loop-head.text c.loop-head.at texts = rw (← t.2, ← t.3) c.put_event-at.ensures.text_after in
    let next = one-listed c.args.text.now c.args.sources c.args.heads.now c.args.values.now inv.small inv.room k t.0 t.1 (inv.place, inv.put) place put in
    record { small = inv.small; room = inv.room; place = rw one next.0; put = rw one next.1 }

-- All events were put.
all : (c : In-None)
    → listing_of c.args.sources (take (length c.loop-head.yielded) c.args.heads.now) (take (length c.loop-head.yielded) c.args.values.now)
    ≡ listing_of c.args.sources c.args.heads.now c.args.values.now
all c =
    let n = zip_end c.args.heads.now c.args.values.now c.loop-head.yielded c.into_iter-head-iterator.result c.loop-head.head-iterator c.next.new.self c.next.result (search rules) (search rules)
    c.loop-head.yielded_by c.in-None.is c.next.ensures.steps in
    ap (λ (l : List ℕ). ended (sources_text c.args.sources) ++ l)
    (events-short (length c.loop-head.yielded) c.args.heads.now c.args.values.now (λ a b. omega (arith, n, a, b)))

pub returns : goal.returns
returns c =
    let inv = c.loop-head.invariant in
    let e = all (goal.at.returns c).In-None in
    let r = all-listed c.args.text.now c.args.sources c.args.heads.now c.args.values.now inv.small inv.room (rw e at inv.place, rw e at inv.put) in
    record { value = r.0; text_after = r.1.0; upper_bound = r.1.1 }
