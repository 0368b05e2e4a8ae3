use mathlib.Core.Path.{◌≡◌, refl, ◌∙◌}
use borrow.Author.Rules.{rules}
use Rattle.playback.specs.Text.{minus}
use lib.ListN.{length, get_or}
use lib.IntN.{pos, nat_abs}
use lib.Signed.{lt_z}
use Rattle.digits.specs.Ascii.{ascii}
use Rattle.handlers.proofs.Margins.{margin-answered}
use Rattle.digits.proofs.Pieces.{Stands, each-as}
use Rattle.playback.specs.Print.{first_line, event_lines, end_line}
use Rattle.playback.proofs.Printing.{none-printed, line-room, one-printed, all-printed}
use Rattle.playback.proofs.Rows.{two_texts, event_texts, last_texts, last-joined}
use Rattle.playback.proofs.Whole.{first-room, second-room, third-room, three-stand, end-line-is}
use Rattle.playback.proofs.list.put_lines.Goals as goal
use Rattle.playback.proofs.list.put_lines.Goals.{After-put_pieces-at}

-- The first line stands.
first : (c : After-put_pieces-at) → Stands c.args.out.now 0 (first_line c.args.sources (length c.args.heads.now)) c.put_pieces-at.result c.put_pieces-at.new.buffer
unfolding ascii
first c =
    let line = first_line c.args.sources (length c.args.heads.now) in
    let events = event_lines 0 c.args.heads.now c.args.answers.now c.args.refusals.now in
    each-as c.args.out.now 0 (two_texts (ascii "sources ") c.args.sources (ascii " events ") (length c.args.heads.now)) refl
    (first-room c.args.out.now line events (end_line c.args.m) c.requires.2) c.put_pieces-at.ensures.value c.put_pieces-at.ensures.buffer_after

pub loop-i-init : goal.loop-i-init
loop-i-init c =
    let line = first_line c.args.sources (length c.args.heads.now) in
    let events = event_lines 0 c.args.heads.now c.args.answers.now c.args.refusals.now in
    none-printed _ _ _ _ _ (c.requires.0, c.requires.1, second-room c.args.out.now line events (end_line c.args.m) c.requires.2 (first (goal.at.loop-i-init c).After-put_pieces-at))

pub loop-i-preserved : goal.loop-i-preserved
unfolding ascii
loop-i-preserved c =
    let inv = c.loop-i.invariant in
    let texts = event_texts c.loop-i.i c.kind.result (get_or c.args.answers.now c.loop-i.i 0) (get_or c.args.refusals.now c.loop-i.i 0) in
    one-printed inv c.loop-i-test.true c.kind.ensures
    (each-as c.loop-i.out c.loop-i.at texts refl (line-room inv c.loop-i-test.true c.kind.ensures) c.put_pieces-at-in-loop-i.ensures.value c.put_pieces-at-in-loop-i.ensures.buffer_after)

pub returns : goal.returns
unfolding ascii
returns c =
    let line = first_line c.args.sources (length c.args.heads.now) in
    let events = event_lines 0 c.args.heads.now c.args.answers.now c.args.refusals.now in
    let start = first (goal.at.returns c).After-put_pieces-at in
    let middle = all-printed c.loop-i.invariant c.loop-i-test.false in
    let z = c.unwrap_or-margin.result in
    let answered = margin-answered c.args.m c.margin.result c.margin.ensures c.unwrap_or-margin.ensures in
    let end = last-joined c.args.m.service.depth c.current_rank-level.result.0 (lt_z z (pos 0)) (nat_abs z) ∙ end-line-is c.args.m c.current_rank-level.ensures answered refl refl in
    let texts = last_texts c.args.m.service.depth c.current_rank-level.result.0 (lt_z z (pos 0)) (nat_abs z) in
    let sign : c.sign.result.now ≡ minus (lt_z z (pos 0)) = search rules in
    let size : c.unsigned_abs.result ≡ nat_abs z = search rules in
    let last = each-as c.loop-i.out c.loop-i.at texts end (third-room c.args.out.now line events (end_line c.args.m) c.requires.2 start middle)
    (rw (← sign, ← size) c.put_pieces.ensures.value) (rw (← sign, ← size) c.put_pieces.ensures.buffer_after) in
    let r = three-stand c.args.out.now line events (end_line c.args.m) c.requires.2 start middle last in record { value = r.0; out_after = r.1 }
