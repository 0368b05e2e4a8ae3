use Prim.Native.Nat.{◌≤◌}
use native.Mathlib.Omega.{arith}
use lib.ListN.{length}
use Rattle.claims.proofs.Playing.{played-all}
use Rattle.playback.specs.Size.{print_room}
use Rattle.playback.specs.Print.{played_lines}
use Rattle.playback.proofs.Room.{with-room, filled-as}
use Rattle.playback.proofs.Printing.{Each}
use Rattle.playback.proofs.Whole.{known-fit, played-lines}
use borrow.Author.Rules.{rules}
use Rattle.playback.proofs.bytes.print_played.Goals as goal

pub put_lines-requires : goal.put_lines-requires
put_lines-requires g c =
    let play = c.play_on-played in
    let in-answers : Each 4294967296 play.new.answers = search rules in
    let in-refusals : Each 256 play.new.refusals = search rules in
    let fits = known-fit c.args.sources c.args.heads.now play.new.answers play.new.refusals play.result.machine c.requires.0 c.requires.2 in-answers in-refusals in
    (search rules, search rules, omega (arith, fits, c.print_room.ensures, c.if-out-print_room.false))

pub returns : goal.returns
returns g c =
    let play = c.play_on-played in
    let all = played-all c.args.sources c.args.heads.now c.args.values.now c.args.answers.now c.args.refusals.now c.requires.1 c.requires.3 c.requires.4 play.ensures.value play.ensures.answers_after play.ensures.refusals_after in
    let room : print_room (length c.args.heads.now) ≤ length c.args.out.now = omega (arith, c.print_room.ensures, c.if-out-print_room.false) in
    let r = with-room (print_room (length c.args.heads.now)) (played_lines c.args.sources c.args.heads.now c.args.values.now) c.args.out.now room
    (filled-as c.args.out.now (played-lines c.args.sources c.args.heads.now c.args.values.now c.args.answers.now c.args.refusals.now all) (c.put_lines.ensures.value, c.put_lines.ensures.out_after)) in record { value = r.0; out_after = r.1 }
