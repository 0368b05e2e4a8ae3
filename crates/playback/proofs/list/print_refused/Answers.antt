use Prim.Native.Nat.{◌≤◌}
use mathlib.Core.Path.{refl}
use native.Mathlib.Omega.{arith}
use lib.ListN.{length}
use Rattle.digits.specs.Ascii.{ascii}
use Rattle.digits.proofs.Pieces.{each-as}
use Rattle.playback.specs.Size.{first_line_size}
use Rattle.playback.specs.Print.{refused_line}
use Rattle.playback.proofs.Room.{with-room}
use Rattle.playback.proofs.Rows.{two_texts}
use Rattle.playback.proofs.Whole.{refused-length, at-start}
use Rattle.playback.proofs.list.print_refused.Goals as goal

pub returns : goal.returns
unfolding ascii
returns c =
    let line = refused_line c.args.refusal c.args.place in
    let room : first_line_size ≤ length c.args.out.now = omega arith in
    let fits : length line ≤ length c.args.out.now = omega (arith, refused-length c.args.refusal c.args.place, room) in
    let put = each-as c.args.out.now 0 (two_texts (ascii "refused ") c.args.refusal (ascii " at ") c.args.place) refl (omega (arith, fits))
    c.put_pieces.ensures.value c.put_pieces.ensures.buffer_after in
    let r = with-room first_line_size line c.args.out.now room (at-start c.args.out.now line fits put) in record { value = r.0; out_after = r.1 }
