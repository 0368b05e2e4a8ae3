use native.Mathlib.Omega.{arith}
use Prim.Native.Nat.{◌+◌, ◌*◌, ◌-◌, ◌≤◌}
use mathlib.Core.Path.{◌≡◌, sym, ◌∙◌}
use lib.ListN.{length, take, drop}
use lib.Seq.{sets-eq}
use Rattle.std.proofs.Common.{append_assoc, drop-drop}
use Rattle.record.specs.Words.{bytes_of}
use Rattle.record_writer.proofs.put_word.Goals as goal

pub returns : goal.returns
returns c =
    let at = 4 * c.args.k in
    let bytes = c.args.bytes.now in
    let four : at + 4 - at ≡ 4 = omega arith in
    let long : at + 4 ≤ length bytes = omega arith in
    rw (four, c.copy_from_slice.ensures.after, c.to_le_bytes.ensures, drop-drop)
    (sym (sets-eq (bytes_of c.args.w) bytes at long ∙ append_assoc (take at bytes) (bytes_of c.args.w) (drop (at + 4) bytes)))
