use Prim.Native.Nat.{ℕ, ◌≤◌}
use native.Mathlib.Omega.{arith}
use mathlib.Core.Path.{sym, ap, ◌∙◌}
use lib.ListN.{length}
use lib.Seq.{length-take-le}
use Rattle.buffers.specs.Least.{least}
use Rattle.playback.specs.Size.{lines_room}
use Rattle.playback.proofs.Whole.{any_fit, given-few}
use Rattle.playback.proofs.Printing.{Each}
use borrow.Author.Rules.{rules}
use Rattle.playback.proofs.list.print_lines.Goals as goal
use Rattle.playback.proofs.list.print_lines.Goals.{After-lesser-k}

few : (c : After-lesser-k)
    → let s = c.before.before.before.before.before.before in let k = c.lesser-k.result in (k ≤ length s.args.heads.now) × (k ≤ length s.args.answers.now) × (k ≤ length s.args.refusals.now)
few c =
    let s = c.before.before.before.before.before.before in
    given-few s.args.heads.now s.args.answers.now s.args.refusals.now (c.lesser-k.ensures ∙ ap (λ (n : ℕ). least (length s.args.heads.now) n) c.lesser.ensures)

pub slice_bounds-put_lines-end : goal.slice_bounds-put_lines-end
slice_bounds-put_lines-end c = let all = few (goal.at.slice_bounds-put_lines-end c).After-lesser-k in sym (length-take-le _ _ (omega arith))

pub put_lines-requires : goal.put_lines-requires
put_lines-requires c =
    let all = few (goal.at.put_lines-requires c).After-lesser-k in
    let count = length-take-le c.lesser-k.result c.args.heads.now all.0 in
    let in-heads : Each 4294967296 c.args.heads.now = search rules in
    let in-answers : Each 4294967296 c.args.answers.now = search rules in
    let in-refusals : Each 256 c.args.refusals.now = search rules in
    let room : lines_room c.lesser-k.result ≤ length c.args.out.now = search rules in
    let fits = any_fit c.args.sources c.args.heads.now c.args.answers.now c.args.refusals.now c.args.m c.lesser-k.result all.0 in-heads in-answers in-refusals in
    (omega (arith, count, all.1), omega (arith, count, all.2), omega (arith, fits, room))
