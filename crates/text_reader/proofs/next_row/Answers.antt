use Prim.Native.Nat.{◌<◌}
use mathlib.Core.Path.{◌≡◌}
use native.Mathlib.Omega.{arith}
use lib.ListN.{length}
use Rattle.std.proofs.Common.{rules}
use Rattle.text_lines.specs.Lines.{line_feed}
use Rattle.text_lines.proofs.Marks.{after-shorter}
use Rattle.text_reader.proofs.Turns.{row-past, row-found, one_line-more, no_row, no_line}
use Rattle.text_reader.proofs.next_row.Goals as goal
use Rattle.text_reader.proofs.next_row.Goals.{After-split}

-- What follows a line is shorter.
shorter : (c : After-split) → (0 < length c.loop-rest.rest.now) × (length c.split.result.1.now < length c.loop-rest.rest.now)
shorter c =
    let some : 0 < length c.loop-rest.rest.now = search rules in
    (some, rw c.split.ensures.after (after-shorter line_feed c.loop-rest.rest.now some))

pub returns-then-says_any : goal.returns-then-says_any
returns-then-says_any c =
    let inv = c.loop-rest.invariant in
    let less = shorter (goal.at.returns-then-says_any c).After-split in (
      row-found c.loop-rest.rest.now less.0 c.split.ensures.before c.split.ensures.after c.loop-rest.number c.said_in-said.ensures.value c.says_any.ensures c.if-says_any.true inv.rows,
      omega (arith, less.1),
      omega (arith, less.1),
    )

pub loop-rest-smaller : goal.loop-rest-smaller
loop-rest-smaller c = (shorter (goal.at.loop-rest-smaller c).After-split).1

pub loop-rest-preserved : goal.loop-rest-preserved
loop-rest-preserved c =
    let inv = c.loop-rest.invariant in
    let less = shorter (goal.at.loop-rest-preserved c).After-split in
    record {
      few = inv.few;
      within = omega (arith, less.1);
      shorter = omega (arith, less.1);
      rows = row-past c.loop-rest.rest.now less.0 c.split.ensures.before c.split.ensures.after c.loop-rest.number c.said_in-said.ensures.value c.says_any.ensures c.if-says_any.false inv.rows;
      lines = one_line-more c.loop-rest.rest.now less.0 c.split.ensures.before c.split.ensures.after c.loop-rest.number inv.lines;
    }

pub returns : goal.returns
returns c =
    let inv = c.loop-rest.invariant in
    let none : length c.loop-rest.rest.now ≡ 0 = search rules in
    (no_row c.loop-rest.rest.now none c.loop-rest.number inv.rows, no_line c.loop-rest.rest.now none c.loop-rest.number inv.lines)
