use Prim.Native.Nat.{◌≤◌, ◌+◌}
use mathlib.Core.Path.{◌≡◌}
use lib.ListN.{length}
use Rattle.text_lines.specs.Lines.{lines_in}
use Rattle.text_lines.specs.Rows.{rows_from}
use Rattle.text_reader.specs.Reading.{text_size}
use Rattle.text_reader.proofs.next_row.Given as goal

abbrev pub invariant-loop-rest : goal.invariant-loop-rest
invariant-loop-rest l = record {
  few : l.line + length l.text ≤ text_size + 1;
  within : l.number + length l.rest ≤ l.line + length l.text;
  shorter : length l.rest ≤ length l.text;
  rows : rows_from l.line (lines_in l.text) ≡ rows_from l.number (lines_in l.rest);
  lines : l.line + length (lines_in l.text) ≡ l.number + length (lines_in l.rest);
}

abbrev pub decreases-loop-rest : goal.decreases-loop-rest
decreases-loop-rest l = length l.rest
