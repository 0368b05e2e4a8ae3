use Prim.Native.Nat.{◌≤◌, ◌+◌}
use mathlib.Core.Path.{◌≡◌}
use mathlib.Core.List.{map}
use lib.ListN.{length, take, drop}
use Rattle.record.specs.Record.{most_events}
use Rattle.text_lines.specs.Lines.{lines_in}
use Rattle.text_lines.specs.Rows.{rows_from}
use Rattle.text_reader.specs.Reading.{head_in, value_in, numbers_of, text_size, events_fault}
use Rattle.text_reader.proofs.read_events.Given as goal

abbrev pub invariant-loop-row : goal.invariant-loop-row
invariant-loop-row l = record {
  within : l.next + length l.rest ≤ text_size + 1;
  few : l.n ≤ most_events;
  counted : l.n ≤ length (rows_from l.line (lines_in l.text));
  later : drop l.n (rows_from l.line (lines_in l.text)) ≡ rows_from l.next (lines_in l.rest);
  fault : events_fault 0 (rows_from l.line (lines_in l.text)) ≡ events_fault l.n (rows_from l.next (lines_in l.rest));
  heads : take l.n l.heads ≡ map head_in (take l.n (rows_from l.line (lines_in l.text)));
  values : take l.n l.values ≡ map value_in (take l.n (rows_from l.line (lines_in l.text)));
  numbers : take l.n l.numbers ≡ numbers_of (take l.n (rows_from l.line (lines_in l.text)));
}

abbrev pub decreases-loop-row : goal.decreases-loop-row
decreases-loop-row l = length l.rest
