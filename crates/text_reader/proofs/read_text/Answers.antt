use mathlib.Core.Path.{◌≡◌, ◌∙◌}
use mathlib.Core.Bool.{true, false}
use native.Mathlib.Omega.{arith}
use Rattle.std.proofs.Common.{◌+◌, [], length, Ok}
use Rattle.std.proofs.lemmas.Grind.{common_steps}
use Rattle.text_lines.specs.Lines.{lines_in}
use Rattle.text_lines.specs.Numbers.{found_by}
use Rattle.text_lines.specs.Rows.{Row, rows_of}
use Rattle.text_reader.specs.Answers.{fault_by}
use Rattle.text_reader.specs.Reading.{not_sources}
use Rattle.text_reader.proofs.Made.{long-text, no_rows, sources-bad, sources-good}
use Rattle.text_reader.proofs.read_text.Goals as goal

pub returns-then-text-gt-TEXT_SIZE-clause-fault_value : goal.returns-then-text-gt-TEXT_SIZE-clause-fault_value
returns-then-text-gt-TEXT_SIZE-clause-fault_value c = long-text _ c.if-text-gt-TEXT_SIZE.true

pub returns-in_err-row-clause-fault_value : goal.returns-in_err-row-clause-fault_value
returns-in_err-row-clause-fault_value c =
    let none : rows_of c.args.text.now ≡ [] = grind (arith, common_steps) in
    let past : c.in_err-row.field-0.0.line ≡ 1 + length (lines_in c.args.text.now) = grind (arith, common_steps) in
    let f : fault_by c.from_residual.result ≡ not_sources c.in_err-row.field-0.0.line = grind (arith, common_steps) in
    f ∙ no_rows c.args.text.now c.if-text-gt-TEXT_SIZE.false none past

pub returns-in_err-sources-clause-fault_value : goal.returns-in_err-sources-clause-fault_value
returns-in_err-sources-clause-fault_value c =
    let row : Row = record { number = c.in_ok-row.row.number; said = c.in_ok-row.row.said.now } in
    let there : c.next_row.result ≡ Ok c.in_ok-row.row = grind (arith, common_steps) in
    let none : (found_by c.decimal_in.result).ok ≡ false = grind (arith, common_steps) in
    let f : fault_by c.from_residual-in_err-sources.result ≡ not_sources row.number = grind (arith, common_steps) in
    f ∙ sources-bad c.args.text.now c.if-text-gt-TEXT_SIZE.false row (rw there at c.next_row.ensures).0 c.decimal_in.ensures none

pub returns-in_err-events-clause-fault_value : goal.returns-in_err-events-clause-fault_value
returns-in_err-events-clause-fault_value c =
    let row : Row = record { number = c.in_ok-row.row.number; said = c.in_ok-row.row.said.now } in
    let there : c.next_row.result ≡ Ok c.in_ok-row.row = grind (arith, common_steps) in
    let some : (found_by c.decimal_in.result).ok ≡ true = grind (arith, common_steps) in
    let f : fault_by c.from_residual-in_err-events.result ≡ fault_by c.read_events.result = grind (arith, common_steps) in
    sources-good c.args.text.now c.if-text-gt-TEXT_SIZE.false row (rw there at c.next_row.ensures).0 c.decimal_in.ensures some (f ∙ c.read_events.ensures.fault_value)

pub returns-clause-fault_value : goal.returns-clause-fault_value
returns-clause-fault_value c =
    let row : Row = record { number = c.in_ok-row.row.number; said = c.in_ok-row.row.said.now } in
    let there : c.next_row.result ≡ Ok c.in_ok-row.row = grind (arith, common_steps) in
    let some : (found_by c.decimal_in.result).ok ≡ true = grind (arith, common_steps) in
    sources-good c.args.text.now c.if-text-gt-TEXT_SIZE.false row (rw there at c.next_row.ensures).0 c.decimal_in.ensures some c.in_ok-events.ensures.fault_value
