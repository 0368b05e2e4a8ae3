use mathlib.Core.Path.{◌≡◌, refl, ◌∙◌, ap}
use native.Mathlib.Omega.{arith}
use mathlib.Core.List.{map}
use lib.ListN.{take}
use lib.Seq.{take-length}
use Rattle.std.proofs.Common.{rules, Ok, Err, ◌<◌}
use Rattle.record.specs.Record.{most_events}
use Rattle.std.proofs.lemmas.Grind.{common_steps}
use Rattle.text_reader.specs.Answers.{bad, event_by, why_number}
use Rattle.text_lines.specs.Lines.{lines_in}
use Rattle.text_lines.specs.Rows.{Row, rows_from}
use Rattle.text_reader.specs.Reading.{head_in, value_in, numbers_of}
use Rattle.text_reader.proofs.Turns.{rows-turn, count_turn, stored-turn, rows_end, fault-many, fault-bad, good-turn, fault-none}
use Rattle.text_reader.proofs.read_events.Goals as goal

pub returns-then-n-ge-MOST_EVENTS-clause-fault_value : goal.returns-then-n-ge-MOST_EVENTS-clause-fault_value
returns-then-n-ge-MOST_EVENTS-clause-fault_value c =
    fault-many c.loop-row.n (record { number = c.in-Ok.row.number; said = c.in-Ok.row.said.now }) c.in-Ok.ensures.0 c.if-n-ge-MOST_EVENTS.true c.loop-row.invariant.fault

pub returns-in_err-event-clause-fault_value : goal.returns-in_err-event-clause-fault_value
returns-in_err-event-clause-fault_value c =
    let b : bad (why_number c.in_err-event.field-0.0.why) ≡ event_by c.event_in.result = grind (arith, common_steps) in
    let l : c.in_err-event.field-0.0.line ≡ c.in-Ok.row.number = grind (arith, common_steps) in
    let r : c.from_residual.result ≡ Err c.in_err-event.field-0.0 = grind (arith, common_steps) in
    let row : Row = record { number = c.in-Ok.row.number; said = c.in-Ok.row.said.now } in
    rw (r, l) (fault-bad c.loop-row.n row c.in-Ok.ensures.0 c.if-n-ge-MOST_EVENTS.false (b ∙ c.event_in.ensures) c.loop-row.invariant.fault)

pub loop-row-preserved : goal.loop-row-preserved
loop-row-preserved c =
    let inv = c.loop-row.invariant in
    let n = c.loop-row.n in
    let rows = rows_from c.args.line (lines_in c.args.text.now) in
    let row : Row = record { number = c.in-Ok.row.number; said = c.in-Ok.row.said.now } in
    let e : c.event_in.result ≡ Ok c.in_ok-event.event = grind (arith, common_steps) in
    let g = good-turn n row c.in-Ok.ensures.0 c.if-n-ge-MOST_EVENTS.false (rw e at c.event_in.ensures) in
    let room : n < most_events = c.if-n-ge-MOST_EVENTS.false in
    record {
      within = omega (arith, c.in-Ok.ensures.1);
      few = omega arith;
      counted = count_turn rows n row inv.later c.in-Ok.ensures.0;
      later = rows-turn rows n row inv.later c.in-Ok.ensures.0;
      fault = inv.fault ∙ g.0;
      heads = stored-turn rows n row inv.later c.in-Ok.ensures.0 head_in _ _ g.1 (omega arith) inv.heads;
      values = stored-turn rows n row inv.later c.in-Ok.ensures.0 value_in _ _ g.2 (omega arith) inv.values;
      numbers = stored-turn rows n row inv.later c.in-Ok.ensures.0 (λ (r : Row). r.number) _ _ refl (omega arith) inv.numbers;
    }

pub returns-clause-fault_value : goal.returns-clause-fault_value
returns-clause-fault_value c = fault-none c.loop-row.n c.in_default.ensures.0 c.loop-row.invariant.fault

pub returns-clause-events : goal.returns-clause-events
returns-clause-events c =
    let inv = c.loop-row.invariant in
    let rows = rows_from c.args.line (lines_in c.args.text.now) in
    let all : take c.loop-row.n rows ≡ rows = rw (rows_end rows c.loop-row.n inv.counted inv.later c.in_default.ensures.0) (take-length rows) in
    (search rules, inv.heads ∙ ap (map head_in) all, inv.values ∙ ap (map value_in) all, inv.numbers ∙ ap numbers_of all)
