use mathlib.Core.Path.{sym, ap, ◌∙◌}
use mathlib.Core.List.{List}
use Prim.Native.Nat.{ℕ, ◌≤◌}
use native.Mathlib.Omega.{arith}
use lib.ListN.{length, drop}
use lib.Seq.{drop-drop}
use Rattle.text_lines.proofs.Marks.{up_to, from_past, none-past}
use Rattle.text_reader.proofs.split.Goals as goal

pub returns-in-Some-clause-before : goal.returns-in-Some-clause-before
returns-in-Some-clause-before c = c.split_at.ensures.front ∙ up_to c.args.mark c.args.text.now c.find.ensures.value

pub returns-in-Some-clause-after : goal.returns-in-Some-clause-after
returns-in-Some-clause-after c =
    ap (λ (l : List ℕ). drop 1 l) (sym c.in-Some.ensures.cases.0 ∙ c.split_at.ensures.back)
    ∙ drop-drop 1 c.find.result c.args.text.now ∙ from_past c.args.mark c.args.text.now c.find.ensures.value

pub returns-in-None-clause-before : goal.returns-in-None-clause-before
returns-in-None-clause-before c = c.split_at.ensures.front ∙ up_to c.args.mark c.args.text.now c.find.ensures.value

pub returns-in-None-clause-after : goal.returns-in-None-clause-after
returns-in-None-clause-after c =
    let none : length c.args.text.now ≤ c.find.result = omega (arith, c.in-None.ensures.cases, c.split_at.ensures.back_len) in
    c.split_at.ensures.back ∙ none-past c.args.mark c.args.text.now c.find.ensures.value none
