use mathlib.Core.Path.{refl, ap, ◌∙◌}
use Rattle.std.proofs.Common.{rules, tests}
use Rattle.std.proofs.lemmas.Iterator.Consumers.{nth_from_yields_List}
use Rattle.std.proofs.lemmas.Iterator.Splits.{YieldsList-from_slice_split}
use Rattle.std.specs.Option.{unwrap_or}
use mathlib.Core.List.{[]}
use Rattle.refusals.proofs.Lines.{part-line, behind}
use Rattle.refusals.proofs.line.Goals as goal

pub returns : goal.returns
returns c =
    let yields = YieldsList-from_slice_split _ _ c.args.text.now c.split.ensures.rest c.split.ensures.done c.split.ensures.closure (λ x r q k. search (rules, tests)) in
    let part = nth_from_yields_List c.nth.result c.nth.new.self c.args.n c.nth.ensures.ran yields in
    ap (λ r. r.now) c.unwrap_or.ensures ∙ behind c.nth.result _ refl ∙ ap (λ r. unwrap_or r []) part ∙ part-line c.args.text.now c.args.n
