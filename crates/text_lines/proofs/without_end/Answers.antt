use mathlib.Core.Path.{ap}
use mathlib.Core.List.{List}
use Prim.Native.Nat.{ℕ}
use lib.ListN.{take}
use Rattle.std.proofs.Common.{rules, length}
use Rattle.text_lines.proofs.Rows.{last-no_blank}
use Rattle.text_lines.proofs.without_end.Goals as goal

pub returns-in-Some : goal.returns-in-Some
returns-in-Some c =
    let text : List ℕ = c.args.text.now in
    ap (λ (n : ℕ). take n text) (last-no_blank text (length text) _ (search rules) (search rules) (search rules))

pub returns-in-None : goal.returns-in-None
returns-in-None c =
    let text : List ℕ = c.args.text.now in
    ap (λ (n : ℕ). take n text) (last-no_blank text (length text) 0 (search rules) (search rules) (search rules))
