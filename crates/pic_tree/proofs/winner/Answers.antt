use mathlib.Core.Path.{◌∙◌}
use Rattle.pic_tree.proofs.Entered.{tree-of-ranks, tree-winner}
use Rattle.pic_tree.proofs.winner.Goals as goal

pub returns : goal.returns
returns c =
    let e = c.balanced.ensures ∙ tree-of-ranks c.args.c c.entering_ranks-ranks.result c.entering_ranks-ranks.ensures in
    record { tree = e; scan = e ∙ tree-winner c.args.c }
