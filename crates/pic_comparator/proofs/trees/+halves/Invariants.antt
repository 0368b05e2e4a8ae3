use Rattle.pic_comparator.proofs.trees.+halves.Given as goal

abbrev pub decreases-halves : goal.decreases-halves
decreases-halves l = l.n
