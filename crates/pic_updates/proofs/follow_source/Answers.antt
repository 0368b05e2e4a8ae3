use Rattle.pic_updates.proofs.Moving.{follow_one}
use Rattle.pic_updates.proofs.follow_source.Goals as goal

pub returns : goal.returns
returns c =
    let a = c.args in
    follow_one a.c a.d a.sets.now a.s c.sixteen.ensures c.rank.ensures c.ready.ensures c.rank-2.ensures c.ready-2.ensures c.update.ensures.sets_after
