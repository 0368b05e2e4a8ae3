use mir.Val.{Fits}
use mir.Syntax.{w32}
use Rattle.pic_words.proofs.Changes.{pending-is}
use borrow.Author.Rules.{rules}
use Rattle.pic_words.proofs.Word.pending.Goals as goal

pub returns : goal.returns
returns c =
    let a = c.args in
    let h : Fits w32 a.has = search rules in
    rw c.chosen.ensures (pending-is a.self a.has h.fits)
