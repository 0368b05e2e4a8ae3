use mir.Val.{Fits}
use mir.Syntax.{w32}
use Rattle.pic_words.proofs.Put.{settled_is}
use borrow.Author.Rules.{rules}
use Rattle.pic_words.proofs.settled.Goals as goal

pub returns : goal.returns
returns c =
    let a = c.args in
    let h : Fits w32 a.has = search rules in
    let k : Fits w32 a.latch = search rules in
    settled_is a.has a.line a.polarity a.latch h.fits k.fits
