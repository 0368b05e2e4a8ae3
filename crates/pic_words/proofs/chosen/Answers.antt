use mir.Val.{Fits}
use mir.Syntax.{w32}
use Rattle.pic_words.proofs.Put.{chosen_is}
use borrow.Author.Rules.{rules}
use Rattle.pic_words.proofs.chosen.Goals as goal

pub returns : goal.returns
returns c =
    let a = c.args in
    let v : Fits w32 a.v = search rules in
    let w : Fits w32 a.w = search rules in
    chosen_is a.mask a.v a.w v.fits w.fits
