use mir.Val.{Fits}
use mir.Syntax.{w32}
use Rattle.pic_words.proofs.Changes.{ready-is}
use borrow.Author.Rules.{rules}
use Rattle.pic_words.proofs.Word.ready.Goals as goal

pub returns : goal.returns
returns c =
    let a = c.args in
    let e : Fits w32 a.self.enable = search rules in
    rw c.pending.ensures (ready-is a.self a.has e.fits)
