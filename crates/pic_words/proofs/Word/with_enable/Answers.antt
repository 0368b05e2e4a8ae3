use Prim.Native.Nat.{ℕ, ◌%◌}
use mathlib.Core.Bool.{Bool}
use lib.Dec.{eqb}
use Rattle.pic_words.specs.Words.{Source, enabled_source}
use Rattle.pic_words.proofs.Put.{put-kept}
use Rattle.pic_words.proofs.Changes.{Fitting, changed-is}
use borrow.Author.Rules.{rules}
use Rattle.pic_words.proofs.Word.with_enable.Goals as goal

pub returns : goal.returns
returns c =
    let a = c.args in
    let f : Fitting a.self = search rules in
    let at : ℕ → Bool = λ z. eqb z (a.y % 32) in
    changed-is a.self at (λ (y : ℕ) (s : Source). enabled_source s (a.v % 2)) _
    c.with_bit.ensures (put-kept at a.self.trigger f.trigger) (put-kept at a.self.polarity f.polarity)
    (put-kept at a.self.line f.line) (put-kept at a.self.latch f.latch)
