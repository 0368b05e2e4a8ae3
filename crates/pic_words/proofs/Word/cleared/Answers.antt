use Prim.Native.Nat.{ℕ, ◌%◌}
use mathlib.Core.Bool.{Bool}
use lib.Dec.{eqb}
use Rattle.pic_words.specs.Words.{Source, cleared_source}
use Rattle.pic_words.proofs.Put.{put-kept}
use Rattle.pic_words.proofs.Changes.{Fitting, changed-is, cleared-latch}
use borrow.Author.Rules.{rules}
use Rattle.pic_words.proofs.Word.cleared.Goals as goal

pub returns : goal.returns
returns c =
    let k = c.before.before in
    let a = k.args in
    let f : Fitting a.self = search rules in
    let at : ℕ → Bool = λ z. eqb z (a.y % 32) in
    changed-is a.self at (λ (y : ℕ) (s : Source). cleared_source s) _
    (put-kept at a.self.enable f.enable) (put-kept at a.self.trigger f.trigger) (put-kept at a.self.polarity f.polarity) (put-kept at a.self.line f.line)
    (rw (c.settled.ensures, c.only.ensures, k.with_bit-latch.ensures) (cleared-latch a.self (a.y % 32)))
