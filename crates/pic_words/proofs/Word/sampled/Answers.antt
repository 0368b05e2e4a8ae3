use Prim.Native.Nat.{ℕ}
use Rattle.pic_bits.specs.Bits.{bit_of, has_bit}
use Rattle.pic_words.specs.Words.{Source, sampled_source}
use Rattle.pic_words.proofs.Put.{put-kept}
use Rattle.pic_words.proofs.Changes.{Fitting, changed-is, sampled-latch}
use borrow.Author.Rules.{rules}
use Rattle.pic_words.proofs.Word.sampled.Goals as goal

pub returns : goal.returns
returns c =
    let a = c.args in
    let f : Fitting a.self = search rules in
    let at = has_bit a.has in
    changed-is a.self at (λ (y : ℕ) (s : Source). sampled_source s (bit_of a.v y)) _
    (put-kept at a.self.enable f.enable) (put-kept at a.self.trigger f.trigger) (put-kept at a.self.polarity f.polarity)
    c.chosen.ensures (rw (c.settled.ensures, c.chosen.ensures) (sampled-latch a.self a.has a.v))
