use Prim.Native.Nat.{ℕ, ◌/◌, ◌%◌}
use mathlib.Core.Bool.{Bool}
use lib.Dec.{eqb}
use Rattle.pic_words.specs.Words.{Source, gateway_source}
use Rattle.pic_words.proofs.Put.{put-kept}
use Rattle.pic_words.proofs.Changes.{Fitting, changed-is, gateway-latch}
use borrow.Author.Rules.{rules}
use Rattle.pic_words.proofs.Word.with_gateway.Goals as goal

pub returns : goal.returns
returns c =
    let p = c.before.before in
    let a = p.args in
    let f : Fitting a.self = search rules in
    let at : ℕ → Bool = λ z. eqb z (a.y % 32) in
    changed-is a.self at (λ (y : ℕ) (s : Source). gateway_source s (a.v / 2 % 2) (a.v % 2)) _
    (put-kept at a.self.enable f.enable) p.with_bit.ensures p.with_bit-2.ensures (put-kept at a.self.line f.line)
    (rw (c.settled.ensures, c.only.ensures, p.with_bit-2.ensures) (gateway-latch a.self (a.y % 32) a.v))
