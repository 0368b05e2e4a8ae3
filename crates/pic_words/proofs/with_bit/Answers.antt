use Prim.Native.Nat.{◌%◌}
use Rattle.pic_words.proofs.Put.{with-bit-is}
use Rattle.pic_words.proofs.with_bit.Goals as goal

pub returns : goal.returns
returns c = let a = c.args in rw (c.chosen.ensures, c.only-b.ensures) (with-bit-is a.w (a.y % 32) a.v)
