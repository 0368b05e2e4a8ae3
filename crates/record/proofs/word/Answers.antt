use native.Mathlib.Omega.{arith}
use Rattle.record.proofs.Words.{word_at}
use Rattle.record.proofs.word.Goals as goal

pub returns : goal.returns
returns c = omega (arith, c.from_le_bytes.ensures, word_at c.args.bytes.now c.args.k c.requires)
