use mathlib.Core.Path.{refl}
use Rattle.record.proofs.Words.{words-turn, words-end}
use Rattle.record.proofs.read_words.Goals as goal

pub loop-i-preserved : goal.loop-i-preserved
loop-i-preserved c = words-turn _ _ _ _ c.requires _ c.loop-i.invariant c.loop-i-test.true c.word.ensures

pub returns : goal.returns
returns c = words-end _ _ _ _ c.requires _ c.loop-i.invariant refl c.loop-i-test.false c.loop-i.auto.i-end
