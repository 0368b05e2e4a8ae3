use Rattle.digits.proofs.Digits.{low-remainder, store-turn, store-end}
use Rattle.digits.proofs.store_digits.Goals as goal

pub glyph-requires : goal.glyph-requires
glyph-requires c = low-remainder c.args.form.base _ c.args.form.sound.0 c.args.form.sound.1

pub loop-i-preserved : goal.loop-i-preserved
loop-i-preserved c = store-turn c.args.form.base c.args.at c.loop-i.i c.loop-i.left c.glyph.result c.loop-i.buffer c.loop-i-test.true c.glyph.ensures c.loop-i.invariant

pub returns : goal.returns
returns c = store-end c.args.form.base c.args.at c.loop-i.i c.loop-i.left c.loop-i.buffer c.loop-i-test.false c.loop-i.invariant
