use Rattle.pic_bits.proofs.Shapes.{shaped}
use Rattle.pic_updates.proofs.sixteen.Goals as goal

pub returns : goal.returns
returns c = shaped 16 c.args.sets _ c.well_formed.0
