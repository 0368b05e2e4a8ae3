use Rattle.buffers.proofs.Least.{min-least}
use Rattle.buffers.proofs.lesser.Goals as goal

pub returns : goal.returns
returns c = rw (← min-least c.args.a c.args.b) c.min.ensures
