use mathlib.Core.Path.{refl}
use Rattle.text_lines.proofs.Rows.{unreturned-there}
use Rattle.text_lines.proofs.unreturned.Goals as goal

pub returns : goal.returns
returns c = rw c.unwrap_or.ensures (unreturned-there c.args.line.now c.strip_suffix.result c.args.line refl c.strip_suffix.ensures.cases)
