use Rattle.std.proofs.Common.{rules}
use Rattle.text_lines.proofs.Marks.{first-mark}
use Rattle.text_lines.proofs.find.Goals as goal

pub returns-clause-value : goal.returns-clause-value
returns-clause-value c = first-mark c.args.mark c.args.text.now c.unwrap_or.result (search rules) (search rules) (search rules)
