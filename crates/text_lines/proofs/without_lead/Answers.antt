use mathlib.Core.Path.{◌∙◌}
use Rattle.std.proofs.Common.{rules}
use Rattle.text_lines.proofs.Marks.{rest_of}
use Rattle.text_lines.proofs.Rows.{first-no_blank}
use Rattle.text_lines.proofs.without_lead.Goals as goal

pub returns : goal.returns
returns c =
    let blanks = c.unwrap_or-blanks.result in
    rest_of c.args.text.now blanks ∙ first-no_blank c.args.text.now blanks (search rules) (search rules) (search rules)
