use mathlib.Core.Path.{◌∙◌}
use Rattle.digits.specs.Ascii.{ascii}
use Rattle.refusals.specs.Words.{refusal_rows}
use Rattle.refusals.proofs.Words.{line-words}
use Rattle.refusals.proofs.words_of.Goals as goal

pub returns : goal.returns
unfolding refusal_rows ascii
returns c = c.line.ensures ∙ line-words c.args.refusal
