use mathlib.Core.Path.{sym, ◌∙◌}
use mir.Facts.{to_z-of_z}
use mir.Syntax.{w32}
use borrow.Author.Rules.{rules}
use Rattle.handlers.specs.Calls.{margin_answer}
use Rattle.handlers.proofs.Machine.margin.Goals as goal

pub returns-then-is_sound : goal.returns-then-is_sound
unfolding margin_answer
returns-then-is_sound c = rw (sym c.is_sound.ensures ∙ c.if-is_sound.true, to_z-of_z {w = w32} {z = c.margin.result} (search rules), c.margin.ensures)

pub returns-else-is_sound : goal.returns-else-is_sound
unfolding margin_answer
returns-else-is_sound c = rw (sym c.is_sound.ensures ∙ c.if-is_sound.false)
