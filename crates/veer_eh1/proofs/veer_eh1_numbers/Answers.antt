use Prim.Native.Nat.{◌≤◌}
use mathlib.Core.Path.{refl, ap, ◌∙◌}
use mir.Facts.{to_z_pos, to_z-of_z}
use mir.Syntax.{w32}
use lib.IntN.{pos}
use borrow.Author.Rules.{rules}
use Rattle.playback_numbers.specs.Numbers.{Numbers}
use Rattle.playback_numbers.proofs.Prints.{place-small}
use Rattle.veer_eh1.proofs.Seven.{seven_is}
use Rattle.veer_eh1.proofs.veer_eh1_numbers.Goals as goal

pub overflow_cast-end : goal.overflow_cast-end
overflow_cast-end c =
    let h : c.in-Err.no.place ≤ 4000 = rw (ap (λ (q : Numbers). q.place) c.in-Err.ensures.value) (place-small _ _ _) in search rules

-- Each number was passed on as it is, and the rest are 0.
pub returns-in-Err-clause-end_after : goal.returns-in-Err-clause-end_after
returns-in-Err-clause-end_after c =
    let h : c.in-Err.no.place ≤ 4000 = rw (ap (λ (q : Numbers). q.place) c.in-Err.ensures.value) (place-small _ _ _) in
    seven_is c.in-Err.ensures.value
    (to_z-of_z {w = w32} {z = c.from-in-Err.result} (search rules) ∙ c.from-in-Err.ensures ∙ ap pos c.from-refusal.ensures)
    (to_z_pos w32 (search rules)) refl refl refl refl refl
