-- The margin of the query's answer, 0 where it is refused, is that of the rule.
use mathlib.Core.Path.{◌≡◌, refl, ap, ◌∙◌}
use lib.IntN.{ℤ, pos}
use Rattle.std.specs.Prelude.{Result, Ok, Err}
use Rattle.std.specs.Result.{result_unwrap_or}
use Rattle.questions.specs.declared.Refusal.{Refusal}
use Rattle.handlers.specs.declared.Machine.{Machine}
use Rattle.handlers.specs.Margins.{Margin, margin_numbers}
use Rattle.handlers.specs.Calls.{margin_answer}

pub margin-or : (r : Result ℤ Refusal) → result_unwrap_or r (pos 0) ≡ (margin_numbers r).margin
margin-or (Ok z) = refl
margin-or (Err e) = refl

pub margin-answered : (m : Machine) (r : Result ℤ Refusal) {z : ℤ} → margin_numbers r ≡ margin_answer m → z ≡ result_unwrap_or r (pos 0) → z ≡ (margin_answer m).margin
margin-answered m r e ez = ez ∙ margin-or r ∙ ap (λ (q : Margin). q.margin) e
