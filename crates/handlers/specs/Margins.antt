-- Document 01: what the margin query answers. "A refused event or query answers 0 and the number."
use Rattle.std.specs.Prelude.{ℕ, ℤ, pos, Result, Ok, Err}
use Rattle.questions.specs.declared.Refusal.{Refusal}
use Rattle.questions.specs.Numbers.{number_of}

-- The margin, and the refusal, 0 if there is none.
pub record Margin : Type 0 where
  pub margin : ℤ
  pub refusal : ℕ

-- Both of each answer of the query.
abbrev pub margin_numbers : Result ℤ Refusal → Margin
margin_numbers (Ok z) = record { margin = z; refusal = 0 }
margin_numbers (Err r) = record { margin = pos 0; refusal = number_of r }
