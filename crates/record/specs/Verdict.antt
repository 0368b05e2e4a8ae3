-- Document 01, "Questions, first no decides": what the questions decide.
use Rattle.std.specs.Prelude.{ℕ}

-- The number of the question that was answered no, and the place; 0 and 0 where none was.
pub record Verdict : Type 0 where
  pub refusal : ℕ
  pub place : ℕ
