-- Document 01, "The player": a bench that plays a long record lends one machine and has it changed.
use Rattle.std.specs.Prelude.{ℕ}
use Rattle.handlers.specs.declared.Machine.{Machine}
use Rattle.outcome.specs.declared.Answered.{Answered}
use Rattle.claims.specs.Play as play

-- What an event answers, and what it is refused with.
abbrev pub answered_of : Machine → ℕ → ℕ → Answered
answered_of = play.answered_of
