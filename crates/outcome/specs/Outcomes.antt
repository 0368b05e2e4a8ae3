-- Document 01: "Each event takes the machine and hands it back with the answer"; "A refused event or query answers 0 and the number."
use Rattle.std.specs.Prelude.{ℕ}
use Rattle.questions.specs.declared.Refusal.{Refusal}
use Rattle.questions.specs.Numbers.{number_of}
use Rattle.outcome.specs.declared.Outcome.{Outcome}
use Rattle.outcome.specs.declared.Answered.{Answered}

-- Accepted: a machine and an answer, with no refusal.
abbrev pub accepted_with : {M : Type 0} → M → ℕ → Outcome M
accepted_with m a = record { machine = m; answer = a; refusal = 0 }

-- Refused: it answers 0 and the number, and the machine is as it was.
abbrev pub refused_with : {M : Type 0} → M → ℕ → Outcome M
refused_with m q = record { machine = m; answer = 0; refusal = q }

-- The same by the refusal's name.
abbrev pub refused_for : {M : Type 0} → M → Refusal → Outcome M
refused_for m r = refused_with m (number_of r)

-- What an event of a part hands back, with the whole machine in the place of the part.
abbrev pub with_machine : {M N : Type 0} → Outcome M → N → Outcome N
with_machine o m = record { machine = m; answer = o.answer; refusal = o.refusal }

-- What an event answers, and what it is refused with.
abbrev pub answered_by : {M : Type 0} → Outcome M → Answered
answered_by o = record { answer = o.answer; refusal = o.refusal }
