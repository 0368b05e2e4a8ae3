-- A list of events played: "the first event gets the machine that power-on handed back, each later one the machine that the event before it handed
-- back, refused or not".
use Rattle.std.specs.Prelude.{ℕ, List, [], ◌∷◌, take}
use Rattle.buffers.specs.Least.{least}
use Rattle.handlers.specs.declared.Machine.{Machine}
use Rattle.handlers.specs.Outcome.{Outcome}
use Rattle.handlers.specs.Machines.{power_on_of}
use Rattle.handlers.specs.Calls.{step_of}
use Rattle.outcome.specs.Outcomes.{answered_by}
use Rattle.claims.specs.declared.Played.{Played}
use Rattle.outcome.specs.declared.Answered.{Answered}

-- The machine after the events, heads beside values.
unfoldable pub end_of : Machine → List ℕ → List ℕ → Machine
end_of m [] values = m
end_of m (head ∷ heads) [] = m
end_of m (head ∷ heads) (value ∷ values) = end_of (step_of m head value).machine heads values

-- What is read off each outcome, in their order.
unfoldable pub each_of : (Outcome → ℕ) → Machine → List ℕ → List ℕ → List ℕ
each_of out m [] values = []
each_of out m (head ∷ heads) [] = []
each_of out m (head ∷ heads) (value ∷ values) = out (step_of m head value) ∷ each_of out (step_of m head value).machine heads values

-- What each event answers, and what it is refused with, 0 if it is accepted.
abbrev pub answers_of : Machine → List ℕ → List ℕ → List ℕ
answers_of = each_of (λ (o : Outcome). o.answer)

abbrev pub refusals_of : Machine → List ℕ → List ℕ → List ℕ
refusals_of = each_of (λ (o : Outcome). o.refusal)

-- As many events are played as heads, values, answers and refusals all have places.
abbrev pub events_played : ℕ → ℕ → ℕ → ℕ → ℕ
events_played heads values answers refusals = least (least heads values) (least answers refusals)

-- Power-on with N, and then k events: the end machine, k, and power-on's refusal.
abbrev pub played_of : ℕ → ℕ → List ℕ → List ℕ → Played
played_of n k heads values =
    record { machine = end_of (power_on_of n).machine (take k heads) (take k values); events = k; refusal = (power_on_of n).refusal }

-- What an event answers, and what it is refused with.
abbrev pub answered_of : Machine → ℕ → ℕ → Answered
answered_of m head value = answered_by (step_of m head value)
