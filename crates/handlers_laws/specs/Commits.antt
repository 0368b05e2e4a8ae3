-- Document 02, No. 7, "Look, then commit, for chaining", of the whole machine: the questions of a look and of a commit, what they answer and do, and what a chain is in
-- terms of them.
use Rattle.std.specs.Prelude.{ℕ, ◌+◌, ◌*◌, ◌<◌, ◌≡◌, Bool, true, cond, ◌&&◌, eqb}
use Rattle.event.specs.Kinds as kind
use Rattle.event.specs.Event.{kind_of, address_of, head_of}
use Rattle.pic.specs.Sources.{threshold_of, HasWinner}
use Rattle.pic.specs.Calls.{source_count}
use Rattle.handlers_questions.specs.Questions.{may_commit}
use Rattle.handlers_service.specs.Events.{has_handler, next_source}
use Rattle.handlers.specs.declared.Machine.{Machine}
use Rattle.handlers.specs.Outcome.{Outcome}
use Rattle.handlers.specs.Machines.{uppermost, sound_of}
use Rattle.handlers.specs.Service.{accepted, refused, look_at, captured}
use Rattle.handlers.specs.Calls.{chain_of, look_of, commit_of, step_of}

-- The number of the first no of 7, 17 and 19, and then of q; 0 where all are answered yes.
abbrev pub first_no : Machine → Bool → ℕ → ℕ
first_no m seven q = cond seven (cond (has_handler m.service) (cond (eqb m.service.mask 0) q 19) 17) 7

-- "Both come under questions 17 and 19": a sound machine refuses an event of kind 12 with the first no of 7, 17 and 19,
abbrev pub LookQuestions : Type 0
LookQuestions =
    (m : Machine) (head value : ℕ) → sound_of m ≡ true → kind_of head ≡ kind.look
    → (step_of m head value).refusal ≡ first_no m (eqb (address_of head) 0 && eqb value 0) 0

-- and one of kind 13 with the first no of 7, 17, 19 and 26.
abbrev pub CommitQuestions : Type 0
CommitQuestions =
    (m : Machine) (head value : ℕ) → sound_of m ≡ true → kind_of head ≡ kind.commit
    → (step_of m head value).refusal ≡ first_no m (eqb value 0) (cond (may_commit (address_of head) (next_source m.service (look_at m))) 0 26)

-- A look "changes nothing, with no capture": no event of kind 12 changes anything, on any machine, refused or not.
abbrev pub LooksAlone : Type 0
LooksAlone = (m : Machine) (head value : ℕ) → kind_of head ≡ kind.look → (step_of m head value).machine ≡ m

-- "It answers the source that a chain would serve, or 0." On a sound machine, where a look that is accepted answers 0, a chain serves nothing. Where it answers s, that is the
-- winner, its rank is the uppermost handler's and above the threshold; a chain answers base + 4 × s, and s is the source of the uppermost handler then.
pub record Tells (m : Machine) (s : ℕ) : Type 0 where
  pub none : s ≡ 0 → chain_of m ≡ accepted (captured m) 0
  pub winner : (s ≡ 0 → ⊥) → HasWinner m.controller (source_count m.controller) (record { source = s; rank = (uppermost m).rank })
  pub above : (s ≡ 0 → ⊥) → (threshold_of m.controller.scalars).0 < (uppermost m).rank.0
  pub answers : (s ≡ 0 → ⊥) → (chain_of m).answer ≡ m.controller.scalars.base + 4 * s
  pub replaces : (s ≡ 0 → ⊥) → (uppermost (chain_of m).machine).source ≡ s

abbrev pub LookTells : Type 0
LookTells = (m : Machine) → sound_of m ≡ true → (look_of m).refusal ≡ 0 → Tells m (look_of m).answer

-- A commit that is accepted "captures, replaces and answers as chain does": it is the chain, whole. Its answer is never 0.
pub record CommitChains (m : Machine) (s : ℕ) : Type 0 where
  pub as-chain : commit_of m s ≡ chain_of m
  pub answers : (commit_of m s).answer ≡ 0 → ⊥

abbrev pub CommitsChain : Type 0
CommitsChain = (m : Machine) (s : ℕ) → (commit_of m s).refusal ≡ 0 → CommitChains m s

-- An event of kind 13 that is accepted never answers 0.
abbrev pub CommitAnswers : Type 0
CommitAnswers = (m : Machine) (head value : ℕ) → kind_of head ≡ kind.commit → (step_of m head value).refusal ≡ 0 → (step_of m head value).answer ≡ 0 → ⊥

-- "A look and then a commit of a non-zero answer", as events with what the look was given: the look's refusal; where it answers 0, a capture and the answer 0; else what a
-- commit of its answer does and answers on the machine that the look handed back.
abbrev pub commit_after : Outcome → Outcome
commit_after looked =
    cond (eqb looked.refusal 0)
    (cond (eqb looked.answer 0) (accepted (captured looked.machine) 0) (step_of looked.machine (head_of kind.commit looked.answer) 0))
    (refused looked.machine looked.refusal)

-- "Kind 7 does what a look and then a commit of a non-zero answer do, apart from capturing when it answers 0": for every machine, sound or not, and every address and
-- value, also those that both refuse.
abbrev pub ChainIsLookThenCommit : Type 0
ChainIsLookThenCommit = (m : Machine) (a v : ℕ) → a < 65536 → step_of m (head_of kind.chain a) v ≡ commit_after (step_of m (head_of kind.look a) v)
