-- Demand 3 of document 01 for this machine: the words of the claim that are the machine's own, and the claim itself.
use Rattle.std.specs.Prelude.{ℕ, ◌+◌, ◌*◌, ◌%◌, ◌^◌, ◌≤◌, ◌<◌, ◌≡◌, true, cond, ◌⊎◌, List, [], ◌∷◌, map, length, eqb}
use Rattle.event.specs.Kinds as kind
use Rattle.event.specs.Event.{kind_of}
use Rattle.pic.specs.declared.Controller.{Controller}
use Rattle.pic.specs.Sources.{rank_at, enable_at, pending_at, threshold_of}
use Rattle.pic.specs.Calls.{source_count, current_rank}
use Rattle.nesting.specs.Claim.{Class, is_taking, is_chaining, is_return, is_other}
use Rattle.nesting.specs.Claim as claim
use Rattle.nesting.specs.Trace as trace
use Rattle.nesting.specs.Held.{held}
use Rattle.handlers_stack.specs.declared.Handler.{Handler}
use Rattle.handlers.specs.declared.Machine.{Machine}
use Rattle.handlers.specs.Outcome.{Outcome}
use Rattle.handlers.specs.Machines.{sound_of, power_on_of}
use Rattle.handlers.specs.Calls.{step_of}
use Rattle.claims.specs.Play.{answers_of, refusals_of}

-- An event is a head and a value, 32 bits each: a number with more bits stands for its lowest 32.
pub record Event : Type 0 where
  pub head : ℕ
  pub value : ℕ

abbrev pub word : ℕ → ℕ
word n = n % 2 ^ 32

-- What an event answered, with its refusal.
pub record Answer : Type 0 where
  pub answer : ℕ
  pub refusal : ℕ

abbrev pub answer_of : Outcome → Answer
answer_of o = record { answer = o.answer; refusal = o.refusal }

-- A taking is an accepted take. A chaining is an accepted chain whose answer isn't 0, and "a commit counts as a chaining in the nesting result" (document 02, No. 7). A
-- return is an accepted one.
abbrev pub accepted_class : ℕ → ℕ → Class
accepted_class k answer =
    cond (eqb k kind.take) is_taking
    (cond (eqb k kind.chain) (cond (eqb answer 0) is_other is_chaining)
    (cond (eqb k kind.return) is_return
    (cond (eqb k kind.commit) is_chaining
    is_other)))

abbrev pub class_by : ℕ → Answer → Class
class_by k a = cond (eqb a.refusal 0) (accepted_class k a.answer) is_other

-- A handler as the claim sees it: the mark of Open is not seen.
abbrev pub seen : Handler → claim.Handler ℕ ℕ ℕ
seen h = record { source = h.source; rank = h.rank.0; saved = h.saved.0 }

-- The source was the one to serve: enabled, pending and above the threshold, and every other enabled pending source is of a lower rank, or of the same
-- rank and a higher number.
pub record Won (c : Controller) (s : ℕ) : Type 0 where
  pub least : 1 ≤ s
  pub most : s ≤ source_count c
  pub enabled : enable_at c s ≡ 1
  pub pending : pending_at c s ≡ true
  pub above : (threshold_of c.scalars).0 < (rank_at c s).0
  pub best : (t : ℕ) → 1 ≤ t → t ≤ source_count c → enable_at c t ≡ 1 → pending_at c t ≡ true → (t ≡ s → ⊥)
      → ((rank_at c t).0 < (rank_at c s).0) ⊎ (((rank_at c t).0 ≡ (rank_at c s).0) × (s < t))

-- The machine, for the theory of nested handlers: the source that an answer names is S for base + 4 × S, base as it was just before; its rank is the rank
-- of S just before; ranks are numbers from 1 to 15.
abbrev pub eh1 : claim.Machine
eh1 =
    record {
      State = Machine;
      Event = Event;
      Answer = Answer;
      Source = ℕ;
      Rank = ℕ;
      Level = ℕ;
      next = λ m e. (step_of m (word e.head) (word e.value)).machine;
      answer = λ m e. answer_of (step_of m (word e.head) (word e.value));
      class = λ e a. class_by (kind_of (word e.head)) a;
      stack = λ m. held seen m.service.stack m.service.depth;
      current = λ m. (current_rank m.controller).0;
      Sound = λ m. sound_of m ≡ true;
      Names = λ m a s. a.answer ≡ m.controller.scalars.base + 4 * s;
      rank_of = λ m s. (rank_at m.controller s).0;
      Won = λ m s. Won m.controller s;
      Below = λ a b. a < b;
      height = λ r. r;
      most = 15;
    }

-- The list as it was played from power-on with N: an entry for each event, with its class and its answer; and the machine that the last event handed back.
abbrev pub trace_of : ℕ → List Event → List (trace.Entry (claim.Step eh1))
trace_of n es = claim.trace eh1 (power_on_of n).machine es

abbrev pub last_of : ℕ → List Event → Machine
last_of n es = claim.end eh1 (power_on_of n).machine es

-- The claim about a list of events from power-on with N.
pub record NestedFrom (n : ℕ) (es : List Event) : Type 0 where
  -- "Demand 3 is a single claim about the whole list."
  pub nested : claim.Nested eh1 (power_on_of n).machine es
  -- "Its words": own returns, open handlers and chainings as the claim finds them in the list are what the sentences say.
  pub words : trace.ScansAreWords (trace_of n es)
  -- "Open, as a number, is how many handlers are on the stack": the depth, which the last line prints.
  pub open-handlers : (last_of n es).service.depth ≡ length (eh1.stack (last_of n es))

-- Demand 3: for every N, also one that power-on refuses, and every list of events; so it holds after every event of a list.
abbrev pub Demand3 : Type 0
Demand3 = (n : ℕ) (es : List Event) → NestedFrom n es

-- The events of two lists, heads beside values.
abbrev pub events_of : List ℕ → List ℕ → List Event
events_of [] values = []
events_of (head ∷ heads) [] = []
events_of (head ∷ heads) (value ∷ values) = record { head = head; value = value } ∷ events_of heads values

-- What is read off the answer of each entry of a trace, in their order: what it answered, and what it was refused with.
abbrev pub each_in : (Answer → ℕ) → List (trace.Entry (claim.Step eh1)) → List ℕ
each_in out l = map (λ (e : trace.Entry (claim.Step eh1)). out (trace.step_in e).answered) l

abbrev pub answers_in : List (trace.Entry (claim.Step eh1)) → List ℕ
answers_in = each_in (λ (a : Answer). a.answer)

abbrev pub refusals_in : List (trace.Entry (claim.Step eh1)) → List ℕ
refusals_in = each_in (λ (a : Answer). a.refusal)

-- The claim about a list that was played from power-on with N to a machine.
pub record Claimed (n : ℕ) (heads values : List ℕ) (m : Machine) : Type 0 where
  -- Demand 3 for this list.
  pub nesting : NestedFrom n (events_of heads values)
  -- "The first event gets the machine that power-on handed back, each later one the machine that the event before it handed back": the machine is the
  -- last of these, and the answers and refusals are those that the claim speaks of.
  pub ends : m ≡ last_of n (events_of heads values)
  pub answers : answers_of (power_on_of n).machine heads values ≡ answers_in (trace_of n (events_of heads values))
  pub refusals : refusals_of (power_on_of n).machine heads values ≡ refusals_in (trace_of n (events_of heads values))
