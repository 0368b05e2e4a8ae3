-- Demand 3 for any machine that nests handlers: what such a machine is, how a list of events is played, the one claim about the whole list, and the
-- few laws that a machine must meet. `Nesting` says that a machine has the claim for every list; it is proved from the laws alone.
use Rattle.std.specs.Prelude.{ℕ, ◌+◌, ◌≤◌, ◌<◌, ◌≡◌, List, [], ◌∷◌, ◌++◌, map, length}
use Rattle.nesting.specs.Lists.{All, Rising, Match}
use Rattle.nesting.specs.Trace.{Entry, taking, chaining, returning, other, Place, Has, takings, returns, OwnReturn, opens, served}

-- What an event was. "A taking is an accepted take. A chaining is an accepted chain whose answer isn't 0", or an accepted commit (document 02, No. 7). A return here is an
-- accepted one. All else is other: refused events, chains that answer 0, other kinds, heads of no kind. Which is which the machine says (`class`).
pub data Class : Type 0 where
  is_taking is_chaining is_return is_other : Class

-- A handler on the stack: its source, its rank, and the current rank that its return puts back.
pub record Handler (Source Rank Level : Type 0) : Type 0 where
  pub source : Source
  pub rank : Rank
  pub saved : Level

-- A machine that nests handlers. An answer holds the refusal too. A level is what the current rank is: what a return restores.
pub record Machine : Type 1 where
  pub State : Type 0
  pub Event : Type 0
  pub Answer : Type 0
  pub Source : Type 0
  pub Rank : Type 0
  pub Level : Type 0
  -- the machine that an event hands back and its answer, refused or not
  pub next : State → Event → State
  pub answer : State → Event → Answer
  -- the class of an event, by the event and its answer alone
  pub class : Event → Answer → Class
  -- the handlers from the lowest up, the current rank, and which machines are sound
  pub stack : State → List (Handler Source Rank Level)
  pub current : State → Level
  pub Sound : State → Type 0
  -- the answer names the source, for the machine just before the event; the rank of a source; the source is the one to serve
  pub Names : State → Answer → Source → Type 0
  pub rank_of : State → Source → Rank
  pub Won : State → Source → Type 0
  -- the strict order of ranks, and the height of each, from 1 to `most`
  pub Below : Rank → Rank → Type 0
  pub height : Rank → ℕ
  pub most : ℕ

module _ (P : Machine) where
  open P use {State, Event, Answer, Source, Rank, Level, next, answer, class, stack, current, Sound, Names, rank_of, Won, Below, height, most}

  abbrev pub HandlerOf : Type 0
  HandlerOf = Handler Source Rank Level

  -- One event as it was played: the machine just before it, its answer, and the machine handed back.
  pub record Step : Type 0 where
    pub before : State
    pub event : Event
    pub answered : Answer
    pub after : State

  -- The step as an entry of its class.
  abbrev pub classed : Class → Step → Entry Step
  classed is_taking x = taking x
  classed is_chaining x = chaining x
  classed is_return x = returning x
  classed is_other x = other x

  abbrev pub step_from : State → Event → Step
  step_from m e = record { before = m; event = e; answered = answer m e; after = next m e }

  abbrev pub play : State → Event → Entry Step
  play m e = classed (class e (answer m e)) (step_from m e)

  -- "The first event gets the machine that power-on handed back, each later one the machine that the event before it handed back, refused or not."
  abbrev pub trace : State → List Event → List (Entry Step)
  trace m [] = []
  trace m (e ∷ es) = play m e ∷ trace (next m e) es

  -- The machine that the last event handed back.
  abbrev pub end : State → List Event → State
  end m [] = m
  end m (e ∷ es) = end (next m e) es

  -- The handler has the source that the answer names and that source's rank, both just before the event.
  pub record Serves (m : State) (a : Answer) (h : HandlerOf) : Type 0 where
    pub names : Names m a h.source
    pub ranked : h.rank ≡ rank_of m h.source

  -- The handler on the stack is that of the taking `t`: as its taking, or its latest chaining if it has one, served it, and with the current rank
  -- that its taking found.
  pub record Stands (h : HandlerOf) (t : Place Step) : Type 0 where
    pub serves : Serves (served t).before (served t).answered h
    pub saved : h.saved ≡ current t.at.before

  -- The handler's source was the one to serve just before its taking, or its latest chaining if it has one.
  abbrev pub WonThen : HandlerOf → Place Step → Type 0
  WonThen h t = Won (served t).before h.source

  abbrev pub InRange : Rank → Type 0
  InRange r = (1 ≤ height r) × (height r ≤ most)

  abbrev pub ranks : State → List Rank
  ranks m = map (λ (h : HandlerOf). h.rank) (stack m)

  -- The claim about a whole list of events from the machine `m`, a field for each sentence of demand 3.
  pub record Nested (m : State) (es : List Event) : Type 0 where
    -- The stack is the handlers taken and not yet returned, in the order taken, each with its source and its rank. "A handler's source is the number
    -- S for which its taking, or its latest chaining if it has one, answered base + 4 × S, base as it was just before that event. Its rank is the
    -- rank of S just before that event."
    pub stands : Match Stands (stack (end m es)) (opens (trace m es))
    -- The source of each was the one to serve just then, by what "these rules give for the events so far".
    pub won : Match WonThen (stack (end m es)) (opens (trace m es))
    -- There are as many takings as accepted returns and open handlers together. "Open, as a number, is how many handlers are on the stack."
    pub balanced : takings (trace m es) ≡ returns (trace m es) + length (stack (end m es))
    -- Of every two handlers on the stack, the later has the strictly higher rank.
    pub order : Rising Below (ranks (end m es))
    -- Each rank on the stack is in range.
    pub in_range : All InRange (ranks (end m es))
    -- At most as many handlers are open as there are ranks.
    pub few : length (stack (end m es)) ≤ most
    -- Each own return restored the current rank that its taking found.
    pub restored : (t r : Place Step) → Has taking (trace m es) t → OwnReturn t r → current r.at.after ≡ current t.at.before

  -- A taking, from the machine `m` by the answer `a` to the machine `n`: a handler is pushed. It has the current rank as saved, and its rank is above
  -- that of the uppermost, if there is one.
  pub record Pushed (m : State) (a : Answer) (n : State) : Type 0 where
    pub new : HandlerOf
    pub pushed : stack n ≡ stack m ++ (new ∷ [])
    pub serves : Serves m a new
    pub won : Won m new.source
    pub saved : new.saved ≡ current m
    pub above : (rest : List HandlerOf) (top : HandlerOf) → stack m ≡ rest ++ (top ∷ []) → Below top.rank new.rank
    pub in_range : InRange new.rank

  -- A chaining: another handler of the same rank, with the same rank saved, replaces the uppermost.
  pub record Swapped (m : State) (a : Answer) (n : State) : Type 0 where
    pub rest : List HandlerOf
    pub old : HandlerOf
    pub new : HandlerOf
    pub was : stack m ≡ rest ++ (old ∷ [])
    pub is : stack n ≡ rest ++ (new ∷ [])
    pub serves : Serves m a new
    pub won : Won m new.source
    pub same_rank : new.rank ≡ old.rank
    pub same-saved : new.saved ≡ old.saved

  -- A return: the uppermost is popped, and its saved rank becomes the current one.
  pub record Popped (m : State) (n : State) : Type 0 where
    pub old : HandlerOf
    pub was : stack m ≡ stack n ++ (old ∷ [])
    pub restored : current n ≡ old.saved

  -- What an event of each class does: it pushes, replaces the uppermost, pops, or leaves the stack untouched.
  abbrev pub Does : Class → State → Answer → State → Type 0
  Does is_taking m a n = Pushed m a n
  Does is_chaining m a n = Swapped m a n
  Does is_return m a n = Popped m n
  Does is_other m a n = stack n ≡ stack m

  -- The laws that a machine must meet.
  pub record Laws : Type 0 where
    -- soundness is kept
    pub stays-sound : (m : State) (e : Event) → Sound m → Sound (next m e)
    -- an event of each class does what that class says
    pub does : (m : State) (e : Event) → Sound m → Does (class e (answer m e)) m (answer m e) (next m e)
    -- ranks are ordered, and in range strictly
    pub below-trans : (a b c : Rank) → Below a b → Below b c → Below a c
    pub below-height : (a b : Rank) → InRange a → InRange b → Below a b → height a < height b

  -- The claim, for every list of events from every sound machine with no handler open.
  abbrev pub Nesting : Type 0
  Nesting = (m : State) → Sound m → stack m ≡ [] → (es : List Event) → Nested m es

-- The theorem: a machine that meets the laws has the claim.
abbrev pub NestingFromLaws : Type 1
NestingFromLaws = (P : Machine) → Laws P → Nesting P
