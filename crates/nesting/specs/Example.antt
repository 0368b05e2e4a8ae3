-- A small machine with two ranks, written to show that the laws can be met and that the claim is not empty: it is played on a list with two nested
-- takings, a chaining of each, and both returns.
use Rattle.std.specs.Prelude.{ℕ, zero, suc, ◌+◌, ◌-◌, ◌*◌, ◌≤◌, ◌<◌, ◌≡◌, Bool, true, false, cond, ◌&&◌, List, [], ◌∷◌, ◌++◌, map, eqb, ltb, length, get_or, set, replicate}
use Rattle.std.proofs.Math.Option.{Option, none, some}
use Rattle.nesting.specs.Trace.{Entry, taking, chaining, returning, other, Place, takings, returns, own_return, opens, served}
use Rattle.nesting.specs.Claim.{Class, is_taking, is_chaining, is_return, is_other, Handler, Machine, Step, trace, end, Laws, Nested}
use Rattle.nesting.specs.Held.{held}

-- A place of the array that holds the stack.
pub record Slot : Type 0 where
  pub source : ℕ
  pub rank : ℕ
  pub saved : ℕ
  pub opened : Bool

-- One source asks to be served, 0 for none. A source is of rank 2 if it is high, else of rank 1.
pub record Small : Type 0 where
  pub asking : ℕ
  pub high : ℕ → Bool
  pub current : ℕ
  pub depth : ℕ
  pub slots : List Slot

-- What it can be asked: a source asks, the sources that are high are set, take, mark the uppermost as opened, chain, return.
pub data Call : Type 0 where
  ask : ℕ → Call
  rate : (ℕ → Bool) → Call
  take mark chain return : Call

-- An answer, and whether the call was refused.
pub record Reply : Type 0 where
  pub number : ℕ
  pub refused : Bool

pub record Out : Type 0 where
  pub machine : Small
  pub reply : Reply

abbrev pub accept : Small → ℕ → Out
accept m n = record { machine = m; reply = record { number = n; refused = false } }

abbrev pub refuse : Small → Out
refuse m = record { machine = m; reply = record { number = 0; refused = true } }

abbrev pub rank_at : Small → ℕ → ℕ
rank_at m s = cond (m.high s) 2 1

abbrev pub blank : Slot
blank = record { source = 0; rank = 0; saved = 0; opened = false }

abbrev pub uppermost : Small → Slot
uppermost m = get_or m.slots (m.depth - 1) blank

-- The machine with another current rank and stack.
abbrev pub stacked : Small → ℕ → ℕ → List Slot → Small
stacked m c d l = record { asking = m.asking; high = m.high; current = c; depth = d; slots = l }

-- Take: the source that asks is of a rank above the current one. It is pushed, and its rank is the current one.
abbrev pub may_take : Small → Bool
may_take m = ltb 0 m.asking && ltb m.current (rank_at m m.asking)

abbrev pub new_slot : Small → Slot
new_slot m = record { source = m.asking; rank = rank_at m m.asking; saved = m.current; opened = false }

abbrev pub take_out : Small → Bool → Out
take_out m true = accept (stacked m (rank_at m m.asking) (m.depth + 1) (set m.slots m.depth (new_slot m))) (4 * m.asking)
take_out m false = refuse m

-- Mark: the uppermost becomes opened.
abbrev pub opened_slot : Slot → Slot
opened_slot h = record { source = h.source; rank = h.rank; saved = h.saved; opened = true }

abbrev pub mark_out : Small → Bool → Out
mark_out m true = accept (stacked m m.current m.depth (set m.slots (m.depth - 1) (opened_slot (uppermost m)))) 0
mark_out m false = refuse m

-- Chain: the source that asks is of the uppermost's rank, and replaces its source. Else the answer is 0.
abbrev pub may_chain : Small → Bool
may_chain m = ltb 0 m.depth && (ltb 0 m.asking && eqb (rank_at m m.asking) (uppermost m).rank)

abbrev pub chained_slot : Small → Slot → Slot
chained_slot m h = record { source = m.asking; rank = h.rank; saved = h.saved; opened = h.opened }

abbrev pub chain_out : Small → Bool → Out
chain_out m true = accept (stacked m m.current m.depth (set m.slots (m.depth - 1) (chained_slot m (uppermost m)))) (4 * m.asking)
chain_out m false = accept m 0

-- Return: the uppermost is popped, and its saved rank is the current one.
abbrev pub return_out : Small → Bool → Out
return_out m true = accept (stacked m (uppermost m).saved (m.depth - 1) m.slots) (m.depth - 1)
return_out m false = refuse m

-- What each call does.
abbrev pub act : Call → Small → Out
act (ask s) m = accept (record { asking = s; high = m.high; current = m.current; depth = m.depth; slots = m.slots }) 0
act (rate h) m = accept (record { asking = m.asking; high = h; current = m.current; depth = m.depth; slots = m.slots }) 0
act take m = take_out m (may_take m)
act mark m = mark_out m (ltb 0 m.depth)
act chain m = chain_out m (may_chain m)
act return m = return_out m (ltb 0 m.depth)

-- The class of a call by its answer: a chain that answers 0 is no chaining.
abbrev pub class_of : Call → Reply → Class
class_of (ask s) a = is_other
class_of (rate h) a = is_other
class_of take a = cond a.refused is_other is_taking
class_of mark a = is_other
class_of chain a = cond (eqb a.number 0) is_other is_chaining
class_of return a = cond a.refused is_other is_return

-- The handler that a place holds: the mark is not seen.
abbrev pub handler_in : Slot → Handler ℕ ℕ ℕ
handler_in h = record { source = h.source; rank = h.rank; saved = h.saved }

-- The current rank is the uppermost's, whose saved rank is lower and was the current one below it, and so on down.
abbrev pub Nests : List Slot → ℕ → ℕ → Type 0
Nests l c zero = Unit {0}
Nests l c (suc d) =
    (c ≡ (get_or l d blank).rank) × ((get_or l d blank).saved < (get_or l d blank).rank) × ((get_or l d blank).rank ≤ 2) × Nests l (get_or l d blank).saved d

pub record SoundSmall (m : Small) : Type 0 where
  pub places : length m.slots ≡ 2
  pub nests : Nests m.slots m.current m.depth

-- The source is the one that asks.
pub record Asked (m : Small) (s : ℕ) : Type 0 where
  pub asks : s ≡ m.asking
  pub some-source : 0 < s

abbrev pub small : Machine
small =
    record {
      State = Small;
      Event = Call;
      Answer = Reply;
      Source = ℕ;
      Rank = ℕ;
      Level = ℕ;
      next = λ m e. (act e m).machine;
      answer = λ m e. (act e m).reply;
      class = class_of;
      stack = λ m. held handler_in m.slots m.depth;
      current = λ m. m.current;
      Sound = SoundSmall;
      Names = λ m a s. a.number ≡ 4 * s;
      rank_of = rank_at;
      Won = Asked;
      Below = λ a b. a < b;
      height = λ r. r;
      most = 2;
    }

abbrev pub power : Small
power = record { asking = 0; high = λ s. false; current = 0; depth = 0; slots = replicate 2 blank }

-- Sources from 3 on are high. 1 is taken; a chain for 3 answers 0; 3 is taken, nested in it, and marked; 4 is chained.
abbrev pub two_open : List Call
two_open = rate (λ s. ltb 2 s) ∷ ask 1 ∷ take ∷ ask 3 ∷ chain ∷ take ∷ mark ∷ ask 4 ∷ chain ∷ []

-- The inner handler returns, and 2 is chained to the outer one.
abbrev pub one_open : List Call
one_open = two_open ++ (return ∷ ask 2 ∷ chain ∷ [])

-- The outer handler returns, and a return with no handler is refused.
abbrev pub none_open : List Call
none_open = one_open ++ (return ∷ return ∷ [])

abbrev pub class_in : Entry (Step small) → Class
class_in (taking x) = is_taking
class_in (chaining x) = is_chaining
class_in (returning x) = is_return
class_in (other x) = is_other

-- All takings of a list, each at its place.
abbrev pub taking_places : List (Entry (Step small)) → List (Place (Step small))
taking_places [] = []
taking_places (taking x ∷ l) = record { at = x; after = l } ∷ taking_places l
taking_places (chaining x ∷ l) = taking_places l
taking_places (returning x ∷ l) = taking_places l
taking_places (other x ∷ l) = taking_places l

-- The current rank just after a return, if there is one.
abbrev pub current_after : Option (Place (Step small)) → Option ℕ
current_after none = none
current_after (some r) = some r.at.after.current

abbrev pub handler : ℕ → ℕ → ℕ → Handler ℕ ℕ ℕ
handler s r v = record { source = s; rank = r; saved = v }

-- The answers that the open handlers' sources are read from.
abbrev pub served_answers : List Call → List ℕ
served_answers es = map (λ (t : Place (Step small)). (served t).answered.number) (opens (trace small power es))

-- What the words of the claim are on these lists.
pub record Computed : Type 0 where
  pub classes : map class_in (trace small power none_open) ≡
      is_other ∷ is_other ∷ is_taking ∷ is_other ∷ is_other ∷ is_taking ∷ is_other ∷ is_other ∷ is_chaining ∷ is_return ∷ is_other ∷ is_chaining
      ∷ is_return ∷ is_other ∷ []
  pub two-stack : held handler_in (end small power two_open).slots (end small power two_open).depth ≡ handler 1 1 0 ∷ handler 4 2 1 ∷ []
  pub two-answers : served_answers two_open ≡ 4 ∷ 16 ∷ []
  pub one-stack : held handler_in (end small power one_open).slots (end small power one_open).depth ≡ handler 2 1 0 ∷ []
  pub one-answers : served_answers one_open ≡ 8 ∷ []
  pub all-takings : takings (trace small power none_open) ≡ 2
  pub all-returns : returns (trace small power none_open) ≡ 2
  pub none_left : (end small power none_open).depth ≡ 0
  pub found : map (λ (t : Place (Step small)). t.at.before.current) (taking_places (trace small power none_open)) ≡ 0 ∷ 1 ∷ []
  pub restored : map (λ (t : Place (Step small)). current_after (own_return t)) (taking_places (trace small power none_open)) ≡ some 0 ∷ some 1 ∷ []

-- The small machine meets the laws, has the claim for every list, and the claim's words compute on the lists above.
pub record Shown : Type 0 where
  pub laws : Laws small
  pub claim : (es : List Call) → Nested small power es
  pub computed : Computed
