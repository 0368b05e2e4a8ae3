-- A machine that meets the laws has demand 3's claim for every list of events.
use Prim.Native.Nat.{ℕ, suc, ◌+◌}
use mathlib.Core.Path.{◌≡◌, refl, sym, ap, ◌∙◌}
use mathlib.Core.Logic.{inl, inr}
use mathlib.Core.List.{List, [], ◌∷◌, ◌++◌, map, drop_last, append_assoc, append-nil, nil≢cons, head-eq_of_cons-eq, tail-eq_of_cons-eq}
use native.Mathlib.Omega.{arith}
use lib.ListN.{length, length-map}
use lib.Seq.{append_snoc}
use Rattle.nesting.specs.Lists.{All, Rising, Match}
use Rattle.nesting.specs.Trace.{Entry, taking, chaining, returning, other, Place, Has, takings, returns, OwnReturn, opens, served}
use Rattle.nesting.specs.Trace.{ScansAreWords}
use Rattle.nesting.specs.Claim.{Class, is_taking, is_chaining, is_return, is_other, Machine, HandlerOf, Step, classed, step_from, play, trace, end}
use Rattle.nesting.specs.Claim.{Serves, Stands, WonThen, InRange, ranks, Nested, Pushed, Swapped, Popped, Does, Laws, Nesting, NestingFromLaws}
use Rattle.nesting.proofs.Lists.{map_snoc, length-snoc, Ended, ended, all_snoc, all_drop, rising_snoc, rising-drop, above-all}
use Rattle.nesting.proofs.Lists.{match-nil, match-map, match-snoc, match-drop, match-last, match-weaken, rising-length}
use Rattle.nesting.proofs.OwnReturns.{extend, takings-append, returns-append, none_between, own-even}
use Rattle.nesting.proofs.Opens.{opens-neutral, opens-taking, opens-returning, last-before-return, Nest, nest}
use Rattle.nesting.proofs.Chainings.{served-extend, served-last, served-below}
use Rattle.nesting.proofs.TraceLaws.{scans-are-words}

module _ (P : Machine) where
  open P use {State, Event, next, answer, class}

  -- A list played in two parts.
  pub trace-append : (m : State) (es fs : List Event) → trace P m (es ++ fs) ≡ trace P m es ++ trace P (end P m es) fs
  trace-append m [] fs = refl
  trace-append m (e ∷ es) fs = ap (play P m e ∷◌) (trace-append (next m e) es fs)

  pub end-append : (m : State) (es fs : List Event) → end P m (es ++ fs) ≡ end P (end P m es) fs
  end-append m [] fs = refl
  end-append m (e ∷ es) fs = end-append (next m e) es fs

  -- A step of a trace was played by the machine that the events before it left.
  pub record PlayedAt (m : State) (p : List (Entry (Step P))) (i : Entry (Step P)) : Type 0 where
    pub events : List Event
    pub event : Event
    pub past : trace P m events ≡ p
    pub here : play P (end P m events) event ≡ i

  pub played-at : (m : State) (es : List Event) (p : List (Entry (Step P))) (i : Entry (Step P)) (q : List (Entry (Step P)))
      → trace P m es ≡ p ++ i ∷ q → PlayedAt m p i
  played-at m [] [] i q h = absurd (nil≢cons h)
  played-at m [] (j ∷ p) i q h = absurd (nil≢cons h)
  played-at m (e ∷ es) [] i q h = record { events = []; event = e; past = refl; here = head-eq_of_cons-eq h }
  played-at m (e ∷ es) (j ∷ p) i q h = go (played-at (next m e) es p i q (tail-eq_of_cons-eq h))
    where
      go : PlayedAt (next m e) p i → PlayedAt m (j ∷ p) i
      go c =
          record {
            events = e ∷ c.events;
            event = c.event;
            past = ap (play P m e ∷◌) c.past ∙ ap (◌∷ p) (head-eq_of_cons-eq h);
            here = c.here;
          }

  was-return : (c : Class) (x r : Step P) → classed P c x ≡ returning r → (c ≡ is_return) × (x ≡ r)
  was-return is_taking x r h = absurd (let z : ◌≡◌ {A = ℕ} 0 1 = cc in omega arith)
  was-return is_chaining x r h = absurd (let z : ◌≡◌ {A = ℕ} 0 1 = cc in omega arith)
  was-return is_return x r h = (refl, cc)
  was-return is_other x r h = absurd (let z : ◌≡◌ {A = ℕ} 0 1 = cc in omega arith)

  -- The scans of a list's trace are document 01's sentences.
  pub trace-words : (m : State) (es : List Event) → ScansAreWords (trace P m es)
  trace-words m es = scans-are-words (trace P m es)

module _ (P : Machine) (L : Laws P) where
  open P use {State, Event, Rank, next, answer, class, stack, current, Below, height, most}

  abbrev rank_in : HandlerOf P → Rank
  rank_in h = h.rank

  -- A handler on the stack, that of the taking `t`, whose source was the one to serve.
  record StandsWon (h : HandlerOf P) (t : Place (Step P)) : Type 0 where
    stands : Stands P h t
    won : WonThen P h t

  -- The same after one more entry by which it was not served.
  extended : (i : Entry (Step P)) (h : HandlerOf P) (t : Place (Step P)) → served (extend (i ∷ []) t) ≡ served t → StandsWon h t
      → StandsWon h (extend (i ∷ []) t)
  extended i h t e s =
      record { stands = record { serves = rw e s.stands.serves; saved = s.stands.saved }; won = rw (WonThen, e) s.won }

  -- A chaining serves the last of the handlers, and no other.
  chained : (x : Step P) (s : List (HandlerOf P)) (g h : HandlerOf P) (ts : List (Place (Step P))) → Nest ts → Match StandsWon (s ++ (g ∷ [])) ts
      → Serves P x.before x.answered h → P.Won x.before h.source → h.saved ≡ g.saved
      → Match StandsWon (s ++ (h ∷ [])) (map (extend (chaining x ∷ [])) ts)
  chained x [] g h [] n m k w e = m
  chained x [] g h (t ∷ []) n m k w e = (
    record {
      stands = record { serves = rw (served-last x t n) k; saved = e ∙ m.0.stands.saved };
      won = rw (WonThen, served-last x t n) w;
    },
    tt,
  )
  chained x [] g h (t ∷ u ∷ ts) n m k w e = absurd m.1
  chained x (y ∷ s) g h [] n m k w e = m
  chained x (y ∷ s) g h (t ∷ []) n m k w e = absurd (match-nil StandsWon s g m.1)
  chained x (y ∷ s) g h (t ∷ u ∷ ts) n m k w e =
      (extended (chaining x) y t (served-below x t u ts n) m.0, chained x s g h (u ∷ ts) n.2 m.1 k w e)

  -- A rank above that of the uppermost handler is above them all.
  below_new : (r : Rank) (l : List (HandlerOf P)) → ((s : List (HandlerOf P)) (g : HandlerOf P) → l ≡ s ++ (g ∷ []) → Below g.rank r)
      → Rising Below (map rank_in l) → All (λ a. Below a r) (map rank_in l)
  below_new r l k h = go (ended l)
    where
      go : Ended l → All (λ a. Below a r) (map rank_in l)
      go (inl e) = rw e tt
      go (inr w) =
          let e : map rank_in l ≡ map rank_in w.0 ++ (w.1.rank ∷ []) =
          ap (map rank_in) w.2 ∙ map_snoc rank_in w.0 w.1 in
          rw e (above-all Below L.below-trans (map rank_in w.0) w.1.rank r (rw e at h) (k w.0 w.1 w.2))

  -- What holds of the entries so far and the machine that they left.
  record Inv (tr : List (Entry (Step P))) (m : State) : Type 0 where
    sound : P.Sound m
    standing : Match StandsWon (stack m) (opens tr)
    balanced : takings tr ≡ returns tr + length (stack m)
    order : Rising Below (ranks P m)
    in_range : All (InRange P) (ranks P m)

  taken : (tr : List (Entry (Step P))) (m : State) (e : Event) → Inv tr m → Pushed P m (answer m e) (next m e)
      → Inv (tr ++ (taking (step_from P m e) ∷ [])) (next m e)
  taken tr m e i w =
      let x = step_from P m e in
      record {
        sound = L.stays-sound m e i.sound;
        standing =
            rw (w.pushed, opens-taking x tr)
            (match-snoc StandsWon (stack m) (map (extend (taking x ∷ [])) (opens tr)) w.new (record { at = x; after = [] })
            (match-map StandsWon (extend (taking x ∷ [])) (λ h t. extended (taking x) h t (served-extend (taking x) t)) (stack m) (opens tr) i.standing)
            (record { stands = record { serves = w.serves; saved = w.saved }; won = w.won }));
        balanced =
            rw (w.pushed, takings-append tr (taking x ∷ []), returns-append tr (taking x ∷ []), length-snoc (stack m) w.new)
            (omega (arith, i.balanced));
        order =
            rw (w.pushed, map_snoc rank_in (stack m) w.new)
            (rising_snoc Below (ranks P m) w.new.rank i.order (below_new w.new.rank (stack m) w.above i.order));
        in_range =
            rw (w.pushed, map_snoc rank_in (stack m) w.new)
            (all_snoc (InRange P) (ranks P m) w.new.rank i.in_range w.in_range);
      }

  swapped : (tr : List (Entry (Step P))) (m : State) (e : Event) → Inv tr m → Swapped P m (answer m e) (next m e)
      → Inv (tr ++ (chaining (step_from P m e) ∷ [])) (next m e)
  swapped tr m e i w =
      let x = step_from P m e in
      let r : ranks P (next m e) ≡ ranks P m =
      ap (map rank_in) w.is ∙ map_snoc rank_in w.rest w.new
      ∙ ap (λ k. map rank_in w.rest ++ (k ∷ [])) w.same_rank
      ∙ sym (map_snoc rank_in w.rest w.old) ∙ ap (map rank_in) (sym w.was) in
      record {
        sound = L.stays-sound m e i.sound;
        standing =
            rw (w.is, opens-neutral (chaining x) tt tr)
            (chained x w.rest w.old w.new (opens tr) (nest tr) (rw w.was at i.standing) w.serves w.won w.same-saved);
        balanced =
            let k : length (stack (next m e)) ≡ length (stack m) =
            ap length w.is ∙ length-snoc w.rest w.new ∙ sym (length-snoc w.rest w.old) ∙ ap length (sym w.was) in
            rw (takings-append tr (chaining x ∷ []), returns-append tr (chaining x ∷ [])) (omega (arith, i.balanced));
        order = rw r i.order;
        in_range = rw r i.in_range;
      }

  popped : (tr : List (Entry (Step P))) (m : State) (e : Event) → Inv tr m → Popped P m (next m e)
      → Inv (tr ++ (returning (step_from P m e) ∷ [])) (next m e)
  popped tr m e i w =
      let x = step_from P m e in
      let r : ranks P m ≡ ranks P (next m e) ++ (w.old.rank ∷ []) =
      ap (map rank_in) w.was ∙ map_snoc rank_in (stack (next m e)) w.old in
      record {
        sound = L.stays-sound m e i.sound;
        standing =
            rw (opens-returning x tr)
            (match-map StandsWon (extend (returning x ∷ [])) (λ h t. extended (returning x) h t (served-extend (returning x) t)) (stack (next m e))
            (drop_last (opens tr)) (match-drop StandsWon (stack (next m e)) w.old (opens tr) (rw w.was at i.standing)));
        balanced =
            let k : length (stack m) ≡ suc (length (stack (next m e))) = ap length w.was ∙ length-snoc (stack (next m e)) w.old in
            rw (takings-append tr (returning x ∷ []), returns-append tr (returning x ∷ [])) (omega (arith, i.balanced));
        order = rising-drop Below (ranks P (next m e)) w.old.rank (rw r at i.order);
        in_range = all_drop (InRange P) (ranks P (next m e)) w.old.rank (rw r at i.in_range);
      }

  untouched : (tr : List (Entry (Step P))) (m : State) (e : Event) → Inv tr m → stack (next m e) ≡ stack m
      → Inv (tr ++ (other (step_from P m e) ∷ [])) (next m e)
  untouched tr m e i w =
      let x = step_from P m e in
      record {
        sound = L.stays-sound m e i.sound;
        standing =
            rw (w, opens-neutral (other x) tt tr)
            (match-map StandsWon (extend (other x ∷ [])) (λ h t. extended (other x) h t (served-extend (other x) t)) (stack m) (opens tr) i.standing);
        balanced = rw (w, takings-append tr (other x ∷ []), returns-append tr (other x ∷ [])) (omega (arith, i.balanced));
        order = rw w i.order;
        in_range = rw w i.in_range;
      }

  step-inv : (tr : List (Entry (Step P))) (m : State) (e : Event) → Inv tr m → Inv (tr ++ (play P m e ∷ [])) (next m e)
  step-inv tr m e i = go (class e (answer m e)) (L.does m e i.sound)
    where
      go : (c : Class) → Does P c m (answer m e) (next m e) → Inv (tr ++ (classed P c (step_from P m e) ∷ [])) (next m e)
      go is_taking w = taken tr m e i w
      go is_chaining w = swapped tr m e i w
      go is_return w = popped tr m e i w
      go is_other w = untouched tr m e i w

  -- The entries so far and the machine that they left, and then a list of events.
  runs : (tr : List (Entry (Step P))) (m : State) → Inv tr m → (es : List Event) → Inv (tr ++ trace P m es) (end P m es)
  runs tr m i [] = rw append-nil i
  runs tr m i (e ∷ es) =
      rw (← append_snoc tr (play P m e) (trace P (next m e) es)) (runs (tr ++ (play P m e ∷ [])) (next m e) (step-inv tr m e i) es)

  -- A return with the taking `t` the last one open restores the current rank that `t` found.
  puts_back : (p : List (Entry (Step P))) (n : State) (e : Event) (hs : List (Place (Step P))) (t : Place (Step P)) (r : Step P)
      → Inv p n → opens p ≡ hs ++ (t ∷ []) → play P n e ≡ returning r → current r.after ≡ current t.at.before
  puts_back p n e hs t r j o h =
      let w = was-return P (class e (answer n e)) (step_from P n e) r h in
      let u : Popped P n (next n e) = rw w.0 at (L.does n e j.sound) in
      let k = match-last StandsWon (stack (next n e)) u.old hs t (rw (u.was, o) at j.standing) in
      rw (← w.1) (u.restored ∙ k.stands.saved)

  restores : (m : State) → Inv [] m → (es : List Event) (t r : Place (Step P)) → Has taking (trace P m es) t → OwnReturn t r
      → current r.at.after ≡ current t.at.before
  restores m i es t r h o =
      at_return (played-at P m es (h.0 ++ taking t.at ∷ o.between) (returning r.at) r.after
      (h.1 ∙ ap (λ k. h.0 ++ taking t.at ∷ k) o.later
      ∙ sym (append_assoc h.0 (taking t.at ∷ o.between) (returning r.at ∷ r.after))))
    where
      at_return : PlayedAt P m (h.0 ++ taking t.at ∷ o.between) (returning r.at) → current r.at.after ≡ current t.at.before
      at_return c =
          let l = last-before-return h.0 o.between t.at (none_between t r o) (own-even t r o) in
          puts_back (h.0 ++ taking t.at ∷ o.between) (end P m c.events) c.event l.0 (record { at = t.at; after = o.between }) r.at
          (rw c.past at (runs [] m i c.events)) l.1 c.here

  pub has-claim : Nesting P
  has-claim m s e es =
      let i : Inv [] m = record { sound = s; standing = rw e tt; balanced = rw e refl; order = rw e tt; in_range = rw e tt } in
      let j = runs [] m i es in
      record {
        stands = match-weaken StandsWon (Stands P) (λ h t g. g.stands) (stack (end P m es)) (opens (trace P m es)) j.standing;
        won = match-weaken StandsWon (WonThen P) (λ h t g. g.won) (stack (end P m es)) (opens (trace P m es)) j.standing;
        balanced = j.balanced;
        order = j.order;
        in_range = j.in_range;
        few =
            let n = length-map (stack (end P m es)) rank_in in
            omega (arith, rising-length Below height most L.below-height (ranks P (end P m es)) 1 (omega arith) j.order j.in_range);
        restored = restores m i es;
      }

  -- The machine is sound after every list.
  pub end-sound : (m : State) → P.Sound m → (es : List Event) → P.Sound (end P m es)
  end-sound m s [] = s
  end-sound m s (e ∷ es) = end-sound (next m e) (L.stays-sound m e s) es

pub nesting : NestingFromLaws
nesting P L = has-claim P L

-- The claim holds at every point of a list: of each part with which it begins.
pub nested-so-far : (P : Machine) → Laws P → (m : P.State) → P.Sound m → P.stack m ≡ [] → (es before rest : List P.Event)
    → es ≡ before ++ rest → Nested P m before
nested-so-far P L m s e es before rest h = nesting P L m s e before
