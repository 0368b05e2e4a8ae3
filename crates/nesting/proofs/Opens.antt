-- The handlers taken and not yet returned: the scan finds those of document 01's sentence, and what one more entry at the end does to them.
--
use Prim.Native.Nat.{ℕ, zero, suc, ◌+◌, ◌-◌, ◌<◌}
use mathlib.Core.Path.{◌≡◌, refl, sym, ap, ap₂, ◌∙◌}
use mathlib.Core.Bool.{Bool, true, false, cond, ◌&&◌, false≢true}
use mathlib.Core.Option.{Option, none, some}
use mathlib.Core.Logic.{inl, inr}
use mathlib.Core.List.{List, [], ◌∷◌, ◌++◌, map, drop_last}
use native.Mathlib.Omega.{arith}
use lib.Dec.{eqb}
use lib.ListN.{length, length-append}
use borrow.Author.Tests.{eqb-false, ne_eqb}
use Rattle.nesting.specs.Lists.{Member, Rising, add_if, is_nil}
use Rattle.nesting.specs.Trace.{Entry, taking, chaining, returning, other, Place, is_none, place_of, Has, takings, returns, first_even}
use Rattle.nesting.specs.Trace.{own_return, stays_open, opens, Open, OpenInOrder, OpensFound, Latest, latest_after, LatestFound}
use Rattle.nesting.proofs.Lists.{nil-of-length, all-of-members, member-add, member-last, rising-unique}
use Rattle.nesting.proofs.OwnReturns.{some-none, extend, even-some, even-here, even-later, none-unreturned, unreturned-none}

pub map-add : {A B : Type 0} (f : A → B) (b : Bool) (a : A) (l : List A) → map f (add_if b a l) ≡ add_if b (f a) (map f l)
map-add f true a l = refl
map-add f false a l = refl

pub both_true : (a b : Bool) → (a && b) ≡ true → (a ≡ true) × (b ≡ true)
both_true true true e = (refl, refl)
both_true true false e = absurd (false≢true e)
both_true false true e = absurd (false≢true e)
both_true false false e = absurd (false≢true e)

none_of : {A : Type 0} (o : Option A) → is_none o ≡ true → o ≡ none
none_of none e = refl
none_of (some a) e = absurd (false≢true e)

nil-of : {A : Type 0} (l : List A) → is_nil l ≡ true → l ≡ []
nil-of [] e = refl
nil-of (a ∷ l) e = absurd (false≢true e)

module _ {X : Type 0} where
  -- How many returns of the list return handlers that were taken before it.
  abbrev deficit : List (Entry X) → ℕ
  deficit [] = zero
  deficit (taking x ∷ l) = deficit l - 1
  deficit (chaining x ∷ l) = deficit l
  deficit (returning x ∷ l) = suc (deficit l)
  deficit (other x ∷ l) = deficit l

  even-none : (l : List (Entry X)) (n k : ℕ) → k + deficit l < n → first_even n k l ≡ none
  even-none [] n k h = refl
  even-none (taking x ∷ l) n k h = even-none l (suc n) k (omega arith)
  even-none (chaining x ∷ l) n k h = even-none l n k h
  even-none (returning x ∷ l) n k h = rw (ne_eqb (suc k) n (omega arith)) (even-none l n (suc k) (omega arith))
  even-none (other x ∷ l) n k h = even-none l n k h

  none-even : (l : List (Entry X)) (n k : ℕ) → k < n → first_even n k l ≡ none → k + deficit l < n
  none-even [] n k h e = omega arith
  none-even (taking x ∷ l) n k h e = omega (arith, none-even l (suc n) k (omega arith) e)
  none-even (chaining x ∷ l) n k h e = none-even l n k h e
  none-even (returning x ∷ l) n k h e = go (eqb (suc k) n) refl e (λ q. none-even l n (suc k) q)
    where
      go : (b : Bool) → eqb (suc k) n ≡ b → cond b (some (record { at = x; after = l })) (first_even n (suc k) l) ≡ none
          → (suc k < n → first_even n (suc k) l ≡ none → suc k + deficit l < n) → k + suc (deficit l) < n
      go true p q i = absurd (some-none q)
      go false p q i =
          let d = eqb-false (suc k) n p in
          let f = i (omega arith) q in
          omega arith
  none-even (other x ∷ l) n k h e = none-even l n k h e

  -- The handlers open after a list, and the returns in it of earlier ones.
  balance : (l : List (Entry X)) → length (opens l) + returns l ≡ takings l + deficit l
  balance [] = omega arith
  balance (taking x ∷ l) = go (first_even 1 0 l) refl (balance l)
    where
      go : (o : Option (Place X)) → first_even 1 0 l ≡ o → length (opens l) + returns l ≡ takings l + deficit l
          → length (add_if (is_none o) (place_of (taking x) l) (opens l)) + returns l ≡ suc (takings l) + (deficit l - 1)
      go none p i = omega (arith, none-even l 1 0 (omega arith) p)
      go (some y) p i =
          let d : ¬ (deficit l < 1) = λ h. some-none (sym p ∙ even-none l 1 0 (omega arith)) in
          omega arith
  balance (chaining x ∷ l) = balance l
  balance (returning x ∷ l) = omega (arith, balance l)
  balance (other x ∷ l) = balance l

  -- One more entry at the end that is no return.
  abbrev NoReturn : Entry X → Type 0
  NoReturn (taking x) = Unit {0}
  NoReturn (chaining x) = Unit {0}
  NoReturn (returning x) = ⊥
  NoReturn (other x) = Unit {0}

  even-no-return : (i : Entry X) → NoReturn i → (l : List (Entry X)) (n k : ℕ) → is_none (first_even n k (l ++ (i ∷ []))) ≡ is_none (first_even n k l)
  even-no-return (taking y) q [] n k = refl
  even-no-return (chaining y) q [] n k = refl
  even-no-return (returning y) q [] n k = absurd q
  even-no-return (other y) q [] n k = refl
  even-no-return i q (taking x ∷ l) n k = even-no-return i q l (suc n) k
  even-no-return i q (chaining x ∷ l) n k = even-no-return i q l n k
  even-no-return i q (returning x ∷ l) n k = go (eqb (suc k) n) (even-no-return i q l n (suc k))
    where
      go : (b : Bool) → is_none (first_even n (suc k) (l ++ (i ∷ []))) ≡ is_none (first_even n (suc k) l)
          → is_none (cond b (some (record { at = x; after = l ++ (i ∷ []) })) (first_even n (suc k) (l ++ (i ∷ []))))
          ≡ is_none (cond b (some (record { at = x; after = l })) (first_even n (suc k) l))
      go true p = refl
      go false p = p
  even-no-return i q (other x ∷ l) n k = even-no-return i q l n k

  stays-no-return : (i : Entry X) → NoReturn i → (e : Entry X) (l : List (Entry X)) → stays_open e (l ++ (i ∷ [])) ≡ stays_open e l
  stays-no-return i q (taking x) l = even-no-return i q l 1 0
  stays-no-return i q (chaining x) l = refl
  stays-no-return i q (returning x) l = refl
  stays-no-return i q (other x) l = refl

  -- One more entry that is neither taking nor return leaves the open handlers as they are.
  abbrev pub Neutral : Entry X → Type 0
  Neutral (taking x) = ⊥
  Neutral (chaining x) = Unit {0}
  Neutral (returning x) = ⊥
  Neutral (other x) = Unit {0}

  neutral-no-return : (i : Entry X) → Neutral i → NoReturn i
  neutral-no-return (taking x) q = tt
  neutral-no-return (chaining x) q = tt
  neutral-no-return (returning x) q = q
  neutral-no-return (other x) q = tt

  pub opens-neutral : (i : Entry X) → Neutral i → (l : List (Entry X)) → opens (l ++ (i ∷ [])) ≡ map (extend (i ∷ [])) (opens l)
  opens-neutral (taking y) q [] = absurd q
  opens-neutral (chaining y) q [] = refl
  opens-neutral (returning y) q [] = absurd q
  opens-neutral (other y) q [] = refl
  opens-neutral i q (e ∷ l) =
      rw (stays-no-return i (neutral-no-return i q) e l, opens-neutral i q l) (sym (map-add (extend (i ∷ [])) (stays_open e l) (place_of e l) (opens l)))

  -- A taking puts one more at the end.
  pub opens-taking : (y : X) (l : List (Entry X))
      → opens (l ++ (taking y ∷ [])) ≡ map (extend (taking y ∷ [])) (opens l) ++ (record { at = y; after = [] } ∷ [])
  opens-taking y [] = refl
  opens-taking y (e ∷ l) = rw (stays-no-return (taking y) tt e l, opens-taking y l) (go (stays_open e l))
    where
      go : (b : Bool)
          → add_if b (place_of e (l ++ (taking y ∷ []))) (map (extend (taking y ∷ [])) (opens l) ++ (record { at = y; after = [] } ∷ []))
          ≡ map (extend (taking y ∷ [])) (add_if b (place_of e l) (opens l)) ++ (record { at = y; after = [] } ∷ [])
      go true = refl
      go false = refl

  -- A return takes the last one away.
  pub opens-returning : (y : X) (l : List (Entry X)) → opens (l ++ (returning y ∷ [])) ≡ map (extend (returning y ∷ [])) (drop_last (opens l))
  opens-returning y [] = refl
  opens-returning y (taking x ∷ l) = rw (opens-returning y l) (go (first_even 1 0 l) refl)
    where
      shut : (hs : List (Place X)) → opens l ≡ hs → first_even 1 0 l ≡ none
          → add_if (is_none (first_even 1 0 (l ++ (returning y ∷ [])))) (place_of (taking x) (l ++ (returning y ∷ [])))
          (map (extend (returning y ∷ [])) (drop_last hs))
          ≡ map (extend (returning y ∷ [])) (drop_last (place_of (taking x) l ∷ hs))
      shut [] p e =
          let b : 0 + returns l ≡ takings l + deficit l = rw p at (balance l) in
          let d = none-even l 1 0 (omega arith) e in
          rw (even-here y l [] 1 0 e (omega arith))
      shut (h ∷ hs) p e =
          let b : suc (length hs) + returns l ≡ takings l + deficit l = rw p at (balance l) in
          let d = none-even l 1 0 (omega arith) e in
          rw (even-later y l 1 0 e (omega arith))

      go : (o : Option (Place X)) → first_even 1 0 l ≡ o
          → add_if (is_none (first_even 1 0 (l ++ (returning y ∷ [])))) (place_of (taking x) (l ++ (returning y ∷ [])))
          (map (extend (returning y ∷ [])) (drop_last (opens l)))
          ≡ map (extend (returning y ∷ [])) (drop_last (add_if (is_none o) (place_of (taking x) l) (opens l)))
      go none e = shut (opens l) refl e
      go (some r) e = rw (even-some l (returning y ∷ []) 1 0 e)
  opens-returning y (chaining x ∷ l) = opens-returning y l
  opens-returning y (returning x ∷ l) = opens-returning y l
  opens-returning y (other x ∷ l) = opens-returning y l

  -- The open handlers of a list stay, once entries are put before it.
  opens-append : (p l : List (Entry X)) → (hs : List (Place X)) × (opens (p ++ l) ≡ hs ++ opens l)
  opens-append [] l = ([], refl)
  opens-append (e ∷ p) l = go (stays_open e (p ++ l)) (opens-append p l)
    where
      go : (b : Bool) → (hs : List (Place X)) × (opens (p ++ l) ≡ hs ++ opens l)
          → (hs : List (Place X)) × (add_if b (place_of e (p ++ l)) (opens (p ++ l)) ≡ hs ++ opens l)
      go true i = (place_of e (p ++ l) ∷ i.0, ap (place_of e (p ++ l) ∷◌) i.1)
      go false i = i

  -- A handler that is not returned, with none open after it, is the last of the open ones.
  pub opens-last : (pre since : List (Entry X)) (x : X) → first_even 1 0 since ≡ none → opens since ≡ []
      → (hs : List (Place X)) × (opens (pre ++ taking x ∷ since) ≡ hs ++ (record { at = x; after = since } ∷ []))
  opens-last pre since x e n =
      let f : opens (taking x ∷ since) ≡ record { at = x; after = since } ∷ [] = rw (e, n) in
      let i = opens-append pre (taking x ∷ since) in
      (i.0, i.1 ∙ ap (i.0 ++◌) f)

  -- Just before its own return a handler is the last of the open ones.
  pub last-before-return : (pre between : List (Entry X)) (x : X) → first_even 1 0 between ≡ none → 0 + suc (returns between) ≡ 1 + takings between
      → (hs : List (Place X)) × (opens (pre ++ taking x ∷ between) ≡ hs ++ (record { at = x; after = between } ∷ []))
  last-before-return pre between x e h =
      let d = none-even between 1 0 (omega arith) e in
      opens-last pre between x e (nil-of-length (opens between) (omega (arith, balance between)))

  -- Each open handler is not returned, and the later open ones are those taken after it.
  abbrev pub Nest : List (Place X) → Type 0
  Nest [] = Unit {0}
  Nest (h ∷ hs) = (own_return h ≡ none) × (opens h.after ≡ hs) × Nest hs

  pub nest : (l : List (Entry X)) → Nest (opens l)
  nest [] = tt
  nest (taking x ∷ l) = go (first_even 1 0 l) refl (nest l)
    where
      go : (o : Option (Place X)) → first_even 1 0 l ≡ o → Nest (opens l) → Nest (add_if (is_none o) (place_of (taking x) l) (opens l))
      go none e n = (e, refl, n)
      go (some r) e n = n
  nest (chaining x ∷ l) = nest l
  nest (returning x ∷ l) = nest l
  nest (other x ∷ l) = nest l

  -- So a chaining belongs to the last of them alone.
  pub latest-nest : (h : Place X) (hs : List (Place X)) → Nest (h ∷ hs) → latest_after h.after ≡ is_nil hs
  latest-nest h hs n = ap₂ (λ (o : Option (Place X)) (l : List (Place X)). is_none o && is_nil l) n.0 n.1

  -- A step of a longer list.
  pub has-cons : (class : X → Entry X) (e : Entry X) (l : List (Entry X)) (p : Place X) → Has class l p → Has class (e ∷ l) p
  has-cons class e l p h = (e ∷ h.0, ap (e ∷◌) h.1)

  -- Fewer entries come after a later step.
  pub has-shorter : (class : X → Entry X) (l : List (Entry X)) (p : Place X) → Has class l p → length p.after < length l
  has-shorter class l p h = rw h.1 (omega (arith, length-append h.0 (class p.at ∷ p.after)))

  pub has-asym : (class : X → Entry X) (p q : Place X) → Has class p.after q → Has class q.after p → ⊥
  has-asym class p q h g = omega (arith, has-shorter class p.after q h, has-shorter class q.after p g)

  -- Each of the scan's list is taken and not yet returned.
  are-open : (l : List (Entry X)) (t : Place X) → Member t (opens l) → Open l t
  are-open [] t m = absurd m
  are-open (e ∷ l) t m = go e m (are-open l t)
    where
      more : (e : Entry X) → Open l t → Open (e ∷ l) t
      more e o = record { taken = has-cons taking e l t o.taken; unreturned = o.unreturned }

      at-taking : (x : X) (o : Option (Place X)) → first_even 1 0 l ≡ o → Member t (add_if (is_none o) (place_of (taking x) l) (opens l))
          → (Member t (opens l) → Open l t) → Open (taking x ∷ l) t
      at-taking x none p (inl q) i =
          rw q (record { taken = ([], refl); unreturned = none-unreturned (place_of (taking x) l) p })
      at-taking x none p (inr q) i = more (taking x) (i q)
      at-taking x (some r) p q i = more (taking x) (i q)

      go : (e : Entry X) → Member t (opens (e ∷ l)) → (Member t (opens l) → Open l t) → Open (e ∷ l) t
      go (taking x) q i = at-taking x (first_even 1 0 l) refl q i
      go (chaining x) q i = more (chaining x) (i q)
      go (returning x) q i = more (returning x) (i q)
      go (other x) q i = more (other x) (i q)

  open-are : (l : List (Entry X)) (t : Place X) → Open l t → Member t (opens l)
  open-are l t o = rw o.taken.1 (go o.taken.0)
    where
      go : (pre : List (Entry X)) → Member t (opens (pre ++ taking t.at ∷ t.after))
      go [] = rw (unreturned-none t o.unreturned) (inl refl)
      go (e ∷ pre) =
          member-add (stays_open e (pre ++ taking t.at ∷ t.after)) (place_of e (pre ++ taking t.at ∷ t.after))
          (opens (pre ++ taking t.at ∷ t.after)) t (go pre)

  in_order : (l : List (Entry X)) → Rising (λ t u. Has taking t.after u) (opens l)
  in_order [] = tt
  in_order (e ∷ l) = go (stays_open e l) (in_order l)
    where
      go : (b : Bool) → Rising (λ t u. Has taking t.after u) (opens l) → Rising (λ t u. Has taking t.after u) (add_if b (place_of e l) (opens l))
      go true i = (all-of-members (λ u. Has taking l u) (opens l) (λ u m. (are-open l u m).taken), i)
      go false i = i

  opens-in-order : (l : List (Entry X)) → OpenInOrder l (opens l)
  opens-in-order l = record { each = λ t. (are-open l t, open-are l t); order = in_order l }

  pub opens-found : (l : List (Entry X)) → OpensFound l
  opens-found l hs = (
    (λ e. rw (← e) (opens-in-order l)),
    (λ w. rising-unique (λ t u. Has taking t.after u) (has-asym taking) (opens l) hs (in_order l) w.order
        (λ t. ((λ m. (w.each t).1 (are-open l t m)), (λ m. open-are l t ((w.each t).0 m))))),
  )

  -- The latest taken handler that isn't yet returned.
  nil-closed : (l : List (Entry X)) → opens l ≡ [] → (u : Place X) → Open l u → ⊥
  nil-closed l e u o = rw e at (open-are l u o)

  closed-nil : (l : List (Entry X)) → ((u : Place X) → Open l u → ⊥) → opens l ≡ []
  closed-nil l h = go (opens l) refl
    where
      go : (hs : List (Place X)) → opens l ≡ hs → opens l ≡ []
      go [] e = e
      go (u ∷ hs) e = absurd (h u (are-open l u (rw e (inl refl))))

  pub latest-parts : (since : List (Entry X)) → latest_after since ≡ true → (first_even 1 0 since ≡ none) × (opens since ≡ [])
  latest-parts since e =
      let p = both_true (is_none (first_even 1 0 since)) (is_nil (opens since)) e in
      (none_of (first_even 1 0 since) p.0, nil-of (opens since) p.1)

  pub latest-scan : (l : List (Entry X)) (t : Place X) → Latest l t → latest_after t.after ≡ true
  latest-scan l t w = rw (unreturned-none t w.is_open.unreturned, closed-nil t.after w.no_later)

  pub scan-latest : (l : List (Entry X)) (t : Place X) → Has taking l t → latest_after t.after ≡ true → Latest l t
  scan-latest l t h e =
      let p = latest-parts t.after e in
      record { is_open = record { taken = h; unreturned = none-unreturned t p.0 }; no_later = nil-closed t.after p.1 }

  latest-last : (l : List (Entry X)) (t : Place X) → Latest l t → (hs : List (Place X)) × (opens l ≡ hs ++ (t ∷ []))
  latest-last l t w =
      let h = w.is_open.taken in
      let i = opens-last h.0 t.after t.at (unreturned-none t w.is_open.unreturned) (closed-nil t.after w.no_later) in
      (i.0, ap opens h.1 ∙ i.1)

  nest_last : (hs : List (Place X)) (h : Place X) → Nest (hs ++ (h ∷ [])) → opens h.after ≡ []
  nest_last [] h n = n.1
  nest_last (g ∷ hs) h n = nest_last hs h n.2

  last-latest : (l : List (Entry X)) (t : Place X) → (hs : List (Place X)) × (opens l ≡ hs ++ (t ∷ [])) → Latest l t
  last-latest l t w =
      record {
        is_open = are-open l t (rw w.1 (member-last w.0 t));
        no_later = nil-closed t.after (nest_last w.0 t (rw w.1 at (nest l)));
      }

  pub latest-found : (l : List (Entry X)) (t : Place X) → Has taking l t → LatestFound l t
  latest-found l t h = record { scanned = (scan-latest l t h, latest-scan l t); last = (latest-last l t, last-latest l t) }
