-- The words of document 01 about a list of events as it was played, from the classes of its steps alone: takings and accepted returns, a handler's
-- own return, the handlers taken and not yet returned, the chainings that belong to a handler. Each definition that scans is followed by the
-- sentence that it stands for and by the statement that the two are one. Nothing here knows a machine.
use Rattle.std.specs.Prelude.{ℕ, zero, suc, ◌≡◌, Bool, true, false, cond, ◌&&◌, ◌↔◌, List, [], ◌∷◌, ◌++◌, map, eqb}
use Rattle.std.proofs.Math.Option.{Option, none, some}
use Rattle.nesting.specs.Lists.{Member, Rising, add_if, last_or, is_nil}

-- An entry of a trace: a step with its class. A `returning` is an accepted return.
pub data Entry (X : Type 0) : Type 0 where
  taking chaining returning other : X → Entry X

-- A step at its place in a list of entries, told by the entries after it. Two equal steps at two places differ in these.
pub record Place (X : Type 0) : Type 0 where
  pub at : X
  pub after : List (Entry X)

-- Nothing was found.
abbrev pub is_none : {A : Type 0} → Option A → Bool
is_none none = true
is_none (some a) = false

module _ {X : Type 0} where
  -- The step of an entry, and its place with `l` after it.
  abbrev pub step_in : Entry X → X
  step_in (taking x) = x
  step_in (chaining x) = x
  step_in (returning x) = x
  step_in (other x) = x

  abbrev pub place_of : Entry X → List (Entry X) → Place X
  place_of e l = record { at = step_in e; after = l }

  -- The list has a step of the class at this place: `Has taking l t` says that `t` is a taking of `l`.
  abbrev pub Has : (X → Entry X) → List (Entry X) → Place X → Type 0
  Has class l p = (before : List (Entry X)) × (l ≡ before ++ class p.at ∷ p.after)

  -- How many takings there are.
  abbrev pub takings : List (Entry X) → ℕ
  takings [] = zero
  takings (taking x ∷ l) = suc (takings l)
  takings (chaining x ∷ l) = takings l
  takings (returning x ∷ l) = takings l
  takings (other x ∷ l) = takings l

  -- How many accepted returns there are.
  abbrev pub returns : List (Entry X) → ℕ
  returns [] = zero
  returns (taking x ∷ l) = returns l
  returns (chaining x ∷ l) = returns l
  returns (returning x ∷ l) = suc (returns l)
  returns (other x ∷ l) = returns l

  -- The first return of the list by which there are as many returns as takings, where `n` takings and `k` returns are counted already.
  abbrev pub first_even : ℕ → ℕ → List (Entry X) → Option (Place X)
  first_even n k [] = none
  first_even n k (taking x ∷ l) = first_even (suc n) k l
  first_even n k (chaining x ∷ l) = first_even n k l
  first_even n k (returning x ∷ l) = cond (eqb (suc k) n) (some (record { at = x; after = l })) (first_even n (suc k) l)
  first_even n k (other x ∷ l) = first_even n k l

  -- The own return of the taking `t`, which is itself the one taking counted already.
  abbrev pub own_return : Place X → Option (Place X)
  own_return t = first_even 1 0 t.after

  -- "A handler's own return is the first later accepted return by which there are as many accepted returns as takings, both counted from its taking
  -- on, that taking included."
  pub record OwnReturn (t r : Place X) : Type 0 where
    pub between : List (Entry X)
    pub later : t.after ≡ between ++ returning r.at ∷ r.after
    pub even : returns (taking t.at ∷ between ++ (returning r.at ∷ [])) ≡ takings (taking t.at ∷ between ++ (returning r.at ∷ []))
    pub first : (a b : List (Entry X)) (y : X) → between ≡ a ++ returning y ∷ b
        → returns (taking t.at ∷ a ++ (returning y ∷ [])) ≡ takings (taking t.at ∷ a ++ (returning y ∷ [])) → ⊥

  -- "A handler is returned once its own return has come."
  abbrev pub Returned : Place X → Type 0
  Returned t = (r : Place X) × OwnReturn t r

  -- The scan finds the own return at its place, and finds none just when there is none.
  pub record OwnReturnFound (t : Place X) : Type 0 where
    pub found : (r : Place X) → (own_return t ≡ some r) ↔ OwnReturn t r
    pub missing : (own_return t ≡ none) ↔ (Returned t → ⊥)

  -- The entry, with `l` after it, is a taking whose own return has not come.
  abbrev pub stays_open : Entry X → List (Entry X) → Bool
  stays_open (taking x) l = is_none (own_return (record { at = x; after = l }))
  stays_open (chaining x) l = false
  stays_open (returning x) l = false
  stays_open (other x) l = false

  -- The handlers taken and not yet returned, in the order taken.
  abbrev pub opens : List (Entry X) → List (Place X)
  opens [] = []
  opens (e ∷ l) = add_if (stays_open e l) (place_of e l) (opens l)

  -- `t` is taken in `l` and not yet returned.
  pub record Open (l : List (Entry X)) (t : Place X) : Type 0 where
    pub taken : Has taking l t
    pub unreturned : Returned t → ⊥

  -- "The handlers taken and not yet returned", each of them and no other, "in the order taken": of every two the later was taken after the earlier.
  pub record OpenInOrder (l : List (Entry X)) (hs : List (Place X)) : Type 0 where
    pub each : (t : Place X) → Member t hs ↔ Open l t
    pub order : Rising (λ t u. Has taking t.after u) hs

  -- The scan's list is that list, and there is only one.
  abbrev pub OpensFound : List (Entry X) → Type 0
  OpensFound l = (hs : List (Place X)) → (opens l ≡ hs) ↔ OpenInOrder l hs

  -- "The latest taken handler that isn't yet returned": none that was taken after it is unreturned.
  pub record Latest (l : List (Entry X)) (t : Place X) : Type 0 where
    pub is_open : Open l t
    pub no_later : (u : Place X) → Open t.after u → ⊥

  -- The same by a scan of the entries since a taking: that one is not returned, and no later one is open.
  abbrev pub latest_after : List (Entry X) → Bool
  latest_after since = is_none (first_even 1 0 since) && is_nil (opens since)

  -- For a taking `t` of the entries `l` so far: the scan of the entries since says whether it is that handler, and that handler is the last of the
  -- list of those taken and not yet returned.
  pub record LatestFound (l : List (Entry X)) (t : Place X) : Type 0 where
    pub scanned : (latest_after t.after ≡ true) ↔ Latest l t
    pub last : Latest l t ↔ ((hs : List (Place X)) × (opens l ≡ hs ++ (t ∷ [])))

  -- The entry is a chaining of the handler, `since` the entries from its taking to here.
  abbrev pub chains : List (Entry X) → Entry X → Bool
  chains since (taking x) = false
  chains since (chaining x) = latest_after since
  chains since (returning x) = false
  chains since (other x) = false

  -- The chainings of the handler in a list, `since` the entries from its taking to the list.
  abbrev pub chainings_from : List (Entry X) → List (Entry X) → List (Place X)
  chainings_from since [] = []
  chainings_from since (e ∷ l) = add_if (chains since e) (place_of e l) (chainings_from (since ++ (e ∷ [])) l)

  -- The chainings that belong to the handler of the taking `t`, in their order.
  abbrev pub chainings : Place X → List (Place X)
  chainings t = chainings_from [] t.after

  -- A chaining "belongs to the latest taken handler that isn't yet returned": `c` is a chaining of the trace `l`, and the handler of `t` is that one
  -- by the entries before `c`, of which `since` came after `t`.
  pub record ChainingOf (l : List (Entry X)) (t c : Place X) : Type 0 where
    pub before : List (Entry X)
    pub whole : l ≡ before ++ chaining c.at ∷ c.after
    pub since : List (Entry X)
    pub later : t.after ≡ since ++ chaining c.at ∷ c.after
    pub latest : Latest before (record { at = t.at; after = since })

  -- The chainings of the handler of `t`, each of them and no other, in their order.
  pub record ChainingsInOrder (l : List (Entry X)) (t : Place X) (cs : List (Place X)) : Type 0 where
    pub each : (c : Place X) → Member c cs ↔ ChainingOf l t c
    pub order : Rising (λ c d. Has chaining c.after d) cs

  -- The scan's list is that list, and there is only one.
  abbrev pub ChainingsFound : List (Entry X) → Place X → Type 0
  ChainingsFound l t = (cs : List (Place X)) → (chainings t ≡ cs) ↔ ChainingsInOrder l t cs

  -- The step that a handler's source is read from: "its taking, or its latest chaining if it has one".
  abbrev pub served : Place X → X
  served t = last_or t.at (map (λ (c : Place X). c.at) (chainings t))

  -- In words: the taking if no chaining of the trace `l` belongs to the handler, else the chaining of it after which there is no other.
  pub data Served (l : List (Entry X)) (t : Place X) : X → Type 0 where
    by_taking : ((c : Place X) → ChainingOf l t c → ⊥) → Served l t t.at
    by_chaining : (c : Place X) → ChainingOf l t c → ((d : Place X) → ChainingOf l t d → Has chaining c.after d → ⊥) → Served l t c.at

  -- The scan's step is that step.
  abbrev pub ServedFound : List (Entry X) → Place X → Type 0
  ServedFound l t = (x : X) → (served t ≡ x) ↔ Served l t x

  -- What is proved of every trace: its scans are these sentences.
  pub record ScansAreWords (l : List (Entry X)) : Type 0 where
    pub own-return : (t : Place X) → Has taking l t → OwnReturnFound t
    pub open-handlers : OpensFound l
    pub latest-handler : (t : Place X) → Has taking l t → LatestFound l t
    pub its-chainings : (t : Place X) → Has taking l t → ChainingsFound l t
    pub its-service : (t : Place X) → Has taking l t → ServedFound l t
