-- A handler's own return: the scan by two running counts finds the return of document 01's sentence.
use Prim.Native.Nat.{ℕ, suc, ◌+◌, ◌<◌}
use mathlib.Core.Path.{◌≡◌, refl, sym, ap, ◌∙◌}
use mathlib.Core.Bool.{Bool, true, false, cond}
use mathlib.Core.Option.{Option, none, some}
use mathlib.Core.Logic.{◌↔◌}
use mathlib.Core.List.{List, [], ◌∷◌, ◌++◌}
use native.Mathlib.Omega.{arith}
use lib.Dec.{eqb}
use borrow.Author.Tests.{eqb-true, eqb-false, eq-eqb, ne_eqb}
use Rattle.nesting.specs.Trace.{Entry, taking, chaining, returning, other, Place, takings, returns, first_even, own_return, OwnReturn, Returned}
use Rattle.nesting.specs.Trace.{OwnReturnFound}

pub some-none : {A : Type 0} {a : A} → some a ≡ none → ⊥
some-none p = let z : ◌≡◌ {A = ℕ} 0 1 = cc in omega arith

module _ {X : Type 0} where
  -- More entries at the end, after the place.
  abbrev pub extend : List (Entry X) → Place X → Place X
  extend m p = record { at = p.at; after = p.after ++ m }

  pub takings-append : (a b : List (Entry X)) → takings (a ++ b) ≡ takings a + takings b
  takings-append [] b = omega arith
  takings-append (taking x ∷ a) b = omega (arith, takings-append a b)
  takings-append (chaining x ∷ a) b = takings-append a b
  takings-append (returning x ∷ a) b = takings-append a b
  takings-append (other x ∷ a) b = takings-append a b

  pub returns-append : (a b : List (Entry X)) → returns (a ++ b) ≡ returns a + returns b
  returns-append [] b = omega arith
  returns-append (taking x ∷ a) b = returns-append a b
  returns-append (chaining x ∷ a) b = returns-append a b
  returns-append (returning x ∷ a) b = omega (arith, returns-append a b)
  returns-append (other x ∷ a) b = returns-append a b

  -- What was found stays found, whatever comes after.
  pub even-some : (l m : List (Entry X)) (n k : ℕ) {p : Place X} → first_even n k l ≡ some p → first_even n k (l ++ m) ≡ some (extend m p)
  even-some [] m n k e = absurd (some-none (sym e))
  even-some (taking x ∷ l) m n k e = even-some l m (suc n) k e
  even-some (chaining x ∷ l) m n k e = even-some l m n k e
  even-some (returning x ∷ l) m n k {p} e = go (eqb (suc k) n) e (λ h. even-some l m n (suc k) h)
    where
      go : (b : Bool) → cond b (some (record { at = x; after = l })) (first_even n (suc k) l) ≡ some p
          → (first_even n (suc k) l ≡ some p → first_even n (suc k) (l ++ m) ≡ some (extend m p))
          → cond b (some (record { at = x; after = l ++ m })) (first_even n (suc k) (l ++ m)) ≡ some (extend m p)
      go true h i = let q : record { at = x; after = l } ≡ p = cc in ap (λ z. some (extend m z)) q
      go false h i = i h
  even-some (other x ∷ l) m n k e = even-some l m n k e

  -- A return after a list in which none was found is found just when it makes the counts even.
  pub even-here : (y : X) (l m : List (Entry X)) (n k : ℕ) → first_even n k l ≡ none → k + suc (returns l) ≡ n + takings l
      → first_even n k (l ++ returning y ∷ m) ≡ some (record { at = y; after = m })
  even-here y [] m n k e h = rw (eq-eqb (suc k) n (omega arith))
  even-here y (taking x ∷ l) m n k e h = even-here y l m (suc n) k e (omega arith)
  even-here y (chaining x ∷ l) m n k e h = even-here y l m n k e h
  even-here y (returning x ∷ l) m n k e h = go (eqb (suc k) n) e (λ q. even-here y l m n (suc k) q (omega arith))
    where
      go : (b : Bool) → cond b (some (record { at = x; after = l })) (first_even n (suc k) l) ≡ none
          → (first_even n (suc k) l ≡ none → first_even n (suc k) (l ++ returning y ∷ m) ≡ some (record { at = y; after = m }))
          → cond b (some (record { at = x; after = l ++ returning y ∷ m })) (first_even n (suc k) (l ++ returning y ∷ m))
          ≡ some (record { at = y; after = m })
      go true p i = absurd (some-none p)
      go false p i = i p
  even-here y (other x ∷ l) m n k e h = even-here y l m n k e h

  pub even-later : (y : X) (l : List (Entry X)) (n k : ℕ) → first_even n k l ≡ none → (k + suc (returns l) ≡ n + takings l → ⊥)
      → first_even n k (l ++ (returning y ∷ [])) ≡ none
  even-later y [] n k e h = rw (ne_eqb (suc k) n (omega arith))
  even-later y (taking x ∷ l) n k e h = even-later y l (suc n) k e (omega arith)
  even-later y (chaining x ∷ l) n k e h = even-later y l n k e h
  even-later y (returning x ∷ l) n k e h = go (eqb (suc k) n) e (λ q. even-later y l n (suc k) q (omega arith))
    where
      go : (b : Bool) → cond b (some (record { at = x; after = l })) (first_even n (suc k) l) ≡ none
          → (first_even n (suc k) l ≡ none → first_even n (suc k) (l ++ (returning y ∷ [])) ≡ none)
          → cond b (some (record { at = x; after = l ++ (returning y ∷ []) })) (first_even n (suc k) (l ++ (returning y ∷ []))) ≡ none
      go true p i = absurd (some-none p)
      go false p i = i p
  even-later y (other x ∷ l) n k e h = even-later y l n k e h

  -- What is found splits the list: before it the counts were never even.
  pub record Split (l : List (Entry X)) (n k : ℕ) (p : Place X) : Type 0 where
    pub between : List (Entry X)
    pub whole : l ≡ between ++ returning p.at ∷ p.after
    pub before : first_even n k between ≡ none
    pub even : k + suc (returns between) ≡ n + takings between

  pub split : (l : List (Entry X)) (n k : ℕ) (p : Place X) → k < n → first_even n k l ≡ some p → Split l n k p
  split [] n k p h e = absurd (some-none (sym e))
  split (taking x ∷ l) n k p h e =
      let s = split l (suc n) k p (omega arith) e in
      record { between = taking x ∷ s.between; whole = ap (taking x ∷◌) s.whole; before = s.before; even = omega arith }
  split (chaining x ∷ l) n k p h e =
      let s = split l n k p h e in
      record { between = chaining x ∷ s.between; whole = ap (chaining x ∷◌) s.whole; before = s.before; even = s.even }
  split (returning x ∷ l) n k p h e = go (eqb (suc k) n) refl e (λ q. split l n (suc k) p q)
    where
      go : (b : Bool) → eqb (suc k) n ≡ b → cond b (some (record { at = x; after = l })) (first_even n (suc k) l) ≡ some p
          → (suc k < n → first_even n (suc k) l ≡ some p → Split l n (suc k) p) → Split (returning x ∷ l) n k p
      go true t q i =
          let e : suc k ≡ n = eqb-true (suc k) n t in
          let f : record { at = x; after = l } ≡ p = cc in
          record { between = []; whole = ap (λ (z : Place X). returning z.at ∷ z.after) f; before = refl; even = omega arith }
      go false t q i =
          let d = eqb-false (suc k) n t in
          let s = i (omega arith) q in
          record { between = returning x ∷ s.between; whole = ap (returning x ∷◌) s.whole; before = rw t s.before; even = omega arith }
  split (other x ∷ l) n k p h e =
      let s = split l n k p h e in
      record { between = other x ∷ s.between; whole = ap (other x ∷◌) s.whole; before = s.before; even = s.even }

  -- The counts of the sentence, which begin with the taking, by those of the entries between.
  counts : (x y : X) (a : List (Entry X))
      → (returns (taking x ∷ a ++ (returning y ∷ [])) ≡ takings (taking x ∷ a ++ (returning y ∷ []))) ↔ (0 + suc (returns a) ≡ 1 + takings a)
  counts x y a = (
    (λ h. omega (arith, returns-append a (returning y ∷ []), takings-append a (returning y ∷ []))),
    (λ h. omega (arith, returns-append a (returning y ∷ []), takings-append a (returning y ∷ []))),
  )

  not-even : (a b : List (Entry X)) (y : X) (n k : ℕ) → first_even n k (a ++ returning y ∷ b) ≡ none → k + suc (returns a) ≡ n + takings a → ⊥
  not-even a b y n k e h = go (first_even n k a) refl
    where
      go : (o : Option (Place X)) → first_even n k a ≡ o → ⊥
      go none p = some-none (sym (even-here y a b n k p h) ∙ e)
      go (some z) p = some-none (sym (even-some a (returning y ∷ b) n k p) ∙ e)

  own-found : (t r : Place X) → own_return t ≡ some r → OwnReturn t r
  own-found t r e =
      let s = split t.after 1 0 r (omega arith) e in
      record {
        between = s.between;
        later = s.whole;
        even = (counts t.at r.at s.between).1 s.even;
        first = λ a b y p h. not-even a b y 1 0 (sym (ap (first_even 1 0) p) ∙ s.before) ((counts t.at y a).0 h);
      }

  -- Before an own return none is found.
  pub none_between : (t r : Place X) (w : OwnReturn t r) → first_even 1 0 w.between ≡ none
  none_between t r w = go (first_even 1 0 w.between) refl
    where
      go : (o : Option (Place X)) → first_even 1 0 w.between ≡ o → first_even 1 0 w.between ≡ none
      go none p = p
      go (some z) p =
          let s = split w.between 1 0 z (omega arith) p in
          absurd (w.first s.between z.after z.at s.whole ((counts t.at z.at s.between).1 s.even))

  pub own-even : (t r : Place X) (w : OwnReturn t r) → 0 + suc (returns w.between) ≡ 1 + takings w.between
  own-even t r w = (counts t.at r.at w.between).0 w.even

  found-own : (t r : Place X) → OwnReturn t r → own_return t ≡ some r
  found-own t r w = ap (first_even 1 0) w.later ∙ even-here r.at w.between r.after 1 0 (none_between t r w) (own-even t r w)

  pub none-unreturned : (t : Place X) → own_return t ≡ none → Returned t → ⊥
  none-unreturned t e w = some-none (sym (found-own t w.0 w.1) ∙ e)

  pub unreturned-none : (t : Place X) → (Returned t → ⊥) → own_return t ≡ none
  unreturned-none t h = go (own_return t) refl
    where
      go : (o : Option (Place X)) → own_return t ≡ o → own_return t ≡ none
      go none e = e
      go (some r) e = absurd (h (r, own-found t r e))

  pub own-return-found : (t : Place X) → OwnReturnFound t
  own-return-found t =
      record { found = λ r. (own-found t r, found-own t r); missing = (none-unreturned t, unreturned-none t) }
