-- Kind 7 retired: the check of an event that is written beside that of one that is read, and the two walks.
use mathlib.Core.Path.{◌≡◌, refl, sym, ◌∙◌}
use mathlib.Core.Bool.{Bool, true, false, not, cond, ◌&&◌, true≢false}
use mathlib.Core.Logic.{◌⊎◌, inl, inr}
use Prim.Native.Nat.{ℕ, zero, suc, ◌<◌}
use native.Mathlib.Omega.{arith}
use mathlib.Core.List.{List, [], ◌∷◌}
use borrow.Author.Tests.{eq-eqb, ne_eqb, eqb-true, eqb-false, ltb-false}
use lib.Dec.{eqb}
use lib.ListN.{length, get_or}
use Rattle.event.specs.Event.{kinds, kind_of, address_of, is_kind, unused_are_zero, shape_of}
use Rattle.event.proofs.Laws.{shape-6, FirstNo, first-question}
use Rattle.record.specs.Questions.{verdict, no_refusal, is_retired, write_shape_of, walk}
use Rattle.record.specs.Retired.{RetiredAlone, AcceptsOthers, FirstNoOf, FirstNoWriting, RetiredAt, NoneRetired, FirstRetired, SomeRetired, NoneOrFirst, WalksBeside, WritesNoneRetired}
use Rattle.record.proofs.Walk.{walk-clear, walk-yes, walk_ends}
use Rattle.record.proofs.Questions.{writable}

-- Kind 7 is a kind.
kind-retired : (k : ℕ) → is_kind k ≡ false → eqb k 7 ≡ false
kind-retired k e = go (eqb k 7) refl
  where
    go : (r : Bool) → eqb k 7 ≡ r → r ≡ false
    go false h = refl
    go true h = absurd (true≢false (rw (eqb-true k 7 h) at e))

-- Where 6 is no, the others are not asked.
six-alone : (k r : Bool) (s : ℕ) → (k ≡ false → (r ≡ false) × (s ≡ 6)) → cond k (cond r 27 s) 6 ≡ cond r 27 s
six-alone true r s h = refl
six-alone false r s h = let no = h refl in rw (no.0, no.1)

pub retired-alone : RetiredAlone
unfolding write_shape_of
retired-alone head value =
    six-alone (is_kind (kind_of head)) (is_retired head) (shape_of head value)
    (λ e. (kind-retired (kind_of head) e, sym (shape-6 head value (ltb-false (kind_of head) (length kinds) e))))

pub accepts-others : AcceptsOthers
accepts-others head value = rw (retired-alone head value) (go (is_retired head) (shape_of head value))
  where
    go : (r : Bool) (s : ℕ) → eqb (cond r 27 s) 0 ≡ (not r && eqb s 0)
    go true s = refl
    go false s = refl

-- An event of kind 7, and any other.
of-retired : (head value : ℕ) → kind_of head ≡ 7 → write_shape_of head value ≡ 27
of-retired head value e = retired-alone head value ∙ rw (eq-eqb (kind_of head) 7 e)

of_other : (head value : ℕ) → (kind_of head ≡ 7 → ⊥) → write_shape_of head value ≡ shape_of head value
of_other head value e = retired-alone head value ∙ rw (ne_eqb (kind_of head) 7 e)

-- What is accepted is no event of kind 7.
not-retired : (head value : ℕ) → write_shape_of head value ≡ 0 → kind_of head ≡ 7 → ⊥
not-retired head value z e = let seven = of-retired head value e in omega (arith, z, seven)

pub first-no-writing : FirstNoWriting
first-no-writing head value h = go (is_retired head) refl
  where
    as_read : write_shape_of head value ≡ shape_of head value → FirstNo (is_kind (kind_of head)) (unused_are_zero (kind_of head) (address_of head) value) (shape_of head value)
        → FirstNoOf (is_kind (kind_of head)) false (unused_are_zero (kind_of head) (address_of head) value) (write_shape_of head value)
    as_read e (inl n) = inl (n.0, e ∙ n.1)
    as_read e (inr n) = inr (inr (n.0, refl, n.1, e ∙ n.2))

    go : (r : Bool) → is_retired head ≡ r → FirstNoOf (is_kind (kind_of head)) r (unused_are_zero (kind_of head) (address_of head) value) (write_shape_of head value)
    go true e = let seven = eqb-true (kind_of head) 7 e in inr (inl (rw seven, refl, of-retired head value seven))
    go false e = let same = of_other head value (eqb-false (kind_of head) 7 e) in as_read same (first-question head value (λ z. h (same ∙ z)))

-- A head before others.
none-cons : (x : ℕ) (heads : List ℕ) → (kind_of x ≡ 7 → ⊥) → NoneRetired heads → NoneRetired (x ∷ heads)
none-cons x heads h none zero r = h r.1
none-cons x heads h none (suc p) r = let l : p < length heads = omega (arith, r.0) in none p (l, r.1)

first-cons : (x : ℕ) (heads : List ℕ) → (kind_of x ≡ 7 → ⊥) → SomeRetired heads → SomeRetired (x ∷ heads)
first-cons x heads h some =
    record {
      place = suc some.place;
      first = ((omega (arith, some.first.0.0), some.first.0.1), earlier);
    }
  where
    earlier : (j : ℕ) → j < suc some.place → RetiredAt (x ∷ heads) j → ⊥
    earlier zero l r = h r.1
    earlier (suc j) l r = let l' : j < some.place = omega arith in let in-heads : j < length heads = omega (arith, r.0) in some.first.1 j l' (in-heads, r.1)

pub none-or-first : NoneOrFirst
none-or-first [] = inl (λ p r. absurd (omega (arith, r.0)))
none-or-first (x ∷ heads) = go (is_retired x) refl (none-or-first heads)
  where
    go : (r : Bool) → is_retired x ≡ r → NoneRetired heads ⊎ SomeRetired heads → NoneRetired (x ∷ heads) ⊎ SomeRetired (x ∷ heads)
    go true e rest = inr (record { place = 0; first = ((omega arith, eqb-true (kind_of x) 7 e), (λ j l r. absurd (omega arith))) })
    go false e (inl none) = inl (none-cons x heads (eqb-false (kind_of x) 7 e) none)
    go false e (inr some) = inr (first-cons x heads (eqb-false (kind_of x) 7 e) some)

-- The two walks.
pub walks-beside : (heads values : List ℕ) → length heads ≡ length values → WalksBeside heads values
walks-beside heads values same = record { accepts = accepts; accepted = accepted; refuses = refuses }
  where
    accepts : (walk shape_of heads values).refusal ≡ 0 → NoneRetired heads → walk write_shape_of heads values ≡ no_refusal
    accepts z none =
        walk-yes write_shape_of 0 heads values same
        (λ j l. of_other (get_or heads j 0) (get_or values j 0) (λ r. none j (l, r)) ∙ walk-clear shape_of heads values same z j l)

    accepted : (walk write_shape_of heads values).refusal ≡ 0 → (walk shape_of heads values ≡ no_refusal) × NoneRetired heads
    accepted z =
        let each = walk-clear write_shape_of heads values same z in
        let none : NoneRetired heads = λ p r. not-retired (get_or heads p 0) (get_or values p 0) (each p r.0) r.1 in (
          walk-yes shape_of 0 heads values same (λ j l. sym (of_other (get_or heads j 0) (get_or values j 0) (λ r. none j (l, r))) ∙ each j l),
          none,
        )

    refuses : (walk shape_of heads values).refusal ≡ 0 → (p : ℕ) → FirstRetired heads p → walk write_shape_of heads values ≡ verdict 27 p
    refuses z p first =
        walk_ends write_shape_of heads values p 26 same first.0.0 (of-retired (get_or heads p 0) (get_or values p 0) first.0.1)
        (λ j l.
        let in-heads : j < length heads = omega (arith, first.0.0) in
        of_other (get_or heads j 0) (get_or values j 0) (λ r. first.1 j l (in-heads, r)) ∙ walk-clear shape_of heads values same z j in-heads)

pub writes-none-retired : WritesNoneRetired
writes-none-retired sources heads values space z = let w = writable sources heads values space z in ((walks-beside heads values w.same).accepted w.events).1
