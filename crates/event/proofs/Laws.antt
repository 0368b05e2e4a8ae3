-- Questions 6 and 7 of an event by the rules' table, and which fails first.
use Prim.Native.Nat.{ℕ, ◌<◌, ◌≤◌}
use mathlib.Core.Path.{◌≡◌, refl}
use mathlib.Core.Bool.{Bool, true, false, cond, ◌&&◌, ◌||◌}
use mathlib.Core.Logic.{◌⊎◌, inl, inr}
use native.Mathlib.Omega.{arith}
use lib.ListN.{length}
use lib.Dec.{lit≤, eqb}
use borrow.Author.Tests.{le-ltb, ltb-true, ltb-false}
use Rattle.event.specs.Kinds as kind
use Rattle.event.specs.Kinds.{number_of_kind}
use Rattle.event.specs.Event.{uses, kinds, kind_of, address_of, head_of, is_kind, row_of, unused_are_zero, shape_of, ErrorShape, CommitShape, LookShape, ChainShape}

-- A kind is printed in at most two digits.
pub kinds-two-digits : length kinds ≤ 100
kinds-two-digits = lit≤ tt

pub shape-6 : (head value : ℕ) → length kinds ≤ kind_of head → 6 ≡ shape_of head value
unfolding shape_of
shape-6 head value h = rw (le-ltb _ _ h)

-- An event that passes question 6 is of a kind that has a row.
pub kind-known : (head value : ℕ) → shape_of head value ≡ 0 → kind_of head < length kinds
kind-known head value e = go (is_kind (kind_of head)) refl
  where
    go : (t : Bool) → is_kind (kind_of head) ≡ t → kind_of head < length kinds
    go true t = ltb-true (kind_of head) (length kinds) t
    go false t = let six = shape-6 head value (ltb-false (kind_of head) (length kinds) t) in absurd (omega (arith, six, e))

-- The number of an event that fails is that of its first no: 6 where it is of no kind, else 7.
abbrev pub FirstNo : Bool → Bool → ℕ → Type 0
FirstNo six seven q = ((six ≡ false) × (q ≡ 6)) ⊎ ((six ≡ true) × (seven ≡ false) × (q ≡ 7))

pub first-question : (head value : ℕ) → (shape_of head value ≡ 0 → ⊥)
    → FirstNo (is_kind (kind_of head)) (unused_are_zero (kind_of head) (address_of head) value) (shape_of head value)
unfolding shape_of
first-question head value = go (is_kind (kind_of head)) (unused_are_zero (kind_of head) (address_of head) value)
  where
    go : (six seven : Bool) → (◌≡◌ {A = ℕ} (cond six (cond seven 0 7) 6) 0 → ⊥) → FirstNo six seven (cond six (cond seven 0 7) 6)
    go true true h = absurd (h refl)
    go true false h = inr (refl, refl, refl)
    go false seven h = inl (refl, refl)

-- A kind with this row.
of_row : (k : ℕ) (address value : Bool) → is_kind k ≡ true → row_of k ≡ uses address value → (head v : ℕ) → kind_of head ≡ k
    → shape_of head v ≡ cond ((address || eqb (address_of head) 0) && (value || eqb v 0)) 0 7
unfolding shape_of
of_row k address value i r head v e = rw (e, i, r)

pub error-shape : ErrorShape
error-shape = of_row kind.error true false refl refl

pub commit-shape : CommitShape
commit-shape = of_row kind.commit true false refl refl

pub look-shape : LookShape
look-shape = of_row kind.look false false refl refl

pub chain-shape : ChainShape
chain-shape = of_row kind.chain false false refl refl

-- The kind and the address of a head that is made of them.
pub kind-of : (k a : ℕ) → a < 65536 → kind_of (head_of k a) ≡ k
kind-of k a h = omega (arith, h)

pub address-of : (k a : ℕ) → a < 65536 → address_of (head_of k a) ≡ a
address-of k a h = omega (arith, h)
