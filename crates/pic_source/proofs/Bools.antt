-- Tests joined by `and`, `or` and `all_hold`, taken apart and put together.
use Prim.Native.Nat.{ℕ, zero, suc, ◌≤◌, ◌<◌}
use mathlib.Core.Path.{◌≡◌, refl}
use mathlib.Core.Bool.{Bool, true, false, ◌&&◌, ◌||◌}
use mathlib.Core.List.{List, [], ◌∷◌}
use mathlib.Core.Logic.{◌⊎◌, inl, inr, ⊎_elim}
use native.Mathlib.Omega.{arith}
use lib.ListN.{get_or}
use Rattle.std.proofs.lemmas.Bool.{and_parts, cases_lt}
use Rattle.pic_source.specs.Tests.{all_hold, all_from}

pub never : {A : Type 0} → false ≡ true → A
never e = let z : ◌≡◌ {A = ℕ} 0 1 = cc in absurd (omega arith)

pub or-intro : (a b : Bool) → (a ≡ true) ⊎ (b ≡ true) → (a || b) ≡ true
or-intro true b h = refl
or-intro false b (inl h) = never h
or-intro false b (inr h) = h

pub le-cases : (a b : ℕ) → (a ≤ b) ⊎ (b < a)
le-cases a b = ⊎_elim (λ e. inr e) (λ e. inl e) (cases_lt b a)

all-from : (a : Bool) (bs : List Bool) → all_from a bs ≡ true → (a ≡ true) × ((i : ℕ) → get_or bs i true ≡ true)
all-from a [] e = (e, λ i. refl)
all-from a (b ∷ bs) e =
    let r = all-from (a && b) bs e in
    let p = and_parts a b r.0 in
    (p.0, at p.1 r.1)
  where
    at : b ≡ true → ((i : ℕ) → get_or bs i true ≡ true) → (i : ℕ) → get_or (b ∷ bs) i true ≡ true
    at p r zero = p
    at p r (suc i) = r i

-- Test i of a list whose tests all hold.
pub all-at : (bs : List Bool) → all_hold bs ≡ true → (i : ℕ) → get_or bs i true ≡ true
all-at [] e i = refl
all-at (b ∷ bs) e zero = (all-from b bs e).0
all-at (b ∷ bs) e (suc i) = (all-from b bs e).1 i
