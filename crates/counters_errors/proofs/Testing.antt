-- What the code's questions show, in the words of the rules.
use Prim.Native.Nat.{ℕ, ◌≤◌}
use mathlib.Core.Path.{◌≡◌, refl}
use mathlib.Core.Bool.{Bool, true, false, cond}
use native.Mathlib.Omega.{arith}
use lib.Dec.{leb}
use borrow.Author.Tests.{leb-true}
use Rattle.counters_errors.specs.Errors.{held_threshold}

-- A threshold that is held is at most 26.
pub held_small : (t : ℕ) {h : ℕ} → h ≡ held_threshold t → h ≤ 26
held_small t {h} e = go (leb t 26) refl e
  where
    go : (z : Bool) → leb t 26 ≡ z → h ≡ cond z t 26 → h ≤ 26
    go true l f = let k = leb-true t 26 l in omega (arith, f, k)
    go false l f = omega (arith, f)
