-- The larger of two ranks.
use Rattle.std.proofs.Common.{◌≡◌, ℕ, ◌≤◌, Bool, true, false, cond, ltb, refl, arith, ltb-false, ltb-true}
use Rattle.pic_source.specs.declared.Rank.{Rank}
use Rattle.pic.specs.Sources.{higher_of}

-- The larger of two ranks is one of them, and neither is above it.
pub record Larger (a b r : Rank) : Type 0 where
  pub first : a.0 ≤ r.0
  pub second : b.0 ≤ r.0
  pub bounded : (m : ℕ) → a.0 ≤ m → b.0 ≤ m → r.0 ≤ m

pub higher-is : (a b : Rank) → Larger a b (higher_of a b)
unfolding higher_of
higher-is a b = go (ltb a.0 b.0) refl
  where
    go : (t : Bool) → ltb a.0 b.0 ≡ t → Larger a b (cond t b a)
    go true e = let l = ltb-true a.0 b.0 e in record { first = omega arith; second = omega arith; bounded = λ m p q. q }
    go false e = let l = ltb-false a.0 b.0 e in record { first = omega arith; second = l; bounded = λ m p q. p }
