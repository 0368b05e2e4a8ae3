-- Ranks and fields: the mirror done twice gives the number back, and keeps 0..15.
use Prim.Native.Nat.{ℕ, zero, suc, ◌-◌, ◌%◌, ◌≤◌}
use mathlib.Core.Path.{◌≡◌, refl, ap}
use mathlib.Core.Bool.{Bool, true, false, cond}
use native.Mathlib.Omega.{arith}
use lib.Dec.{eqb}
use Rattle.pic_source.specs.declared.Rank.{Rank}
use Rattle.pic_source.specs.declared.Field.{Field}
use Rattle.pic_source.specs.Ranks.{rank, field, mirror, field_of, rank_of}

pub mirror-twice : (priord n : ℕ) → n ≤ 15 → mirror priord (mirror priord n) ≡ n
unfolding mirror
mirror-twice priord n h = go (eqb priord 0)
  where
    go : (t : Bool) → cond t (cond t n (15 - n)) (15 - cond t n (15 - n)) ≡ n
    go true = refl
    go false = omega arith

pub mirror-small : (priord n : ℕ) → n ≤ 15 → mirror priord n ≤ 15
unfolding mirror
mirror-small priord n h = go (eqb priord 0)
  where
    go : (t : Bool) → cond t n (15 - n) ≤ 15
    go true = h
    go false = omega arith

-- A rank's field has that rank, and a field's rank has that field.
pub rank-of-field : (priord : ℕ) (r : Rank) → r.0 ≤ 15 → rank_of priord (field_of priord r) ≡ r
rank-of-field priord r h = ap rank (mirror-twice priord r.0 h)

pub field-of-rank : (priord : ℕ) (f : Field) → f.0 ≤ 15 → field_of priord (rank_of priord f) ≡ f
field-of-rank priord f h = ap field (mirror-twice priord f.0 h)

-- A rank's field is written in bits 3:0 and held as it is.
pub field-written : (priord : ℕ) (r : Rank) → r.0 ≤ 15 → field ((field_of priord r).0 % 16) ≡ field_of priord r
field-written priord r h =
    let s : mirror priord r.0 % 16 ≡ mirror priord r.0 = omega (arith, mirror-small priord r.0 h) in
    ap field s

-- The other order gives 15 less the rank.
pub mirror-other : (priord n : ℕ) → priord ≤ 1 → n ≤ 15 → mirror (1 - priord) n ≡ 15 - mirror priord n
unfolding mirror
mirror-other zero n p h = refl
mirror-other (suc zero) n p h = omega arith
mirror-other (suc (suc k)) n p h = absurd (omega arith)
