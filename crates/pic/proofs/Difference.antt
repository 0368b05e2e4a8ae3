-- The difference of two ranks: from −15 to 15, and above 0 just where the first is the larger.
use Rattle.std.proofs.Common.{◌≡◌, ℕ, suc, ◌-◌, ◌<◌, ◌≤◌, Bool, true, false, ltb, ℤ, pos, negsuc, ◌-ℤ◌, refl, arith, ltb-false, ltb-true, le-ltb, lt-ltb, le-leb}
use lib.Signed.{lt_z, le_z}
use Rattle.pic_source.specs.declared.Rank.{Rank}
use Rattle.pic_source.proofs.Signed.{not-less, less}
use Rattle.pic.specs.Sources.{difference_of}

-- The difference is above 0 just where the first number is above the second.
pub above : (a b : ℕ) → lt_z (pos 0) (pos a -ℤ pos b) ≡ ltb b a
above a b = go (ltb a b) refl
  where
    same : (t : Bool) → ltb b a ≡ t → b ≤ a → ltb 0 (a - b) ≡ ltb b a
    same true e h = let l : b < a = ltb-true b a e in rw (e, lt-ltb 0 (a - b) (omega arith))
    same false e h = let l : a ≤ b = ltb-false b a e in rw (e, le-ltb 0 (a - b) (omega arith))

    go : (t : Bool) → ltb a b ≡ t → lt_z (pos 0) (pos a -ℤ pos b) ≡ ltb b a
    go true e = let h : a < b = ltb-true a b e in rw (less a b h, le-ltb b a (omega arith))
    go false e = let h : b ≤ a = ltb-false a b e in rw (not-less a b h) (same (ltb b a) refl h)

-- −15 and 15.
abbrev pub Small : ℤ → Type 0
Small z = (le_z (negsuc 14) z ≡ true) × (le_z z (pos 15) ≡ true)

pub difference-small : (a b : Rank) → a.0 ≤ 15 → b.0 ≤ 15 → Small (difference_of a b)
unfolding difference_of
difference-small a b ha hb = go (ltb a.0 b.0) refl
  where
    go : (t : Bool) → ltb a.0 b.0 ≡ t → Small (difference_of a b)
    go true e = let l = ltb-true a.0 b.0 e in rw (less a.0 b.0 l) (le-leb (b.0 - suc a.0) 14 (omega arith), refl)
    go false e = let l = ltb-false a.0 b.0 e in rw (not-less a.0 b.0 l) (refl, le-leb (a.0 - b.0) 15 (omega arith))
