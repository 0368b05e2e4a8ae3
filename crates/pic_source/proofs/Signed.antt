-- Signed numbers: how far a sum, a difference and a product are from 0, and that the code's 32 bits hold them.
use Prim.Native.Nat.{ℕ, zero, suc, ◌+◌, ◌*◌, ◌-◌, ◌^◌, ◌≤◌, ◌<◌}
use mathlib.Core.Path.{◌≡◌, refl, ap}
use mathlib.Core.Bool.{Bool, true, false}
use native.Mathlib.Nat.{mul-le-mul, mul-one}
use native.Mathlib.Omega.{arith}
use borrow.Author.Tests.{lt-ltb, le-ltb, le-leb, ltb-true}
use lib.Dec.{ltb, lit<}
use lib.IntN.{ℤ, pos, negsuc, sub_ℕ, neg_ℤ, nat_abs, ◌+ℤ◌, ◌-ℤ◌, ◌*ℤ◌, *ℤ-zero}
use lib.Signed.{le_z}
use mir.Val.{SFits, to_z, of_z, bool_byte}
use mir.Syntax.{w32}
use mir.Facts.{to_z_pos, to_z-of_z}

-- The difference of two naturals, by which of them is the larger.
pub not-less : (a b : ℕ) → b ≤ a → pos a -ℤ pos b ≡ pos (a - b)
not-less a zero h = ap pos (omega arith)
not-less a (suc n) h = rw (le-ltb a (suc n) h)

pub less : (a b : ℕ) → a < b → pos a -ℤ pos b ≡ negsuc (b - suc a)
less a zero h = absurd (omega arith)
less a (suc n) h = rw (lt-ltb a (suc n) h)

away-neg : (z : ℤ) → nat_abs (neg_ℤ z) ≡ nat_abs z
away-neg (pos zero) = refl
away-neg (pos (suc n)) = refl
away-neg (negsuc n) = refl

away-sub : (a b : ℕ) → nat_abs (sub_ℕ a b) ≤ a + b
away-sub a b = go (ltb a b) refl
  where
    go : (t : Bool) → ltb a b ≡ t → nat_abs (sub_ℕ a b) ≤ a + b
    go true e = let h : a < b = ltb-true a b e in rw e (omega arith)
    go false e = rw e (omega arith)

away-sum : (u v : ℤ) → nat_abs (u +ℤ v) ≤ nat_abs u + nat_abs v
away-sum (pos a) (pos b) = omega arith
away-sum (pos a) (negsuc b) = away-sub a (suc b)
away-sum (negsuc a) (pos b) = omega (arith, away-sub b (suc a))
away-sum (negsuc a) (negsuc b) = omega arith

away-product : (u v : ℤ) → nat_abs (u *ℤ v) ≡ nat_abs u * nat_abs v
away-product (pos a) (pos b) = refl
away-product (pos a) (negsuc b) = away-neg (pos (a * suc b))
away-product (negsuc a) (pos b) = away-neg (pos (suc a * b))
away-product (negsuc a) (negsuc b) = refl

-- A number x that the code reads from 32 bits is z, at most k away from 0.
pub record Exact (k : ℕ) (x z : ℤ) : Type 0 where
  pub is : x ≡ z
  pub near : nat_abs z ≤ k

-- What an operation of the code computes fits 32 bits, and is read from them as it is.
pub record Fitting (k : ℕ) (x z : ℤ) : Type 0 where
  pub fits : SFits w32 x
  pub exact : Exact k (to_z w32 (of_z w32 x)) z

pub literal : (n : ℕ) → Exact n (pos n) (pos n)
literal n = record { is = refl; near = omega arith }

pub byte : (n : ℕ) → n < 256 → Exact 255 (to_z w32 n) (pos n)
byte n h = record { is = to_z_pos w32 {n = n} (omega arith); near = omega arith }

fitting : (k : ℕ) (x z : ℤ) → x ≡ z → nat_abs z ≤ k → k < 2 ^ 31 → Fitting k x z
fitting k x z e h l = let f : SFits w32 x = rw e (held z h) in record { fits = f; exact = record { is = rw (to_z-of_z f) e; near = h } }
  where
    held : (z : ℤ) → nat_abs z ≤ k → SFits w32 z
    held (pos n) h = record { sfits = omega arith }
    held (negsuc n) h = record { sfits = omega arith }

module _ {a b : ℕ} {x y u v : ℤ} (h : Exact a x u) (i : Exact b y v) where
  pub sum : a + b < 2 ^ 31 → Fitting (a + b) (x +ℤ y) (u +ℤ v)
  sum = fitting (a + b) (x +ℤ y) (u +ℤ v) (rw (h.is, i.is)) (omega (arith, away-sum u v))

  pub difference : a + b < 2 ^ 31 → Fitting (a + b) (x -ℤ y) (u -ℤ v)
  difference = fitting (a + b) (x -ℤ y) (u -ℤ v) (rw (h.is, i.is)) (omega (arith, away-sum u (neg_ℤ v), away-neg v))

  pub product : a * b < 2 ^ 31 → Fitting (a * b) (x *ℤ y) (u *ℤ v)
  product = fitting (a * b) (x *ℤ y) (u *ℤ v) (rw (h.is, i.is)) (rw (away-product u v) (mul-le-mul h.near i.near))

-- A number that is not below 0 is kept, and one below 0 is 0.
abbrev pub kept : ℤ → ℕ
kept (pos n) = n
kept (negsuc n) = 0

flag : (t : Bool) → Exact 1 (to_z w32 (bool_byte t)) (pos (bool_byte t))
flag true = record { is = refl; near = omega arith }
flag false = record { is = refl; near = omega arith }

times-flag : (z : ℤ) → z *ℤ pos (bool_byte (le_z (pos 0) z)) ≡ pos (kept z)
times-flag (pos n) = rw (le-leb 0 n (omega arith)) (ap pos (mul-one n))
times-flag (negsuc n) = *ℤ-zero (negsuc n)

-- So the code keeps z: it multiplies it by whether it is not below 0.
pub keeping : (z : ℤ) → nat_abs z ≤ 255
    → Fitting 255 (to_z w32 (of_z w32 z) *ℤ to_z w32 (bool_byte (le_z (pos 0) (to_z w32 (of_z w32 z))))) (pos (kept z))
keeping z h =
    let x = (fitting 255 z z refl h (lit< tt)).exact in
    let e : z *ℤ pos (bool_byte (le_z (pos 0) (to_z w32 (of_z w32 z)))) ≡ pos (kept z) = rw x.is (times-flag z) in
    rw (← e) (product x (flag (le_z (pos 0) (to_z w32 (of_z w32 z)))) (lit< tt))
