-- The register at an offset is the one whose offset it is.
use Prim.Native.Nat.{ℕ, ◌+◌, ◌*◌, ◌/◌, ◌%◌, ◌≤◌, ◌<◌}
use mathlib.Core.Path.{◌≡◌, refl, sym, ap, ◌∙◌}
use mathlib.Core.Bool.{Bool, true, false, cond}
use native.Mathlib.Omega.{arith}
use lib.Dec.{eqb, ltb}
use borrow.Author.Tests.{eqb-true, ltb-true, lt-ltb}
use Rattle.std.specs.Prelude.{Some, None}
use Rattle.pic_registers.specs.declared.Register.{Register}
use Rattle.pic_registers.specs.declared.Register.TheVariants.{Meipl, Meip, Meie, Mpiccfg, Meigwctrl, Meigwclr}
use Rattle.pic_source.specs.Sources.{is_source}
use Rattle.pic_registers.specs.Offsets.{offset_of, is_register, source_register, page_register, register_at, offset_refusal}
use Rattle.pic_source.proofs.Ranges.{source-range}

-- A register that is there is one, and the one that it is.
no-some : {r : Register} → Some r ≡ None → ⊥
no-some f = cc

some-is : {q r : Register} → Some q ≡ Some r → q ≡ r
some-is f = cc

-- The page and the word of an offset in it.
at-page : (n p i : ℕ) (o : ℕ) → i < 1024 → o ≡ 4096 * p + 4 * i → register_at n o ≡ page_register n p i
at-page n p i o h e =
    let a : o / 4096 ≡ p = omega arith in
    let b : o % 4096 / 4 ≡ i = omega arith in
    rw (a, b)

-- The register of an offset of 01's table.
pub offset-register : (n : ℕ) → n ≤ 255 → (r : Register) → is_register n (Some r) ≡ true → register_at n (offset_of r) ≡ Some r
unfolding page_register source_register
offset-register n h (Meipl s) e = let r = source-range n s e in at-page n 0 s (4 * s) (omega arith) (omega arith) ∙ rw e
offset-register n h (Meip x) e = let l = ltb-true x 8 e in at-page n 1 x (0x1000 + 4 * x) (omega arith) (omega arith) ∙ rw e
offset-register n h (Meie s) e = let r = source-range n s e in at-page n 2 s (0x2000 + 4 * s) (omega arith) (omega arith) ∙ rw e
offset-register n h Mpiccfg e = refl
offset-register n h (Meigwctrl s) e = let r = source-range n s e in at-page n 4 s (0x4000 + 4 * s) (omega arith) (omega arith) ∙ rw e
offset-register n h (Meigwclr s) e = let r = source-range n s e in at-page n 5 s (0x5000 + 4 * s) (omega arith) (omega arith) ∙ rw e

-- The offset of the register at a multiple of four.
pub register-offset : (n o : ℕ) (r : Register) → o % 4 ≡ 0 → register_at n o ≡ Some r → offset_of r ≡ o
unfolding page_register source_register
register-offset n o r m e =
    paged (eqb (o / 4096) 1) refl (ltb (o % 4096 / 4) 8) (eqb (o / 4096) 3) refl (eqb (o % 4096 / 4) 0) refl (is_source n (o % 4096 / 4))
    (eqb (o / 4096) 0) refl (eqb (o / 4096) 2) refl (eqb (o / 4096) 4) refl (eqb (o / 4096) 5) refl e
  where
    is : {q : Register} → Some q ≡ Some r → offset_of q ≡ o → offset_of r ≡ o
    is f g = ap offset_of (sym (some-is f)) ∙ g

    none : {A : Type 0} → None ≡ Some r → A
    none f = absurd (no-some (sym f))

    paged : (a : Bool) → eqb (o / 4096) 1 ≡ a → (b : Bool) → (k : Bool) → eqb (o / 4096) 3 ≡ k → (z : Bool) → eqb (o % 4096 / 4) 0 ≡ z → (s : Bool)
        → (p0 : Bool) → eqb (o / 4096) 0 ≡ p0 → (p2 : Bool) → eqb (o / 4096) 2 ≡ p2 → (p4 : Bool) → eqb (o / 4096) 4 ≡ p4 → (p5 : Bool) → eqb (o / 4096) 5 ≡ p5
        → cond a (cond b (Some (Meip (o % 4096 / 4))) None)
        (cond k (cond z (Some Mpiccfg) None)
        (cond s
        (cond p0 (Some (Meipl (o % 4096 / 4))) (cond p2 (Some (Meie (o % 4096 / 4))) (cond p4 (Some (Meigwctrl (o % 4096 / 4))) (cond p5 (Some (Meigwclr (o % 4096 / 4))) None))))
        None))
        ≡ Some r
        → offset_of r ≡ o
    paged true ha true k hk z hz s p0 h0 p2 h2 p4 h4 p5 h5 f = let h = eqb-true (o / 4096) 1 ha in is f (omega arith)
    paged true ha false k hk z hz s p0 h0 p2 h2 p4 h4 p5 h5 f = none f
    paged false ha b true hk true hz s p0 h0 p2 h2 p4 h4 p5 h5 f =
        let h = eqb-true (o / 4096) 3 hk in
        let i = eqb-true (o % 4096 / 4) 0 hz in
        is f (omega arith)
    paged false ha b true hk false hz s p0 h0 p2 h2 p4 h4 p5 h5 f = none f
    paged false ha b false hk z hz true true h0 p2 h2 p4 h4 p5 h5 f = let h = eqb-true (o / 4096) 0 h0 in is f (omega arith)
    paged false ha b false hk z hz true false h0 true h2 p4 h4 p5 h5 f = let h = eqb-true (o / 4096) 2 h2 in is f (omega arith)
    paged false ha b false hk z hz true false h0 false h2 true h4 p5 h5 f = let h = eqb-true (o / 4096) 4 h4 in is f (omega arith)
    paged false ha b false hk z hz true false h0 false h2 false h4 true h5 f = let h = eqb-true (o / 4096) 5 h5 in is f (omega arith)
    paged false ha b false hk z hz true false h0 false h2 false h4 false h5 f = none f
    paged false ha b false hk z hz false p0 h0 p2 h2 p4 h4 p5 h5 f = none f

-- What is at an offset is a register that the controller can have.
source-valid : (n page s : ℕ) → is_source n s ≡ true → is_register n (source_register page s) ≡ true
unfolding source_register
source-valid n page s h = go (eqb page 0) (eqb page 2) (eqb page 4) (eqb page 5)
  where
    go : (a b d e : Bool)
        → is_register n (cond a (Some (Meipl s)) (cond b (Some (Meie s)) (cond d (Some (Meigwctrl s)) (cond e (Some (Meigwclr s)) None)))) ≡ true
    go true b d e = h
    go false true d e = h
    go false false true e = h
    go false false false true = h
    go false false false false = refl

pub register-valid : (n offset : ℕ) → is_register n (register_at n offset) ≡ true
unfolding page_register
register-valid n offset =
    go (eqb (offset / 4096) 1) (ltb (offset % 4096 / 4) 8) refl (eqb (offset / 4096) 3) (eqb (offset % 4096 / 4) 0)
    (is_source n (offset % 4096 / 4)) refl
  where
    go : (a b : Bool) → ltb (offset % 4096 / 4) 8 ≡ b → (d e f : Bool) → is_source n (offset % 4096 / 4) ≡ f
        → is_register n
        (cond a (cond b (Some (Meip (offset % 4096 / 4))) None)
        (cond d (cond e (Some Mpiccfg) None) (cond f (source_register (offset / 4096) (offset % 4096 / 4)) None)))
        ≡ true
    go true true p d e f q = p
    go true false p d e f q = refl
    go false b p true true f q = refl
    go false b p true false f q = refl
    go false b p false e true q = source-valid n (offset / 4096) (offset % 4096 / 4) q
    go false b p false e false q = refl

-- meiplS is at 4 × S, which passes 10 and 11.
pub meipl-at : (n s : ℕ) → n ≤ 255 → is_source n s ≡ true → register_at n (4 * s) ≡ Some (Meipl s)
meipl-at n s h i = offset-register n h (Meipl s) i

pub meipl-accepted : (n s : ℕ) → n ≤ 255 → is_source n s ≡ true → offset_refusal (4 * s) ≡ 0
unfolding offset_refusal
meipl-accepted n s h i =
    let r = source-range n s i in
    let m : 4 * s % 4 ≡ 0 = omega arith in
    rw (lt-ltb (4 * s) 0x8000 (omega arith), m)

-- An offset that passes 10 and 11 is a multiple of 4.
pub aligned : (o : ℕ) → offset_refusal o ≡ 0 → o % 4 ≡ 0
unfolding offset_refusal
aligned o = go (ltb o 0x8000) (eqb (o % 4) 0) refl
  where
    go : (t u : Bool) → eqb (o % 4) 0 ≡ u → ◌≡◌ {A = ℕ} (cond t (cond u 0 11) 10) 0 → o % 4 ≡ 0
    go true true f z = eqb-true (o % 4) 0 f
    go true false f z = absurd (omega arith)
    go false u f z = absurd (omega arith)
