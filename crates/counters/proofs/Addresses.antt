-- The CSR at an address is the one whose address it is.
use Prim.Native.Nat.{ℕ, ◌+◌, ◌-◌, ◌*◌, ◌/◌, ◌%◌, ◌≤◌, ◌<◌}
use mathlib.Core.Path.{◌≡◌, refl, ◌∙◌}
use mathlib.Core.Bool.{Bool, true, false, cond, ◌&&◌}
use mathlib.Core.Logic.{◌⊎◌, inl, inr, ⊎_elim}
use native.Mathlib.Omega.{arith}
use lib.Dec.{leb, ltb, eqb}
use borrow.Author.Tests.{ltb-true, lt-ltb, le-ltb, le-leb, eqb-true, eqb-false}
use Rattle.pic_source.proofs.Bools.{never}
use Rattle.std.specs.Prelude.{Option, Some, None}
use Rattle.counters.specs.declared.Csr.{Csr}
use Rattle.counters.specs.declared.Csr.TheVariants.{Mitcnt, Mitb, Mitctl, Ect}
use Rattle.counters.specs.Csrs.{csr_address, is_csr, csr_of, csr_at}
use Rattle.counters.proofs.Testing.{in-range}

-- The CSR of timer i, k places on.
at_place : (i k a : ℕ) → i < 2 → k < 3 → a ≡ 0x7D2 + 3 * i + k → csr_at a ≡ Some (csr_of i k)
unfolding csr_at
at_place i k a h l e =
    let p : (a - 0x7D2) / 3 ≡ i = omega arith in
    let q : (a - 0x7D2) % 3 ≡ k = omega arith in
    rw (le-leb 0x7D2 a (omega arith), lt-ltb a 0x7D8 (omega arith), p, q)

-- The CSR of error counter i.
at-error : (i a : ℕ) → i < 3 → a ≡ 0x7F0 + i → csr_at a ≡ Some (Ect i)
unfolding csr_at
at-error i a h e =
    let p : a - 0x7F0 ≡ i = omega arith in
    rw (le-leb 0x7D2 a (omega arith), le-ltb a 0x7D8 (omega arith), le-leb 0x7F0 a (omega arith), lt-ltb a 0x7F3 (omega arith), p)

pub address-csr : (r : Csr) → is_csr (Some r) ≡ true → csr_at (csr_address r) ≡ Some r
unfolding csr_of
address-csr (Mitcnt i) e = at_place i 0 (csr_address (Mitcnt i)) (ltb-true i 2 e) (omega arith) (omega arith)
address-csr (Mitb i) e = at_place i 1 (csr_address (Mitb i)) (ltb-true i 2 e) (omega arith) (omega arith)
address-csr (Mitctl i) e = at_place i 2 (csr_address (Mitctl i)) (ltb-true i 2 e) (omega arith) (omega arith)
address-csr (Ect i) e = at-error i (csr_address (Ect i)) (ltb-true i 3 e) refl

-- There is such a CSR, and its address is a.
abbrev Stands : ℕ → Csr → Type 0
Stands a r = (is_csr (Some r) ≡ true) × (csr_address r ≡ a)

of-place : (i k : ℕ) → i < 2 → k < 3 → Stands (0x7D2 + 3 * i + k) (csr_of i k)
unfolding csr_of
of-place i k h l = go (eqb k 0) refl (eqb k 1) refl
  where
    go : (s : Bool) → eqb k 0 ≡ s → (t : Bool) → eqb k 1 ≡ t → Stands (0x7D2 + 3 * i + k) (cond s (Mitcnt i) (cond t (Mitb i) (Mitctl i)))
    go true e t f = let z = eqb-true k 0 e in (lt-ltb i 2 h, omega arith)
    go false e true f = let z = eqb-true k 1 f in (lt-ltb i 2 h, omega arith)
    go false e false f =
        let y = eqb-false k 0 e in
        let z = eqb-false k 1 f in
        (lt-ltb i 2 h, omega (arith, y, z))

-- The rows of addresses: those of the timers, and those of the error counters.
abbrev InRow : ℕ → ℕ → ℕ → Type 0
InRow l a h = (l ≤ a) × (a < h)

-- An address is in the first row, in the second, or in neither.
rows : (a : ℕ) (P : Option Csr → Type 0) → (InRow 0x7D2 a 0x7D8 → P (Some (csr_of ((a - 0x7D2) / 3) ((a - 0x7D2) % 3))))
    → (InRow 0x7F0 a 0x7F3 → P (Some (Ect (a - 0x7F0)))) → P None → P (csr_at a)
unfolding csr_at
rows a P f g n = go (leb 0x7D2 a && ltb a 0x7D8) refl (leb 0x7F0 a && ltb a 0x7F3) refl
  where
    go : (s : Bool) → leb 0x7D2 a && ltb a 0x7D8 ≡ s → (t : Bool) → leb 0x7F0 a && ltb a 0x7F3 ≡ t
        → P (cond s (Some (csr_of ((a - 0x7D2) / 3) ((a - 0x7D2) % 3))) (cond t (Some (Ect (a - 0x7F0))) None))
    go true h t k = f (in-range 0x7D2 a 0x7D8 h)
    go false h true k = g (in-range 0x7F0 a 0x7F3 k)
    go false h false k = n

pub csr-address : (a : ℕ) (r : Csr) → csr_at a ≡ Some r → Stands a r
csr-address a r =
    rows a (λ q. q ≡ Some r → Stands a r)
    (λ l f.
    let p = of-place ((a - 0x7D2) / 3) ((a - 0x7D2) % 3) (omega (arith, l.0, l.1)) (omega arith) in
    rw (← is f) (p.0, p.1 ∙ omega (arith, l.0, l.1)))
    (λ l f. rw (← is f) (lt-ltb (a - 0x7F0) 3 (omega (arith, l.0, l.1)), omega (arith, l.0)))
    (λ f. none f)
  where
    is : {q : Csr} → Some q ≡ Some r → q ≡ r
    is f = cc

    none : None ≡ Some r → Stands a r
    none f = cc

-- Which addresses these are.
pub in_a_row : (a : ℕ) → is_csr (csr_at a) ≡ true → InRow 0x7D2 a 0x7D8 ⊎ InRow 0x7F0 a 0x7F3
in_a_row a = rows a (λ q. is_csr q ≡ true → InRow 0x7D2 a 0x7D8 ⊎ InRow 0x7F0 a 0x7F3) (λ l e. inl l) (λ l e. inr l) (λ e. never e)

pub none_above : (a : ℕ) → 0x7F3 ≤ a → is_csr (csr_at a) ≡ false
none_above a h = go (is_csr (csr_at a)) refl
  where
    go : (t : Bool) → is_csr (csr_at a) ≡ t → t ≡ false
    go true e = ⊎_elim (λ l. absurd (omega (arith, h, l.1))) (λ l. absurd (omega (arith, h, l.1))) (in_a_row a e)
    go false e = refl
