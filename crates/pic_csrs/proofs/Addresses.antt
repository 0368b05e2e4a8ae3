-- The CSR at an address is the one whose address it is.
use Rattle.std.proofs.Common.{◌≡◌, ℕ, Bool, true, false, cond, eqb, Option, Some, None, refl, sym, ap, ◌∙◌, eqb-true}
use Rattle.pic_csrs.specs.declared.Csr.{Csr}
use Rattle.pic_csrs.specs.declared.Csr.TheVariants.{Meivt, Meipt, Meicpct, Meicidpl, Meicurpl, Meihap}
use Rattle.pic_csrs.specs.Addresses.{csr_address, csr_at}

-- The CSR of an address of 01's table, and the address of the CSR that it has.
pub address-csr : (r : Csr) → csr_at (csr_address r) ≡ Some r
unfolding csr_at
address-csr Meivt = refl
address-csr Meipt = refl
address-csr Meicpct = refl
address-csr Meicidpl = refl
address-csr Meicurpl = refl
address-csr Meihap = refl

pub csr-address : (a : ℕ) (r : Csr) → csr_at a ≡ Some r → a ≡ csr_address r
unfolding csr_at
csr-address a r =
    one 0xBC8 Meivt refl (one 0xBC9 Meipt refl (one 0xBCA Meicpct refl (one 0xBCB Meicidpl refl (one 0xBCC Meicurpl refl (one 0xFC8 Meihap refl none)))))
  where
    none : None ≡ Some r → a ≡ csr_address r
    none f = cc

    is : {q : Csr} → Some q ≡ Some r → q ≡ r
    is f = cc

    -- one address of the table, and then the rest
    one : (k : ℕ) (q : Csr) {rest : Option Csr} → csr_address q ≡ k → (rest ≡ Some r → a ≡ csr_address r) → cond (eqb a k) (Some q) rest ≡ Some r → a ≡ csr_address r
    one k q {rest} g i = go (eqb a k) refl
      where
        go : (t : Bool) → eqb a k ≡ t → cond t (Some q) rest ≡ Some r → a ≡ csr_address r
        go true h f = eqb-true a k h ∙ sym g ∙ ap csr_address (is f)
        go false h f = i f

-- The CSR at an address is not another one.
pub not-at : (a : ℕ) (r q : Csr) → csr_at a ≡ Some r → (q ≡ r → ⊥) → eqb a (csr_address q) ≡ false
not-at a r q e d = go (eqb a (csr_address q)) refl
  where
    is : Some q ≡ Some r → q ≡ r
    is f = cc

    go : (t : Bool) → eqb a (csr_address q) ≡ t → t ≡ false
    go false f = refl
    go true f = absurd (d (is (sym (address-csr q) ∙ ap csr_at (sym (eqb-true a (csr_address q) f)) ∙ e)))
