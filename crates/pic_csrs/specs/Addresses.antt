-- Document 01, "Events and registers": the addresses of the CSRs.
use Rattle.std.specs.Prelude.{ℕ, Bool, true, false, cond, eqb, Option, Some, None}
use Rattle.pic_csrs.specs.declared.Csr.{Csr}
use Rattle.pic_csrs.specs.declared.Csr.TheVariants.{Meivt, Meipt, Meicpct, Meicidpl, Meicurpl, Meihap}

-- CSRs: 0xBC8 meivt; 0xBC9 meipt; 0xBCA meicpct; 0xBCB meicidpl; 0xBCC meicurpl; 0xFC8 meihap.
abbrev pub csr_address : Csr → ℕ
csr_address Meivt = 0xBC8
csr_address Meipt = 0xBC9
csr_address Meicpct = 0xBCA
csr_address Meicidpl = 0xBCB
csr_address Meicurpl = 0xBCC
csr_address Meihap = 0xFC8

-- The CSR that has an address. `address-csr` and `csr-address` of the laws say that it is the one of the table.
unfoldable pub csr_at : ℕ → Option Csr
csr_at a =
    cond (eqb a 0xBC8) (Some Meivt)
    (cond (eqb a 0xBC9) (Some Meipt)
    (cond (eqb a 0xBCA) (Some Meicpct)
    (cond (eqb a 0xBCB) (Some Meicidpl)
    (cond (eqb a 0xBCC) (Some Meicurpl)
    (cond (eqb a 0xFC8) (Some Meihap)
    None)))))

-- Whether there is such a CSR.
abbrev pub is_csr : Option Csr → Bool
is_csr (Some r) = true
is_csr None = false
