use Rattle.std.proofs.Common.{◌≡◌, sym}
use Rattle.pic_csrs.specs.declared.Csr.TheVariants.{Meicpct, Meihap}
use Rattle.pic_csrs.specs.Addresses.{csr_at}
use Rattle.pic_csrs.specs.Calls.{csr_write_of}
use Rattle.pic_csrs.proofs.Addresses.{csr-address, not-at}
use Rattle.pic_csrs.proofs.csr_write.Goals as goal

pub returns-in-Meihap : goal.returns-in-Meihap
unfolding csr_write_of csr_at
returns-in-Meihap c =
    let z : c.args.address ≡ 0xFC8 = csr-address _ Meihap (sym (rw c.in-Meihap.is at c.in-Some.ensures)) in
    rw z c.refuse_for-in-Meihap.ensures

pub returns-in-Meicpct : goal.returns-in-Meicpct
unfolding csr_write_of csr_at
returns-in-Meicpct c =
    let z : c.args.address ≡ 0xBCA = csr-address _ Meicpct (sym (rw c.in-Meicpct.is at c.in-Some.ensures)) in
    rw (z, c.accept.ensures, c.capture.ensures, c.winner-w.ensures)

pub returns-in_default-csr : goal.returns-in_default-csr
unfolding csr_write_of
returns-in_default-csr c =
    let e = sym c.in-Some.ensures in
    let h = not-at _ _ Meihap e (λ f. c.in_default-csr.not-Meihap (sym f)) in
    let k = not-at _ _ Meicpct e (λ f. c.in_default-csr.not-Meicpct (sym f)) in
    rw (h, k, ← c.in-Some.ensures, c.accept-in_default-csr.ensures, c.csr_written-c.ensures)
