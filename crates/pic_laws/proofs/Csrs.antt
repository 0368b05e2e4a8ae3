-- Questions 12 and 13 as the controller asks them.
use Prim.Native.Nat.{ℕ}
use mathlib.Core.Path.{◌≡◌, refl}
use mathlib.Core.Bool.{Bool, true, false, cond, not}
use lib.Dec.{eqb}
use Rattle.pic.specs.declared.Controller.{Controller}
use Rattle.pic.specs.Calls.{asks, accepts}
use Rattle.pic_csrs.specs.Addresses.{csr_at, is_csr}
use Rattle.pic_csrs.specs.Values.{csr_value}
use Rattle.pic_csrs.specs.Calls.{csr_read_of, csr_write_of, written_to}

module _ (c : Controller) (a v : ℕ) where
  pub read-12 : (csr_read_of c a).refusal ≡ cond (is_csr (csr_at a)) 0 12
  unfolding csr_read_of
  read-12 = go (is_csr (csr_at a)) (csr_value c.scalars (csr_at a))
    where
      go : (t : Bool) (x : ℕ) → (asks c t 12 (accepts c x)).refusal ≡ cond t 0 12
      go true x = refl
      go false x = refl

  pub write-12 : is_csr (csr_at a) ≡ false → csr_write_of c a v ≡ record { machine = c; answer = 0; refusal = 12 }
  unfolding csr_write_of
  write-12 e = rw e

  pub write-refusal : (csr_write_of c a v).refusal ≡ cond (is_csr (csr_at a)) (cond (not (eqb a 0xFC8)) 0 13) 12
  unfolding csr_write_of
  write-refusal = go (is_csr (csr_at a)) (not (eqb a 0xFC8))
    where
      go : (t u : Bool) → (asks c t 12 (asks c u 13 (accepts (written_to c a v) 0))).refusal ≡ cond t (cond u 0 13) 12
      go true true = refl
      go true false = refl
      go false u = refl
