-- What a sound controller reads: a field is 0..15, and meivt a multiple of 1,024.
use Prim.Native.Nat.{ℕ, ◌*◌, ◌%◌, ◌≤◌}
use mathlib.Core.Path.{◌≡◌}
use mathlib.Core.Bool.{true}
use borrow.Author.Tests.{le-leb}
use Rattle.pic.specs.declared.Controller.{Controller}
use Rattle.pic_source.specs.Sources.{is_source}
use Rattle.pic.specs.Sound.{sound_of}
use Rattle.pic.specs.Calls.{source_count}
use Rattle.pic_registers.specs.Calls.{load_of}
use Rattle.pic_csrs.specs.Addresses.{csr_at}
use Rattle.pic_csrs.specs.Values.{csr_value}
use Rattle.pic_csrs.specs.Calls.{csr_read_of}
use Rattle.pic.proofs.Soundness.{facts}
use Rattle.pic_registers.proofs.Offsets.{meipl-at, meipl-accepted}
use Rattle.pic_registers.proofs.Follow.{read-field}

module _ (c : Controller) (e : sound_of c ≡ true) where
  pub load_field : (s : ℕ) → 1 ≤ s → s ≤ source_count c → (load_of c (4 * s)).answer ≤ 15
  unfolding load_of source_count
  load_field s a b =
      let f = facts c e in
      let i : is_source c.sources s ≡ true = rw (le-leb 1 s a, le-leb s c.sources b) in
      rw (meipl-accepted c.sources s f.most i, meipl-at c.sources s f.most i) (read-field c s f i)

  pub read-meipt : (csr_read_of c 0xBC9).answer ≤ 15
  unfolding csr_read_of csr_at csr_value
  read-meipt = (facts c e).ranges.threshold

  pub read-meicidpl : (csr_read_of c 0xBCB).answer ≤ 15
  unfolding csr_read_of csr_at csr_value
  read-meicidpl = (facts c e).ranges.claimed

  pub read-meicurpl : (csr_read_of c 0xBCC).answer ≤ 15
  unfolding csr_read_of csr_at csr_value
  read-meicurpl = (facts c e).ranges.current

  pub read-meivt : (csr_read_of c 0xBC8).answer % 1024 ≡ 0
  unfolding csr_read_of csr_at csr_value
  read-meivt = (facts c e).ranges.base.aligned
