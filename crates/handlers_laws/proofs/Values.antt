-- What a sound machine reads: a rank field is 0..15, and meivt a multiple of 1,024.
use Prim.Native.Nat.{ℕ, ◌*◌, ◌%◌, ◌≤◌}
use mathlib.Core.Path.{◌≡◌}
use mathlib.Core.Bool.{true}
use native.Mathlib.Omega.{arith}
use Rattle.pic.specs.Calls.{source_count}
use Rattle.pic_laws.proofs.Values.{load_field, read-meipt, read-meicidpl, read-meicurpl, read-meivt}
use Rattle.counters.proofs.Addresses.{none_above}
use Rattle.handlers.specs.declared.Machine.{Machine}
use Rattle.handlers.specs.Machines.{sound_of}
use Rattle.handlers.specs.Service.{load_event, csr_read_event}
use Rattle.handlers.specs.Calls.{load_of, csr_read_of}
use Rattle.handlers_laws.proofs.Facts.{facts}

module _ (m : Machine) (e : sound_of m ≡ true) where
  pub meipl-reads : (s : ℕ) → 1 ≤ s → s ≤ source_count m.controller → (load_of m (4 * s)).answer ≤ 15
  unfolding load_of load_event
  meipl-reads s a b = rw e (load_field m.controller (facts m e).controller s a b)

  pub meipt-reads : (csr_read_of m 0xBC9).answer ≤ 15
  unfolding csr_read_of csr_read_event
  meipt-reads = rw (e, none_above 0xBC9 (omega arith)) (read-meipt m.controller (facts m e).controller)

  pub meicidpl-reads : (csr_read_of m 0xBCB).answer ≤ 15
  unfolding csr_read_of csr_read_event
  meicidpl-reads = rw (e, none_above 0xBCB (omega arith)) (read-meicidpl m.controller (facts m e).controller)

  pub meicurpl-reads : (csr_read_of m 0xBCC).answer ≤ 15
  unfolding csr_read_of csr_read_event
  meicurpl-reads = rw (e, none_above 0xBCC (omega arith)) (read-meicurpl m.controller (facts m e).controller)

  pub meivt-reads : (csr_read_of m 0xBC8).answer % 1024 ≡ 0
  unfolding csr_read_of csr_read_event
  meivt-reads = rw (e, none_above 0xBC8 (omega arith)) (read-meivt m.controller (facts m e).controller)
