-- The fields and the ranks of the sources, and priord, after an event of any kind.
use Prim.Native.Nat.{ℕ, ◌*◌, ◌%◌, ◌≤◌}
use mathlib.Core.Path.{◌≡◌, refl, ap}
use mathlib.Core.Bool.{true}
use native.Mathlib.Omega.{arith}
use borrow.Author.Tests.{ne_eqb}
use Rattle.event.specs.Event.{kind_of, address_of}
use Rattle.pic_source.specs.Ranks.{field}
use Rattle.pic.specs.Sources.{field_at, rank_at}
use Rattle.pic.specs.Calls.{source_count, set_current, capture_of}
use Rattle.pic_registers.specs.Calls as registers
use Rattle.pic_csrs.specs.Calls as csrs
use Rattle.pic_laws.proofs.Kept.{load_same, csr-read-same}
use Rattle.pic_laws.proofs.Sources.{Stays, stays-rank, arrays_of, arrays-stay, csr-write-arrays, capture-arrays, current-arrays, sample-stays, store-stays, count_most, field_stored}
use Rattle.handlers.specs.declared.Machine.{Machine}
use Rattle.handlers.specs.Machines.{uppermost, sound_of}
use Rattle.handlers.specs.Service.{look_at, store_event}
use Rattle.handlers.specs.Calls.{store_of, step_of}
use Rattle.handlers_laws.proofs.Cases.{step-cases}
use Rattle.handlers_laws.proofs.Facts.{facts}

-- No event that is not a store to the meipl of source s changes its field, and none that is not a store to mpiccfg changes priord.
pub step_stays : (m : Machine) (head value s : ℕ) → Stays (kind_of head ≡ 2) (address_of head) s m.controller (step_of m head value).machine.controller
step_stays m head v s =
    let c = m.controller in
    let o = address_of head in
    step-cases m head v (λ k z. Stays (k ≡ 2) o s c z.machine.controller)
    (record {
      refuses = λ k q n. arrays-stay c s c refl;
      samples = sample-stays c s o v;
      loads = arrays-stay c s (registers.load_of c o).machine (ap arrays_of (load_same c o));
      stores = λ f. store-stays c s v refl;
      reads = arrays-stay c s (csrs.csr_read_of c o).machine (ap arrays_of (csr-read-same c o));
      counter-reads = λ f. arrays-stay c s c refl;
      writes = λ f. arrays-stay c s (csrs.csr_write_of c o v).machine (csr-write-arrays c o v);
      counter-writes = λ f. arrays-stay c s c refl;
      takes = λ f g. arrays-stay c s (capture_of c (look_at m).winner) (capture-arrays c (look_at m).winner);
      opens = λ f. arrays-stay c s (set_current c (uppermost m).rank) (current-arrays c (uppermost m).rank);
      chains = λ f g. arrays-stay c s (capture_of c (look_at m).winner) (capture-arrays c (look_at m).winner);
      passes = arrays-stay c s (capture_of c (look_at m).winner) (capture-arrays c (look_at m).winner);
      returns = λ f. arrays-stay c s (set_current c (uppermost m).saved) (current-arrays c (uppermost m).saved);
      masks = λ f g. arrays-stay c s c refl;
      clocks = arrays-stay c s c refl;
      errors = λ f. arrays-stay c s c refl;
      looks = arrays-stay c s c refl;
      commits = λ f g. arrays-stay c s (capture_of c (look_at m).winner) (capture-arrays c (look_at m).winner);
    })

pub field-kept : (m : Machine) (head value s : ℕ) → (kind_of head ≡ 2 → address_of head ≡ 4 * s → ⊥)
    → field_at (step_of m head value).machine.controller s ≡ field_at m.controller s
field-kept m head v s d = (step_stays m head v s).field d

-- So the rank of a source changes by a store to its meipl or to mpiccfg alone.
pub rank-kept : (m : Machine) (head value s : ℕ) → (kind_of head ≡ 2 → address_of head ≡ 4 * s → ⊥) → (kind_of head ≡ 2 → address_of head ≡ 0x3000 → ⊥)
    → rank_at (step_of m head value).machine.controller s ≡ rank_at m.controller s
rank-kept m head v s d p = stays-rank (step_stays m head v s) d p

-- A store to its meipl makes the field of a source the value's bits 3:0, on every sound machine.
pub meipl-stored : (m : Machine) (s v : ℕ) → sound_of m ≡ true → 1 ≤ s → s ≤ source_count m.controller
    → field_at (store_of m (4 * s) v).machine.controller s ≡ field (v % 16)
unfolding store_of store_event
meipl-stored m s v e a b =
    let h = (facts m e).controller in
    rw (e, ne_eqb (4 * s) 0x3000 (λ z. omega (arith, z, count_most m.controller h, b))) (field_stored m.controller h s a b v)
