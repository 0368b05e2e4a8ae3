-- The latches after an event of any kind.
use Prim.Native.Nat.{ℕ, ◌+◌, ◌*◌, ◌≤◌}
use mathlib.Core.Path.{◌≡◌, refl}
use mathlib.Core.Bool.{true, ◌&&◌}
use lib.Dec.{eqb}
use Rattle.event.specs.Event.{address_of}
use Rattle.pic.specs.declared.Controller.{Controller}
use Rattle.pic.specs.Sources.{latch_at}
use Rattle.pic.specs.Sound as pic
use Rattle.pic.specs.Calls.{source_count, set_current, capture_of}
use Rattle.pic_registers.specs.Calls as registers
use Rattle.pic_csrs.specs.Calls as csrs
use Rattle.pic_laws.proofs.Kept.{load_same, csr-read-same}
use Rattle.pic_registers.proofs.Follow.{Follows}
use Rattle.pic_laws.proofs.Sources.{arrays_of, arrays-follow, csr-write-arrays, capture-arrays, current-arrays, sample-follows, store-follows}
use Rattle.handlers.specs.declared.Machine.{Machine}
use Rattle.handlers.specs.Machines.{uppermost, sound_of}
use Rattle.handlers.specs.Service.{look_at}
use Rattle.handlers_laws.specs.Latches.{LatchFollows, LatchesFollow}
use Rattle.handlers_laws.proofs.Cases.{step-cases}
use Rattle.handlers_laws.proofs.Facts.{facts}

module _ (m : Machine) (e : sound_of m ≡ true) (s : ℕ) (a : 1 ≤ s) (b : s ≤ source_count m.controller) where
  sound-controller : pic.sound_of m.controller ≡ true
  sound-controller = (facts m e).controller

  -- An event that leaves the sources' arrays alone.
  quiet : (d : Controller) → arrays_of d ≡ arrays_of m.controller → Follows d s (latch_at m.controller s)
  quiet d h = arrays-follow m.controller d sound-controller h s a b

  same : (d : Controller) → d ≡ m.controller → Follows d s (latch_at m.controller s)
  same d h = quiet d (rw h refl)

pub latches-follow : LatchesFollow
latches-follow m head v e accepted s a b =
    let c = m.controller in
    let o = address_of head in
    step-cases m head v (λ k z. z.refusal ≡ 0 → LatchFollows c z.machine.controller (eqb k 2 && eqb o (0x5000 + 4 * s)) s)
    (record {
      refuses = λ k q n z. absurd (n z);
      samples = sample-follows c (sound-controller m e s a b) s a b o v;
      loads = λ z. same m e s a b (registers.load_of c o).machine (load_same c o);
      stores = λ f. store-follows c (sound-controller m e s a b) s a b o v;
      reads = λ z. same m e s a b (csrs.csr_read_of c o).machine (csr-read-same c o);
      counter-reads = λ f z. quiet m e s a b c refl;
      writes = λ f z. quiet m e s a b (csrs.csr_write_of c o v).machine (csr-write-arrays c o v);
      counter-writes = λ f z. quiet m e s a b c refl;
      takes = λ f g z. quiet m e s a b (capture_of c (look_at m).winner) (capture-arrays c (look_at m).winner);
      opens = λ f z. quiet m e s a b (set_current c (uppermost m).rank) (current-arrays c (uppermost m).rank);
      chains = λ f g z. quiet m e s a b (capture_of c (look_at m).winner) (capture-arrays c (look_at m).winner);
      passes = λ z. quiet m e s a b (capture_of c (look_at m).winner) (capture-arrays c (look_at m).winner);
      returns = λ f z. quiet m e s a b (set_current c (uppermost m).saved) (current-arrays c (uppermost m).saved);
      masks = λ f g z. quiet m e s a b c refl;
      clocks = λ z. quiet m e s a b c refl;
      errors = λ f z. quiet m e s a b c refl;
      looks = λ z. quiet m e s a b c refl;
      commits = λ f g z. quiet m e s a b (capture_of c (look_at m).winner) (capture-arrays c (look_at m).winner);
    })
    accepted
