-- A refused event changes nothing, and an unsound machine gets 8.
use Prim.Native.Nat.{ℕ}
use mathlib.Core.Path.{◌≡◌, refl, ap}
use mathlib.Core.Bool.{false}
use Rattle.event.specs.Event.{address_of}
use Rattle.pic_laws.proofs.Kept.{sample-refused, store-refused, csr-write-refused, load_same, csr-read-same}
use Rattle.handlers.specs.declared.Machine.{Machine}
use Rattle.handlers.specs.Fields.{with_controller}
use Rattle.handlers.specs.Machines.{sound_of}
use Rattle.handlers.specs.Service.{refused}
use Rattle.handlers.specs.Calls.{step_of}
use Rattle.handlers_laws.proofs.Cases.{step-cases}

module _ (m : Machine) where
  -- A refused event changes nothing.
  pub step-refused : (head value : ℕ) → ((step_of m head value).refusal ≡ 0 → ⊥) → (step_of m head value).machine ≡ m
  step-refused head v =
      let a = address_of head in
      step-cases m head v (λ k o. (o.refusal ≡ 0 → ⊥) → o.machine ≡ m)
      (record {
        refuses = λ k q n d. refl;
        samples = λ d. ap (with_controller m) (sample-refused m.controller a v d);
        loads = λ d. ap (with_controller m) (load_same m.controller a);
        stores = λ f d. ap (with_controller m) (store-refused m.controller a v d);
        reads = λ d. ap (with_controller m) (csr-read-same m.controller a);
        counter-reads = λ f d. refl;
        writes = λ f d. ap (with_controller m) (csr-write-refused m.controller a v d);
        counter-writes = λ f d. absurd (d refl);
        takes = λ f g d. absurd (d refl);
        opens = λ f d. absurd (d refl);
        chains = λ f e d. absurd (d refl);
        passes = λ d. absurd (d refl);
        returns = λ f d. absurd (d refl);
        masks = λ f g d. absurd (d refl);
        clocks = λ d. absurd (d refl);
        errors = λ f d. absurd (d refl);
        looks = λ d. refl;
        commits = λ f e d. absurd (d refl);
      })

  -- An unsound machine gets 8, and is handed back as it was.
  pub step-8 : (head value : ℕ) → sound_of m ≡ false → step_of m head value ≡ refused m 8
  unfolding step_of
  step-8 head value e = rw e
