-- Sets that follow a sample, and a store.
use Prim.Native.Nat.{ℕ, ◌-◌, ◌/◌, ◌%◌, ◌≤◌}
use mathlib.Core.Path.{◌≡◌, refl, sym, ap, ◌∙◌}
use mathlib.Core.Bool.{Bool, true, false}
use mathlib.Core.List.{List}
use mathlib.Core.Logic.{◌⊎◌, inl, inr}
use native.Mathlib.Omega.{arith}
use lib.Dec.{eqb}
use borrow.Author.Tests.{eqb-false, eq-eqb, ne_eqb}
use Rattle.pic.specs.declared.Controller.{Controller}
use Rattle.std.proofs.lemmas.Bool.{cases_eq}
use Rattle.pic.specs.Fields.{with_scalars, with_priord}
use Rattle.pic.specs.Calls.{priority_order, accepts, asks}
use Rattle.pic.proofs.Soundness.{Sound, facts}
use Rattle.std.specs.Prelude.{Option, Some, None}
use Rattle.pic_registers.specs.declared.Register.{Register}
use Rattle.pic_registers.specs.declared.Register.TheVariants.{Meipl, Meip, Meie, Mpiccfg, Meigwctrl, Meigwclr}
use Rattle.pic_registers.specs.Offsets.{register_at, offset_refusal}
use Rattle.pic_registers.specs.Registers.{written_of}
use Rattle.pic_registers.specs.Calls.{sample_of, store_of}
use Rattle.pic_sets.specs.Sets.{reversed_of}
use Rattle.pic_ready.specs.Ready.{fresh_of, moved_of, followed_of, switched}
use Rattle.pic_ready.proofs.Moves.{moved-fresh, switched-fresh}
use Rattle.pic_updates.specs.Updates.{moved_at, moved_word, SampleFresh, StoreFresh}
use Rattle.pic_updates.proofs.Moving.{all_moved}
use Rattle.pic_updates.proofs.Others.{sampled-others, sampled-order, store-others}

module _ (c d : Controller) (sets : List (List ℕ)) where
  -- Priord stays: a bit changes where its source enters or leaves.
  stays : d.scalars.priord ≡ c.scalars.priord → moved_of c d sets ≡ followed_of c d sets
  unfolding followed_of priority_order
  stays e = rw (eq-eqb c.scalars.priord d.scalars.priord (sym e))

  -- Priord is switched: the sets are reversed.
  switches : (c.scalars.priord ≡ d.scalars.priord → ⊥) → reversed_of sets ≡ followed_of c d sets
  unfolding followed_of priority_order
  switches n = rw (ne_eqb c.scalars.priord d.scalars.priord n)

module _ (c : Controller) (sets : List (List ℕ)) where
  pub sample-follows : (x v : ℕ) {d : Controller} {next : List (List ℕ)} → d ≡ (sample_of c x v).machine → next ≡ moved_word c d (x % 8 % 8) sets
      → next ≡ followed_of c (sample_of c x v).machine sets
  sample-follows x v {d} {next} hd hn =
      rw hd at hn
      ∙ all_moved c after (λ (t : ℕ). eqb (t / 32) (x % 8 % 8)) sets (λ r t k f. sampled-others c x v r t k (λ e. eqb-false (t / 32) (x % 8 % 8) f (omega (arith, e))))
      ∙ stays c after sets (sampled-order c x v)
    where
      after : Controller
      after = (sample_of c x v).machine

  module _ (o v : ℕ) {d : Controller} (hd : d ≡ (store_of c o v).machine) where
    pub store-follows : {next : List (List ℕ)} → c.sources ≤ 255 → c.scalars.priord ≡ d.scalars.priord → next ≡ moved_at c d (o % 4096 / 4 % 256) sets
        → next ≡ followed_of c (store_of c o v).machine sets
    store-follows {next} l e hn =
        rw hd at hn
        ∙ all_moved c after (λ (t : ℕ). eqb t (o % 4096 / 4 % 256)) sets (λ r t k f. store-others c o v r t l (eqb-false t (o % 4096 / 4 % 256) f) (sym p))
        ∙ stays c after sets (sym p)
      where
        after : Controller
        after = (store_of c o v).machine

        p : c.scalars.priord ≡ after.scalars.priord
        p = e ∙ ap (λ (m : Controller). m.scalars.priord) hd

    pub store-reverses : {next : List (List ℕ)} → (c.scalars.priord ≡ d.scalars.priord → ⊥) → next ≡ reversed_of sets → next ≡ followed_of c (store_of c o v).machine sets
    store-reverses n hn = hn ∙ switches c (store_of c o v).machine sets (λ e. n (e ∙ ap (λ (m : Controller). m.scalars.priord) (sym hd)))

-- Sets that were right are right after a sample,
pub sample-fresh : SampleFresh
sample-fresh c x v =
    let d = (sample_of c x v).machine in
    sym (stays c d (fresh_of c) (sampled-order c x v)) ∙ moved-fresh c d

-- A store that switches priord leaves all else.
written-switch : (c : Controller) (g : Option Register) (v : ℕ) → Sound c → (c.scalars.priord ≡ (written_of c g v).scalars.priord → ⊥) → written_of c g v ≡ switched c
unfolding written_of
written-switch c (Some (Meipl s)) v h n = absurd (n refl)
written-switch c (Some (Meip x)) v h n = absurd (n refl)
written-switch c (Some (Meie s)) v h n = absurd (n refl)
written-switch c (Some Mpiccfg) v h n =
    let e : v % 2 ≡ 1 - c.scalars.priord = omega (arith, n, h.ranges.priord) in
    ap (λ (p : ℕ). with_scalars c (with_priord c.scalars p)) e
written-switch c (Some (Meigwctrl s)) v h n = absurd (n refl)
written-switch c (Some (Meigwclr s)) v h n = absurd (n refl)
written-switch c None v h n = absurd (n refl)

store-switch : (c : Controller) (o v : ℕ) → Sound c → (c.scalars.priord ≡ (store_of c o v).machine.scalars.priord → ⊥) → (store_of c o v).machine ≡ switched c
unfolding store_of
store-switch c o v h = go (eqb (offset_refusal o) 0)
  where
    after : Bool → Controller
    after b = (asks c b (offset_refusal o) (accepts (written_of c (register_at c.sources o) v) 0)).machine

    go : (b : Bool) → (c.scalars.priord ≡ (after b).scalars.priord → ⊥) → after b ≡ switched c
    go true n = written-switch c (register_at c.sources o) v h n
    go false n = absurd (n refl)

-- and after a store.
pub store-fresh : StoreFresh
store-fresh c o v e = go (cases_eq c.scalars.priord d.scalars.priord)
  where
    d : Controller
    d = (store_of c o v).machine

    go : (c.scalars.priord ≡ d.scalars.priord) ⊎ (c.scalars.priord ≡ d.scalars.priord → ⊥) → followed_of c d (fresh_of c) ≡ fresh_of d
    go (inl p) = sym (stays c d (fresh_of c) (sym p)) ∙ moved-fresh c d
    go (inr n) = sym (switches c d (fresh_of c) n) ∙ switched-fresh c e ∙ ap fresh_of (sym (store-switch c o v (facts c e) n))
