-- Document 02, No. 4: question 24 in its place, a switch of priord, and what keeps current's rank.
use Prim.Native.Nat.{ℕ, ◌%◌, ◌<◌}
use mathlib.Core.Path.{◌≡◌, refl, sym, ap, ◌∙◌}
use mathlib.Core.Bool.{Bool, true, false, cond, not, ◌&&◌, ◌||◌}
use mathlib.Core.Logic.{inl, ⊎_elim}
use native.Mathlib.Omega.{arith}
use lib.Dec.{ltb, eqb}
use borrow.Author.Tests.{eqb-true, eqb-false, eq-eqb, ne_eqb, not-true}
use Rattle.event.specs.Event.{address_of}
use Rattle.pic.specs.declared.Controller.{Controller}
use Rattle.pic.specs.Sound as pic
use Rattle.pic.specs.Calls.{priority_order, current_rank}
use Rattle.pic_laws.specs.Orders.{ordered}
use Rattle.pic_registers.specs.Calls as registers
use Rattle.std.proofs.lemmas.Bool.{or_cases}
use Rattle.pic_laws.proofs.Kept.{store-sound, sample-current, store-current, csr-write-current, load_same, csr-read-same, capture-current}
use Rattle.pic_laws.proofs.Orders.{store-order, store-refusal, ordered-is, ordered-count, ordered_same, other-order, turned, power-on-order, power-on-ranks}
use Rattle.handlers.specs.declared.Machine.{Machine}
use Rattle.handlers.specs.Outcome.{Outcome}
use Rattle.handlers.specs.Fields.{with_controller}
use Rattle.handlers.specs.Machines.{power_on_of, sound_of}
use Rattle.handlers.specs.Service.{accepted, ask, lifted, switches, store_event}
use Rattle.handlers.specs.Calls.{store_of}
use Rattle.handlers_laws.specs.Switches.{StoreQuestions, with_order, OrderStored, OrderSwitched, PowerOnSwitched, StoreKeepsCurrent, CurrentKept}
use Rattle.handlers_laws.proofs.Cases.{step-cases}
use Rattle.handlers_laws.proofs.Facts.{facts, controller-sound}
use Rattle.handlers_laws.proofs.Kept.{kept-order, power-on-sound, power-on-empty}

-- 24 is asked of 0x3000 alone, which is below 0x8000 and a multiple of 4, so the controller's questions come before it.
pub store-questions : StoreQuestions
unfolding store_of store_event
store-questions m o v e = rw e (go (eqb o 0x3000) refl (not (eqb (v % 2) (priority_order m.controller))) (eqb m.service.depth 0))
  where
    go : (t : Bool) → eqb o 0x3000 ≡ t → (x y : Bool)
        → (ask m (not (t && x) || y) 24 (lifted m (registers.store_of m.controller o v))).refusal
        ≡ cond (ltb o 0x8000) (cond (eqb (o % 4) 0) (cond (not (t && x) || y) 0 24) 11) 10
    go true f true true = store-refusal m.controller o v
    go true f true false = let z : o ≡ 0x3000 = eqb-true o 0x3000 f in rw z refl
    go true f false y = store-refusal m.controller o v
    go false f x y = store-refusal m.controller o v

-- The controller's answer to a store to 0x3000, on the machine.
order-lifted : (m : Machine) (v : ℕ) → lifted m (registers.store_of m.controller 0x3000 v) ≡ accepted (with_order m (v % 2)) 0
order-lifted m v = ap (lifted m) (store-order m.controller v)

-- With its own priord the machine is as it was.
own-order : (m : Machine) {p : ℕ} → p ≡ priority_order m.controller → accepted (with_order m p) 0 ≡ accepted m 0
own-order m h = rw h (ap (λ (c : Controller). accepted (with_controller m c) 0) (ordered_same m.controller))

pub order-stored : OrderStored
unfolding store_of store_event
order-stored m v e =
    record {
      same = λ h. rw (e, eq-eqb (v % 2) (priority_order m.controller) h) (order-lifted m v ∙ own-order m h);
      open-handler = λ d l. rw (e, ne_eqb (v % 2) (priority_order m.controller) d, ne_eqb m.service.depth 0 (λ z. omega arith));
      no-handler = λ d z. rw (e, ne_eqb (v % 2) (priority_order m.controller) d, eq-eqb m.service.depth 0 z) (order-lifted m v);
    }

-- With no handler, either priord leaves a machine sound.
order-sound : (m : Machine) (v : ℕ) → sound_of m ≡ true → m.service.depth ≡ 0 → sound_of (with_order m (v % 2)) ≡ true
order-sound m v e z =
    let s : pic.sound_of (ordered m.controller (v % 2)) ≡ true = rw (store-order m.controller v) at (store-sound m.controller (facts m e).controller 0x3000 v) in
    controller-sound m (ordered m.controller (v % 2)) e s (ordered-count m.controller (v % 2)) (inl z)

pub order-switched : OrderSwitched
order-switched m v e z d =
    let c = m.controller in
    let k : store_of m 0x3000 v ≡ accepted (with_order m (v % 2)) 0 = (order-stored m v e).no-handler d z in
    record {
      turned = rw (k, other-order c (facts m e).controller v d) (turned c (facts m e).controller);
      back = λ w h.
          rw k
          ((order-stored (with_order m (v % 2)) w (order-sound m v e z)).no-handler (λ g. d (sym (g ∙ ordered-is c (v % 2)) ∙ h)) z
          ∙ own-order m h);
    }

pub power-on-switched : PowerOnSwitched
unfolding power_on_of
power-on-switched n =
    let m = (power_on_of n).machine in
    let k : store_of m 0x3000 1 ≡ accepted (with_order m 1) 0 =
    (order-stored m 1 (power-on-sound n)).no-handler (λ z. let o = power-on-order n in omega (arith, z, o)) (power-on-empty n) in
    record { accepts = ap (λ (o : Outcome). o.refusal) k; ranks = rw k (power-on-ranks n) }

pub store-keeps-current : StoreKeepsCurrent
unfolding store_of store_event
store-keeps-current m o v f = rw f (go (sound_of m))
  where
    go : (t : Bool) → current_rank (ask m t 8 (lifted m (registers.store_of m.controller o v))).machine.controller ≡ current_rank m.controller
    go true = store-current m.controller o v (kept-order m o v f)
    go false = refl

-- What may come only while no handler is open does not come while one is.
unless : (m : Machine) (asked : Bool) → 0 < m.service.depth → (not asked || eqb m.service.depth 0) ≡ true → asked ≡ false
unless m asked d f = ⊎_elim (λ g. not-true _ g) (λ g. absurd (let z = eqb-true m.service.depth 0 g in omega arith)) (or_cases (not asked) (eqb m.service.depth 0) f)

pub current-kept : CurrentKept
current-kept m head v d =
    let c = m.controller in
    let a = address_of head in
    step-cases m head v (λ k o. (k ≡ 6 → ⊥) → (k ≡ 8 → ⊥) → current_rank o.machine.controller ≡ current_rank c)
    (record {
      refuses = λ k q n x y. refl;
      samples = λ x y. sample-current c a v;
      loads = λ x y. ap current_rank (load_same c a);
      stores = λ f x y. store-current c a v (kept-order m a v (unless m (switches m a v) d f));
      reads = λ x y. ap current_rank (csr-read-same c a);
      counter-reads = λ f x y. refl;
      writes = λ f x y. csr-write-current c a v (eqb-false a 0xBCC (unless m (eqb a 0xBCC) d f));
      counter-writes = λ f x y. refl;
      takes = λ f g x y. capture-current c;
      opens = λ f x y. absurd (x refl);
      chains = λ f g x y. capture-current c;
      passes = λ x y. capture-current c;
      returns = λ f x y. absurd (y refl);
      masks = λ f g x y. refl;
      clocks = λ x y. refl;
      errors = λ f x y. refl;
      looks = λ x y. refl;
      commits = λ f g x y. capture-current c;
    })
