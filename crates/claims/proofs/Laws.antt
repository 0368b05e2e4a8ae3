-- The machine meets the laws of nested handlers, so demand 3 holds for every list of events.
use Prim.Native.Nat.{ℕ, ◌-◌, ◌≤◌, ◌<◌}
use mathlib.Core.Path.{◌≡◌, refl, sym, ap, ◌∙◌}
use mathlib.Core.Bool.{Bool, true, false, cond}
use mathlib.Core.Logic.{◌⊎◌, inl, inr}
use native.Mathlib.Omega.{arith}
use lib.ListN.{length}
use lib.Dec.{eqb}
use lib.IntN.{pos}
use lib.Signed.{lt_z}
use borrow.Author.Tests.{eqb-true, ltb-true, ne_eqb}
use Rattle.event.specs.Event.{kind_of, address_of}
use Rattle.pic.specs.declared.Controller.{Controller}
use Rattle.pic.specs.declared.Look.{Look}
use Rattle.pic.specs.Outcome as controller
use Rattle.pic_source.specs.declared.Rank.{Rank}
use Rattle.pic.specs.Sources.{rank_at, enable_at, pending_at, threshold_of}
use Rattle.pic.specs.Calls.{source_count}
use Rattle.pic_registers.specs.Calls as registers
use Rattle.pic_csrs.specs.Calls as csrs
use Rattle.pic_source.proofs.Bools.{le-cases}
use Rattle.pic_laws.proofs.Kept.{current-is}
use Rattle.pic_laws.proofs.Captures.{Found, look-found, margin-over}
use Rattle.pic.proofs.Winning.{eligible-parts, eligible-is}
use Rattle.counters.specs.declared.Counters.{Counters}
use Rattle.counters.specs.Whole as whole
use Rattle.counters.specs.Csrs as counters
use Rattle.nesting.specs.Claim.{is_other, Does, Pushed, Swapped, Laws}
use Rattle.nesting.specs.Held.{held}
use Rattle.nesting.proofs.Held.{held-push, held-pop, held-swap, held-mark, held-length, held-top}
use Rattle.nesting.proofs.Nesting.{trace-words, end-sound, nesting}
use Rattle.handlers.specs.declared.Machine.{Machine}
use Rattle.handlers.specs.Outcome.{Outcome}
use Rattle.handlers.specs.Fields.{with_counters}
use Rattle.handlers_stack.specs.Stacks.{blank}
use Rattle.handlers.specs.Machines.{uppermost, sound_of, power_on_of}
use Rattle.handlers.specs.Service.{accepted, refused, lifted, look_at}
use Rattle.handlers_service.specs.Fields.{with_source, with_opened}
use Rattle.handlers_laws.proofs.Service.{with_mask, new_handler, taken, serves, chained, next_source}
use Rattle.handlers.specs.Calls.{step_of}
use Rattle.handlers_laws.proofs.Facts.{facts, Sound, saved-small, room, served-facts}
use Rattle.handlers_laws.proofs.Cases.{step-cases}
use Rattle.handlers_laws.proofs.Kept.{step-sound, power-on-sound, power-on-empty, top-current, one_more-is}
use Rattle.claims.specs.Nested.{word, answer_of, accepted_class, class_by, seen, Won, eh1, last_of, Demand3}

-- A served winner above the threshold is the one to serve.
won : (c : Controller) (k : Look) → Found c k → (threshold_of c.scalars).0 < k.winner.rank.0 → Won c k.winner.source
won c k h a =
    let s = h.winner in
    let p = eligible-parts c k.winner.source s.eligible.eligible in
    let r : k.winner.rank.0 ≡ (rank_at c k.winner.source).0 = ap (λ (z : Rank). z.0) s.ranked in
    record {
      least = s.eligible.least;
      most = s.eligible.most;
      enabled = eqb-true (enable_at c k.winner.source) 1 p.0;
      pending = p.1;
      above = omega (arith, a, r);
      best = λ t l m e q d. rw (sym r) (low t l m e q d (le-cases 1 (rank_at c t).0));
    }
  where
    low : (t : ℕ) → 1 ≤ t → t ≤ source_count c → enable_at c t ≡ 1 → pending_at c t ≡ true → (t ≡ k.winner.source → ⊥) → (1 ≤ (rank_at c t).0) ⊎ ((rank_at c t).0 < 1)
        → ((rank_at c t).0 < k.winner.rank.0) ⊎ (((rank_at c t).0 ≡ k.winner.rank.0) × (k.winner.source < t))
    low t l m e q d (inl b) = h.winner.best t (record { least = l; most = m; eligible = eligible-is c t e q b }) d
    low t l m e q d (inr b) = inl (omega (arith, a, b))

-- What an outcome of an event of this kind does to the stack, by its class.
abbrev DoesBy : ℕ → Machine → Outcome → Type 0
DoesBy kind m o = Does eh1 (class_by kind (answer_of o)) m (answer_of o) o.machine

-- A refused event is of no class and changes nothing.
refused-does : (kind : ℕ) (m : Machine) (q : ℕ) → (q ≡ 0 → ⊥) → DoesBy kind m (refused m q)
refused-does kind m q h = rw (ne_eqb q 0 h) refl

module _ (m : Machine) (r : sound_of m ≡ true) where
  sound-here : Sound m
  sound-here = facts m r

  -- Take pushes.
  taken-pushes : (m.service.mask ≡ 0 → ⊥) → lt_z (pos 0) (look_at m).margin ≡ true
      → Pushed eh1 m (answer_of (accepted (taken m) (look_at m).meihap)) (taken m)
  taken-pushes h g =
      let c = m.controller in
      let s = sound-here in
      let o = margin-over c g in
      let k = look-found c s.controller (omega (arith, o.threshold)) in
      let d = room m s h g in
      record {
        new = seen (new_handler m);
        pushed = rw (one_more-is m r h g) (held-push seen m.service.stack m.service.depth (new_handler m) (omega (arith, s.places, d)));
        serves = record { names = k.names; ranked = ap (λ (z : Rank). z.0) k.winner.ranked };
        won = won c (look_at m) k o.threshold;
        saved = refl;
        above = λ rest top e.
            let t = held-top seen m.service.stack m.service.depth blank rest top (omega (arith, s.places, d)) e in
            let q : top.rank ≡ (uppermost m).rank.0 = ap (λ z. z.rank) t.1 in
            omega (arith, q, o.current, top-current m s h t.0);
        in_range = (omega (arith, o.threshold), k.rank_most);
      }

  deep : m.service.depth ≤ length m.service.stack
  deep = omega (arith, sound-here.places, sound-here.few)

  -- Chain and commit replace the uppermost.
  chained-swaps : 0 < m.service.depth → serves m ≡ true
      → ((look_at m).meihap ≡ 0 → ⊥) × Swapped eh1 m (answer_of (accepted (chained m) (look_at m).meihap)) (chained m)
  chained-swaps d e =
      let s = served-facts m sound-here e in
      let k = s.found in (
        (λ z. omega (arith, z, k.names, k.winner.eligible.least)),
        record {
          rest = held seen m.service.stack (m.service.depth - 1);
          old = seen (uppermost m);
          new = seen (with_source (uppermost m) (look_at m).winner.source);
          was = held-pop seen m.service.stack m.service.depth blank d deep;
          is = held-swap seen m.service.stack m.service.depth (with_source (uppermost m) (look_at m).winner.source) d deep;
          serves = record { names = k.names; ranked = sym s.ranked ∙ ap (λ (z : Rank). z.0) k.winner.ranked };
          won = won m.controller (look_at m) k s.above;
          same_rank = refl;
          same-saved = refl;
        },
      )

  -- An event that is of no class where it is accepted leaves the stack as it is seen.
  other-does : (kind : ℕ) (o : Outcome) → accepted_class kind o.answer ≡ is_other
      → held seen o.machine.service.stack o.machine.service.depth ≡ held seen m.service.stack m.service.depth → DoesBy kind m o
  other-does kind o e h = rw e (go (eqb o.refusal 0))
    where
      go : (t : Bool) → Does eh1 (cond t is_other is_other) m (answer_of o) o.machine
      go true = h
      go false = h

  -- A controller's own event changes the controller alone.
  controller-does : (kind : ℕ) (o : controller.Outcome) → accepted_class kind o.answer ≡ is_other → DoesBy kind m (lifted m o)
  controller-does kind o e = other-does kind (lifted m o) e refl

  -- An event of the counters changes them alone: a clock or an error opens no handler.
  counters-do : (kind : ℕ) (t : Counters) (answer : ℕ) → accepted_class kind answer ≡ is_other → DoesBy kind m (accepted (with_counters m t) answer)
  counters-do kind t answer e = other-does kind (accepted (with_counters m t) answer) e refl

  step-does : (head value : ℕ) → DoesBy (kind_of head) m (step_of m head value)
  step-does head v =
      let a = address_of head in
      step-cases m head v (λ k o. DoesBy k m o)
      (record {
        refuses = λ k q n. refused-does k m q n;
        samples = controller-does 0 (registers.sample_of m.controller a v) refl;
        loads = controller-does 1 (registers.load_of m.controller a) refl;
        stores = λ f. controller-does 2 (registers.store_of m.controller a v) refl;
        reads = controller-does 3 (csrs.csr_read_of m.controller a) refl;
        counter-reads = λ f. counters-do 3 m.counters (counters.csr_value m.counters (counters.csr_at a)) refl;
        writes = λ f. controller-does 4 (csrs.csr_write_of m.controller a v) refl;
        counter-writes = λ f. counters-do 4 (counters.csr_written m.counters (counters.csr_at a) v) 0 refl;
        takes = λ f g. taken-pushes (λ z. let o = eqb-true m.service.mask 1 f in omega arith) g;
        opens = λ f. held-mark seen m.service.stack m.service.depth (with_opened (uppermost m) 1) blank (ltb-true 0 m.service.depth f) deep refl;
        chains = λ f e. let w = chained-swaps (ltb-true 0 m.service.depth f) e in rw (ne_eqb (look_at m).meihap 0 w.0) w.1;
        passes = refl;
        returns = λ f.
            record {
              old = seen (uppermost m);
              was = held-pop seen m.service.stack m.service.depth blank (ltb-true 0 m.service.depth f) deep;
              restored = ap (λ (z : Rank). z.0) (current-is m.controller (uppermost m).saved (saved-small m sound-here (ltb-true 0 m.service.depth f)));
            };
        masks = λ f g. other-does 9 (accepted (with_mask m v) 0) refl refl;
        clocks = counters-do 10 (whole.clock_of m.counters).machine (whole.clock_of m.counters).answer refl;
        errors = λ f. counters-do 11 (whole.error_of m.counters a).machine (whole.error_of m.counters a).answer refl;
        looks = other-does 12 (accepted m (next_source m)) refl refl;
        commits = λ f e. (chained-swaps (ltb-true 0 m.service.depth f) e).1;
      })

-- The laws of nested handlers hold of the machine.
pub eh1-laws : Laws eh1
eh1-laws =
    record {
      stays-sound = λ m e h. step-sound m h (word e.head) (word e.value) (omega arith);
      does = λ m e h. step-does m h (word e.head) (word e.value);
      below-trans = λ a b c p q. omega arith;
      below-height = λ a b p q l. l;
    }

-- As many handlers are open as the depth says.
open-is-depth : (m : Machine) → sound_of m ≡ true → m.service.depth ≡ length (eh1.stack m)
open-is-depth m r = sym (held-length seen m.service.stack m.service.depth (deep m r))

-- Demand 3, for every N and every list of events.
pub demand-3 : Demand3
demand-3 n es =
    let r = power-on-sound n in
    record {
      nested = nesting eh1 eh1-laws (power_on_of n).machine r (ap (held seen (power_on_of n).machine.service.stack) (power-on-empty n)) es;
      words = trace-words eh1 (power_on_of n).machine es;
      open-handlers = open-is-depth (last_of n es) (end-sound eh1 eh1-laws (power_on_of n).machine r es);
    }
