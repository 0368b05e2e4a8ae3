-- Every way that an event can go: refused by a question, or accepted by all of its own. What is shown of each way holds of every event.
use Prim.Native.Nat.{ℕ, ◌-◌}
use mathlib.Core.Path.{◌≡◌, refl}
use mathlib.Core.Bool.{Bool, true, false, cond, not, ◌||◌}
use mathlib.Core.Logic.{⊎_elim}
use native.Mathlib.Omega.{arith}
use lib.Dec.{leb, eqb}
use lib.IntN.{pos}
use lib.Signed.{lt_z}
use borrow.Author.Tests.{le-leb, lt-leb, eqb-true, eqb-false, not-true}
use Rattle.std.proofs.lemmas.Bool.{and_parts}
use Rattle.pic_source.proofs.Bools.{le-cases}
use Rattle.event.specs.Event.{kind_of, address_of, shape_of}
use Rattle.pic_registers.specs.Calls as registers
use Rattle.pic_csrs.specs.Calls as csrs
use Rattle.counters_errors.specs.Errors.{may_count}
use Rattle.counters_errors.proofs.Counts.{counted-each, refused-above}
use Rattle.counters.specs.Whole as whole
use Rattle.counters.specs.Csrs as counters
use Rattle.handlers.specs.declared.Machine.{Machine}
use Rattle.handlers.specs.Outcome.{Outcome}
use Rattle.handlers.specs.Fields.{with_counters}
use Rattle.handlers.specs.Machines.{uppermost, sound_of}
use Rattle.handlers.specs.Service.{accepted, refused, ask, lifted, of_counters, may_store, may_write, controller_write, look_at, captured, sample_event, load_event, store_event, csr_read_event, csr_write_event, take_event, open_event, chain_event, return_event, set_mask_event, clock_event, error_event, look_event, commit_event, event_of, sound_step_of}
use Rattle.handlers.specs.Calls.{step_of}
use Rattle.handlers_laws.proofs.Service.{take-event, open-event, chain-event, return-event, set-mask-event, look-event, commit-event, with_mask, is_open, has_handler, in_handler, taken, opened, serves, served, returned, next_source, may_commit}

-- The ways of an event of this address and value on the machine m, by its kind. A controller's own event may still be refused by the controller. A CSR is the
-- counters' or the controller's.
pub record Cases (m : Machine) (a v : ℕ) (P : ℕ → Outcome → Type 0) : Type 0 where
  pub refuses : (k q : ℕ) → (q ≡ 0 → ⊥) → P k (refused m q)
  pub samples : P 0 (lifted m (registers.sample_of m.controller a v))
  pub loads : P 1 (lifted m (registers.load_of m.controller a))
  pub stores : may_store m a v ≡ true → P 2 (lifted m (registers.store_of m.controller a v))
  pub reads : P 3 (lifted m (csrs.csr_read_of m.controller a))
  pub counter-reads : of_counters a ≡ true → P 3 (accepted m (counters.csr_value m.counters (counters.csr_at a)))
  pub writes : may_write m a ≡ true → P 4 (lifted m (csrs.csr_write_of m.controller a v))
  pub counter-writes : of_counters a ≡ true → P 4 (accepted (with_counters m (counters.csr_written m.counters (counters.csr_at a) v)) 0)
  pub takes : eqb m.service.mask 1 ≡ true → lt_z (pos 0) (look_at m).margin ≡ true → P 5 (accepted (taken m) (look_at m).meihap)
  pub opens : has_handler m ≡ true → P 6 (accepted (opened m) (uppermost m).rank.0)
  pub chains : has_handler m ≡ true → serves m ≡ true → P 7 (served m)
  pub passes : P 7 (accepted (captured m) 0)
  pub returns : has_handler m ≡ true → P 8 (accepted (returned m) (m.service.depth - 1))
  pub masks : leb v 1 ≡ true → (eqb v 0 || is_open m) ≡ true → P 9 (accepted (with_mask m v) 0)
  pub clocks : P 10 (accepted (with_counters m (whole.clock_of m.counters).machine) (whole.clock_of m.counters).answer)
  pub errors : may_count a ≡ true → P 11 (accepted (with_counters m (whole.error_of m.counters a).machine) (whole.error_of m.counters a).answer)
  pub looks : P 12 (accepted m (next_source m))
  pub commits : has_handler m ≡ true → serves m ≡ true → P 13 (served m)

-- A commit that is accepted is of the source that a chain serves.
pub commit-served : (m : Machine) (s : ℕ) → may_commit m s ≡ true → (serves m ≡ true) × (s ≡ (look_at m).winner.source)
commit-served m s e = go (serves m) refl (and_parts (not (eqb s 0)) (eqb s (next_source m)) e)
  where
    go : (t : Bool) → serves m ≡ t → (not (eqb s 0) ≡ true) × (eqb s (cond t (look_at m).winner.source 0) ≡ true) → (serves m ≡ true) × (s ≡ (look_at m).winner.source)
    go true f p = (f, eqb-true s _ p.1)
    go false f p = absurd (eqb-false s 0 (not-true _ p.0) (eqb-true s 0 p.1))

-- An error is refused with 25, or is counted.
pub error-event : (m : Machine) (a : ℕ)
    → error_event m a ≡ ask m (may_count a) 25 (accepted (with_counters m (whole.error_of m.counters a).machine) (whole.error_of m.counters a).answer)
unfolding error_event
error-event m a =
    ⊎_elim (λ l. rw (le-leb a 2 l, (counted-each m.counters.errors a (omega (arith, l))).accepts)) (λ l. rw (lt-leb a 2 l, refused-above m.counters.errors a l))
    (le-cases a 2)

module _ (m : Machine) (a v : ℕ) (P : ℕ → Outcome → Type 0) (h : Cases m a v P) where
  -- A question of an event of kind k.
  ask-case : (k : ℕ) (t : Bool) (q : ℕ) (o : Outcome) → (q ≡ 0 → ⊥) → (t ≡ true → P k o) → P k (ask m t q o)
  ask-case k true q o n f = f refl
  ask-case k false q o n f = h.refuses k q n

  -- A CSR of the counters, or of the controller.
  csr-case : (k : ℕ) (x y : Outcome) → (of_counters a ≡ true → P k x) → P k y → P k (cond (of_counters a) x y)
  csr-case k x y p q = go (of_counters a) refl
    where
      go : (t : Bool) → of_counters a ≡ t → P k (cond t x y)
      go true e = p e
      go false e = q

  store-case : P 2 (store_event m a v)
  unfolding store_event
  store-case = ask-case 2 (may_store m a v) 24 _ (λ e. omega arith) (λ f. h.stores f)

  read-case : P 3 (csr_read_event m a)
  unfolding csr_read_event
  read-case = csr-case 3 _ _ (λ e. h.counter-reads e) h.reads

  write-case : P 4 (csr_write_event m a v)
  unfolding csr_write_event controller_write
  write-case = csr-case 4 _ _ (λ e. h.counter-writes e) (ask-case 4 (may_write m a) 14 _ (λ e. omega arith) (λ f. h.writes f))

  take-case : P 5 (take_event m)
  take-case = rw (take-event m) (ask-case 5 (eqb m.service.mask 1) 15 _ (λ e. omega arith) (λ f. ask-case 5 _ 16 _ (λ e. omega arith) (λ g. h.takes f g)))

  open-case : P 6 (open_event m)
  open-case = rw (open-event m) (ask-case 6 (has_handler m) 17 _ (λ e. omega arith) (λ f. ask-case 6 (eqb (uppermost m).opened 0) 18 _ (λ e. omega arith) (λ g. h.opens f)))

  -- Questions 17 and 19.
  handler-case : (k : ℕ) (o : Outcome) → (has_handler m ≡ true → P k o) → P k (in_handler m o)
  handler-case k o p = ask-case k (has_handler m) 17 _ (λ e. omega arith) (λ f. ask-case k (eqb m.service.mask 0) 19 _ (λ e. omega arith) (λ g. p f))

  chain-case : P 7 (chain_event m)
  chain-case = rw (chain-event m) (handler-case 7 _ (λ f. go f (serves m) refl))
    where
      go : has_handler m ≡ true → (t : Bool) → serves m ≡ t → P 7 (cond t (served m) (accepted (captured m) 0))
      go f true e = h.chains f e
      go f false e = h.passes

  return-case : P 8 (return_event m)
  return-case = rw (return-event m) (handler-case 8 _ (λ f. h.returns f))

  mask-case : P 9 (set_mask_event m v)
  mask-case = rw (set-mask-event m v) (ask-case 9 (leb v 1) 20 _ (λ e. omega arith) (λ f. ask-case 9 (eqb v 0 || is_open m) 21 _ (λ e. omega arith) (λ g. h.masks f g)))

  error-case : P 11 (error_event m a)
  error-case = rw (error-event m a) (ask-case 11 (may_count a) 25 _ (λ e. omega arith) (λ f. h.errors f))

  look-case : P 12 (look_event m)
  look-case = rw (look-event m) (handler-case 12 _ (λ f. h.looks))

  commit-case : P 13 (commit_event m a)
  commit-case = rw (commit-event m a) (handler-case 13 _ (λ f. ask-case 13 (may_commit m a) 26 _ (λ e. omega arith) (λ g. h.commits f (commit-served m a g).0)))

  -- One kind, or the rest.
  choose : (k K : ℕ) (x y : Outcome) → P K x → P k y → P k (cond (eqb k K) x y)
  choose k K x y p q = go (eqb k K) refl
    where
      go : (t : Bool) → eqb k K ≡ t → P k (cond (eqb k K) x y)
      go true e = rw (e, eqb-true k K e) p
      go false e = rw e q

  event-case : (k : ℕ) → P k (event_of m k a v)
  unfolding event_of sample_event load_event clock_event
  event-case k =
      choose k 0 _ _ h.samples
      (choose k 1 _ _ h.loads
      (choose k 2 _ _ store-case
      (choose k 3 _ _ read-case
      (choose k 4 _ _ write-case
      (choose k 5 _ _ take-case
      (choose k 6 _ _ open-case
      (choose k 7 _ _ chain-case
      (choose k 8 _ _ return-case
      (choose k 9 _ _ mask-case
      (choose k 10 _ _ h.clocks
      (choose k 11 _ _ error-case
      (choose k 12 _ _ look-case
      (choose k 13 _ _ commit-case
      (h.refuses k 6 (λ e. omega arith)))))))))))))))

-- What is shown of each way holds of every event.
pub step-cases : (m : Machine) (head value : ℕ) (P : ℕ → Outcome → Type 0) → Cases m (address_of head) value P → P (kind_of head) (step_of m head value)
unfolding step_of sound_step_of
step-cases m head value P h =
    ask-case m (address_of head) value P h (kind_of head) (sound_of m) 8 _ (λ e. omega arith) (λ s. go (eqb (shape_of head value) 0) refl)
  where
    go : (t : Bool) → eqb (shape_of head value) 0 ≡ t → P (kind_of head) (ask m t (shape_of head value) (event_of m (kind_of head) (address_of head) value))
    go true e = event-case m (address_of head) value P h (kind_of head)
    go false e = h.refuses (kind_of head) (shape_of head value) (eqb-false (shape_of head value) 0 e)

-- An event of one kind is refused, or is what that kind does.
pub of-kind : (m : Machine) (head value k : ℕ) (P : Outcome → Type 0) → kind_of head ≡ k → ((q : ℕ) → P (refused m q)) → P (event_of m k (address_of head) value)
    → P (step_of m head value)
unfolding step_of sound_step_of
of-kind m head value k P e r h = rw e (go (sound_of m) (eqb (shape_of head value) 0))
  where
    go : (s t : Bool) → P (ask m s 8 (ask m t (shape_of head value) (event_of m k (address_of head) value)))
    go true true = h
    go true false = r (shape_of head value)
    go false t = r 8
