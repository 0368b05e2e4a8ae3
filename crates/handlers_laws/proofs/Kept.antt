-- Every event keeps a sound machine sound.
use Prim.Native.Nat.{ℕ, zero, suc, ◌+◌, ◌-◌, ◌%◌, ◌^◌, ◌≤◌, ◌<◌}
use mathlib.Core.Path.{◌≡◌, refl, sym, ap, ◌∙◌}
use mathlib.Core.Bool.{true, false, not, ◌||◌}
use mathlib.Core.Logic.{◌⊎◌, inl, inr, ⊎_elim}
use native.Mathlib.Omega.{arith}
use lib.ListN.{length, set, length-set}
use lib.Seq.{get_or-set_same}
use lib.Dec.{leb, eqb}
use lib.IntN.{pos}
use lib.Signed.{lt_z}
use borrow.Author.Tests.{eqb-true, eqb-false, eq-eqb, ltb-true, leb-true, not-true, not-false}
use Rattle.event.specs.Event.{address_of}
use Rattle.pic.specs.declared.Controller.{Controller}
use Rattle.pic_source.specs.declared.Rank.{Rank}
use Rattle.pic.specs.Sound as pic
use Rattle.pic.specs.Calls.{source_count, priority_order, current_rank, capture_of}
use Rattle.pic_registers.specs.Calls as registers
use Rattle.pic_csrs.specs.Calls as csrs
use Rattle.counters.specs.Csrs as counters
use Rattle.counters.proofs.Soundness.{reset-sound, clock-sound, error-sound}
use Rattle.counters.proofs.Writes.{written-sound}
use Rattle.std.proofs.lemmas.Bool.{or_cases, cases_eq}
use Rattle.pic_laws.proofs.Kept.{sample-sound, sample-count, sample-current, store-sound, store-count, store-current, csr-write-sound, csr-write-count, csr-write-current, load_same, csr-read-same, capture-sound, capture-count, capture-current, current-sound, current-count, current-is}
use Rattle.pic_laws.proofs.Kept as controllers
use Rattle.pic_laws.proofs.Captures.{look-found, margin-over}
use Rattle.handlers_stack.specs.declared.Handler.{Handler}
use Rattle.handlers_stack.specs.Stacks.{blank, handler_at, below_of, level_of}
use Rattle.handlers_stack.proofs.Stacks.{Fine, Stored, fine-kept, fine-stored, fine-popped, below_next, level-opened, level-unopened, level-same}
use Rattle.handlers_service.proofs.Facts.{open-cases}
use Rattle.handlers.specs.declared.Machine.{Machine}
use Rattle.handlers.specs.Fields.{with_controller}
use Rattle.handlers.specs.Machines.{uppermost, sound_of, power_on_of}
use Rattle.handlers.specs.Service.{lifted, switches, may_store, may_write, look_at, captured}
use Rattle.handlers.specs.Calls.{step_of}
use Rattle.handlers_laws.proofs.Cases.{step-cases}
use Rattle.handlers_laws.proofs.Facts.{Sound, facts, sound, controller-sound, counters-sound, top_fine, saved-small, room, served-facts}
use Rattle.handlers_service.specs.Fields.{with_source, with_opened}
use Rattle.handlers_service.specs.Events.{one_more}
use Rattle.handlers_laws.proofs.Service.{with_mask, is_open, new_handler, taken, opened, serves, chained, returned}

-- With the mask on, the current rank is the uppermost handler's.
pub top-current : (m : Machine) → Sound m → (m.service.mask ≡ 0 → ⊥) → 0 < m.service.depth → (current_rank m.controller).0 ≡ (uppermost m).rank.0
top-current m f h d = go f.masked f.current
  where
    go : (m.service.mask ≡ 0) ⊎ ((m.service.depth ≡ 0) ⊎ ((uppermost m).opened ≡ 1)) → (m.service.depth ≡ 0) ⊎ ((current_rank m.controller).0 ≡ (level_of (uppermost m)).0)
        → (current_rank m.controller).0 ≡ (uppermost m).rank.0
    go (inl e) k = absurd (h e)
    go (inr (inl e)) k = absurd (omega arith)
    go (inr (inr o)) (inl e) = absurd (omega arith)
    go (inr (inr o)) (inr e) = e ∙ ap (λ (a : Rank). a.0) (level-opened (uppermost m) o)

-- So it is that of the handler below a new one.
current-below : (m : Machine) → Sound m → (m.service.mask ≡ 0 → ⊥) → (m.service.depth ≡ 0) ⊎ ((current_rank m.controller).0 ≡ (below_of m.service.stack m.service.depth).0)
current-below m f h = go m.service.depth refl
  where
    go : (d : ℕ) → m.service.depth ≡ d → (m.service.depth ≡ 0) ⊎ ((current_rank m.controller).0 ≡ (below_of m.service.stack m.service.depth).0)
    go zero z = inl z
    go (suc t) z =
        let i : m.service.depth - 1 ≡ t = omega arith in
        inr (top-current m f h (omega arith) ∙ ap (λ (j : ℕ). (handler_at m.service.stack j).rank.0) i
        ∙ sym (ap (λ (a : Rank). a.0) (ap (below_of m.service.stack) z ∙ below_next m.service.stack t)))

-- The uppermost of the others is opened, with the mask on.
top-opened : (m : Machine) → Sound m → (m.service.mask ≡ 0 → ⊥) → (j : ℕ) → suc j ≡ m.service.depth → (handler_at m.service.stack j).opened ≡ 1
top-opened m f h j e = go f.masked
  where
    go : (m.service.mask ≡ 0) ⊎ ((m.service.depth ≡ 0) ⊎ ((uppermost m).opened ≡ 1)) → (handler_at m.service.stack j).opened ≡ 1
    go (inl z) = absurd (h z)
    go (inr (inl z)) = absurd (omega arith)
    go (inr (inr o)) = let i : m.service.depth - 1 ≡ j = omega arith in ap (λ (a : ℕ). (handler_at m.service.stack a).opened) (sym i) ∙ o

-- Take.
module _ (m : Machine) (r : sound_of m ≡ true) (h : m.service.mask ≡ 0 → ⊥) (g : lt_z (pos 0) (look_at m).margin ≡ true) where
  -- There is a place, so the number of handlers does not wrap.
  pub one_more-is : one_more m.service.depth ≡ m.service.depth + 1
  one_more-is = omega (arith, room m (facts m r) h g)

  new-stored : Stored m.service.stack m.service.depth (new_handler m) (source_count m.controller) (m.service.depth + 1)
  new-stored =
      let s = facts m r in
      let o = margin-over m.controller g in
      let k = look-found m.controller s.controller (omega (arith, o.current)) in
      let b = current-below m s h in
      record {
        source-least = k.winner.eligible.least;
        source-most = k.winner.eligible.most;
        rank-least = omega (arith, o.current);
        rank_most = k.rank_most;
        rises = ⊎_elim (λ e. inl e) (λ e. inr (omega (arith, e, o.current))) b;
        mark = omega arith;
        opened = inl (omega arith);
        saves = b;
        saved-less = o.current;
      }

  has-place : m.service.depth < length m.service.stack
  has-place = omega (arith, (facts m r).places, room m (facts m r) h g)

  taken_fine : (j : ℕ) → j < m.service.depth + 1 → Fine (source_count m.controller) (m.service.depth + 1) (taken m).service.stack j
  taken_fine j l = go (cases_eq j m.service.depth)
    where
      go : (j ≡ m.service.depth) ⊎ (j ≡ m.service.depth → ⊥) → Fine (source_count m.controller) (m.service.depth + 1) (taken m).service.stack j
      go (inl e) = rw e (fine-stored m.service.stack m.service.depth (new_handler m) (source_count m.controller) (m.service.depth + 1) has-place new-stored)
      go (inr e) =
          let f = facts m r in
          let k = f.handlers j (omega (arith, e)) in
          fine-kept m.service.stack m.service.depth (new_handler m) (source_count m.controller) (m.service.depth + 1) j (omega (arith, e)) k
          (⊎_elim (λ z. inr (top-opened m f h j z)) (λ z. inr z) k.opened)

  taken-level : (current_rank m.controller).0 ≡ (level_of (uppermost (taken m))).0
  taken-level =
      let i : one_more m.service.depth - 1 ≡ m.service.depth = omega (arith, one_more-is) in
      let t : uppermost (taken m) ≡ new_handler m = rw i (get_or-set_same m.service.stack m.service.depth (new_handler m) blank has-place) in
      sym (ap (λ (q : Handler). (level_of q).0) t ∙ ap (λ (a : Rank). a.0) (level-unopened (new_handler m) refl))

  taken-sound : sound_of (taken m) ≡ true
  taken-sound =
      let s = facts m r in
      sound (taken m)
      (record {
        places = simp length-set s.places;
        few = omega (arith, one_more-is, room m s h g);
        bit = omega arith;
        handlers = λ j l. rw (capture-count m.controller, one_more-is) (taken_fine j (omega (arith, l, one_more-is)));
        current = inr (ap (λ (a : Rank). a.0) (capture-current m.controller) ∙ taken-level);
        masked = inl refl;
        controller = capture-sound m.controller s.controller;
        counters = s.counters;
      })

-- A store over the uppermost handler that keeps its rank, its saved rank and the depth.
module _ (m : Machine) (r : sound_of m ≡ true) (d : 0 < m.service.depth) (h : Handler) (sl : 1 ≤ h.source) (sm : h.source ≤ source_count m.controller)
    (hr : h.rank ≡ (uppermost m).rank) (hs : h.saved ≡ (uppermost m).saved) (ho : h.opened ≤ 1) where
  over-stored : Stored m.service.stack (m.service.depth - 1) h (source_count m.controller) m.service.depth
  over-stored =
      let t = top_fine m (facts m r) d in
      record {
        source-least = sl;
        source-most = sm;
        rank-least = rw hr t.rank-least;
        rank_most = rw hr t.rank_most;
        rises = rw hr t.rises;
        mark = ho;
        opened = inl (omega arith);
        saves = rw hs t.saves;
        saved-less = rw (hr, hs) t.saved-less;
      }

  over-place : m.service.depth - 1 < length m.service.stack
  over-place = omega (arith, (facts m r).places, (facts m r).few)

  over-fine : (j : ℕ) → j < m.service.depth → Fine (source_count m.controller) m.service.depth (set m.service.stack (m.service.depth - 1) h) j
  over-fine j l = go (cases_eq j (m.service.depth - 1))
    where
      go : (j ≡ m.service.depth - 1) ⊎ (j ≡ m.service.depth - 1 → ⊥) → Fine (source_count m.controller) m.service.depth (set m.service.stack (m.service.depth - 1) h) j
      go (inl e) = rw e (fine-stored m.service.stack (m.service.depth - 1) h (source_count m.controller) m.service.depth over-place over-stored)
      go (inr e) =
          let k = (facts m r).handlers j l in
          fine-kept m.service.stack (m.service.depth - 1) h (source_count m.controller) m.service.depth j (omega (arith, e)) k k.opened

  over-top : handler_at (set m.service.stack (m.service.depth - 1) h) (m.service.depth - 1) ≡ h
  over-top = get_or-set_same m.service.stack (m.service.depth - 1) h blank over-place

-- Open.
opened-sound : (m : Machine) → sound_of m ≡ true → 0 < m.service.depth → sound_of (opened m) ≡ true
opened-sound m r d =
    let s = facts m r in
    let t = top_fine m s d in
    let q = with_opened (uppermost m) 1 in
    let e = over-top m r d q t.source-least t.source-most refl refl (omega arith) in
    sound (opened m)
    (record {
      places = simp length-set s.places;
      few = s.few;
      bit = omega arith;
      handlers = λ j l. rw (current-count m.controller (uppermost m).rank) (over-fine m r d q t.source-least t.source-most refl refl (omega arith) j l);
      current =
          inr (ap (λ (a : Rank). a.0) (current-is m.controller (uppermost m).rank t.rank_most ∙ sym (level-opened q refl))
          ∙ ap (λ (z : Handler). (level_of z).0) (sym e));
      masked = inr (inr (ap (λ (z : Handler). z.opened) e));
      controller = current-sound m.controller s.controller (uppermost m).rank t.rank_most;
      counters = s.counters;
    })

-- Return: below the uppermost, if any, stands an opened handler of its saved rank.
returned-top : (m : Machine) → sound_of m ≡ true → 0 < m.service.depth → (k : ℕ) → m.service.depth - 1 ≡ k
    → (k ≡ 0) ⊎ (((handler_at m.service.stack (k - 1)).opened ≡ 1) × ((uppermost m).saved.0 ≡ (handler_at m.service.stack (k - 1)).rank.0))
returned-top m r d zero e = inl refl
returned-top m r d (suc k) e =
    let f = facts m r in
    let b = f.handlers k (omega arith) in
    let t = top_fine m f d in
    let j : suc k - 1 ≡ k = omega arith in
    inr (
      rw j (⊎_elim (λ z. absurd (omega arith)) (λ z. z) b.opened),
      rw j (⊎_elim (λ z. absurd (omega arith)) (λ z. z ∙ ap (λ (a : Rank). a.0) (ap (below_of m.service.stack) e ∙ below_next m.service.stack k)) t.saves),
    )

returned-sound : (m : Machine) → sound_of m ≡ true → 0 < m.service.depth → sound_of (returned m) ≡ true
returned-sound m r d =
    let s = facts m r in
    let t = top_fine m s d in
    let k = returned-top m r d (m.service.depth - 1) refl in
    sound (returned m)
    (record {
      places = s.places;
      few = omega (arith, s.few);
      bit = omega arith;
      handlers = λ j l.
          rw (current-count m.controller (uppermost m).saved)
          (fine-popped (source_count m.controller) m.service.depth m.service.stack j (omega arith) (s.handlers j (omega arith)));
      current =
          ⊎_elim (λ e. inl e)
          (λ e. inr (ap (λ (a : Rank). a.0) (current-is m.controller (uppermost m).saved (saved-small m s d)) ∙ e.1
          ∙ sym (ap (λ (a : Rank). a.0) (level-opened (handler_at m.service.stack (m.service.depth - 1 - 1)) e.0))))
          k;
      masked = inr (⊎_elim (λ e. inl e) (λ e. inr e.0) k);
      controller = current-sound m.controller s.controller (uppermost m).saved (saved-small m s d);
      counters = s.counters;
    })

-- Chain and commit: the capture, and the uppermost handler with another source.
captured-sound : (m : Machine) → sound_of m ≡ true → sound_of (captured m) ≡ true
captured-sound m r =
    let c = m.controller in
    controller-sound m (capture_of c (look_at m).winner) r (capture-sound c (facts m r).controller) (capture-count c) (inr (capture-current c))

chained-sound : (m : Machine) → sound_of m ≡ true → 0 < m.service.depth → serves m ≡ true → sound_of (chained m) ≡ true
chained-sound m r d e =
    let c = m.controller in
    let s = facts m r in
    let t = top_fine m s d in
    let k = (served-facts m s e).found in
    let q = captured-sound m r in
    let f = facts (captured m) q in
    let h = with_source (uppermost m) (look_at m).winner.source in
    let n : (look_at m).winner.source ≤ source_count (captured m).controller = rw (capture-count c) k.winner.eligible.most in
    let z = over-top (captured m) q d h k.winner.eligible.least n refl refl t.mark in
    let l : level_of (uppermost (chained m)) ≡ level_of (uppermost m) = ap level_of z ∙ level-same h (uppermost m) refl refl refl in
    sound (chained m)
    (record {
      places = simp length-set f.places;
      few = f.few;
      bit = f.bit;
      handlers = over-fine (captured m) q d h k.winner.eligible.least n refl refl t.mark;
      current = ⊎_elim (λ y. inl y) (λ y. inr (y ∙ ap (λ (a : Rank). a.0) (sym l))) f.current;
      masked = ⊎_elim (λ y. inl y) (λ y. inr (⊎_elim (λ w. inl w) (λ w. inr (ap (λ (a : Handler). a.opened) z ∙ w)) y)) f.masked;
      controller = f.controller;
      counters = f.counters;
    })

-- Set mask.
masked-sound : (m : Machine) → sound_of m ≡ true → (v : ℕ) → leb v 1 ≡ true → (eqb v 0 || is_open m) ≡ true → sound_of (with_mask m v) ≡ true
masked-sound m r v l e =
    let f = facts m r in
    sound (with_mask m v)
    (record {
      places = f.places;
      few = f.few;
      bit = leb-true v 1 l;
      handlers = f.handlers;
      current = f.current;
      masked = ⊎_elim (λ z. inl (eqb-true v 0 z)) (λ z. inr (open-cases m.service z)) (or_cases (eqb v 0) (is_open m) e);
      controller = f.controller;
      counters = f.counters;
    })

-- A store that does not switch priord: where it is to 0x3000, it stores the priord that is there.
pub kept-order : (m : Machine) (a v : ℕ) → switches m a v ≡ false → a ≡ 0x3000 → v % 2 ≡ priority_order m.controller
kept-order m a v f e =
    let g : not (eqb (v % 2) (priority_order m.controller)) ≡ false = rw (eq-eqb a 0x3000 e) at f in
    eqb-true _ _ (not-false _ g)

-- The controller's own events, and those of the counters.
module _ (m : Machine) (r : sound_of m ≡ true) where
  is-sound-controller : pic.sound_of m.controller ≡ true
  is-sound-controller = (facts m r).controller

  -- The controller that it was given.
  same-sound : (c : Controller) → c ≡ m.controller → sound_of (with_controller m c) ≡ true
  same-sound c e = rw e r

  writes-sound : (a v : ℕ) → v < 2 ^ 32 → may_write m a ≡ true → sound_of (lifted m (csrs.csr_write_of m.controller a v)).machine ≡ true
  writes-sound a v b f =
      controller-sound m _ r (csr-write-sound m.controller is-sound-controller a v b) (csr-write-count m.controller a v)
      (⊎_elim (λ g. inr (csr-write-current m.controller a v (λ z. eqb-false a 0xBCC (not-true _ g) z))) (λ g. inl (eqb-true m.service.depth 0 g))
      (or_cases (not (eqb a 0xBCC)) (eqb m.service.depth 0) f))

  stores-sound : (a v : ℕ) → may_store m a v ≡ true → sound_of (lifted m (registers.store_of m.controller a v)).machine ≡ true
  stores-sound a v f =
      controller-sound m _ r (store-sound m.controller is-sound-controller a v) (store-count m.controller a v)
      (⊎_elim (λ g. inr (store-current m.controller a v (kept-order m a v (not-true _ g)))) (λ g. inl (eqb-true m.service.depth 0 g))
      (or_cases (not (switches m a v)) (eqb m.service.depth 0) f))

  -- Every event keeps a sound machine sound.
  pub step-sound : (head v : ℕ) → v < 2 ^ 32 → sound_of (step_of m head v).machine ≡ true
  step-sound head v b =
      let a = address_of head in
      step-cases m head v (λ k o. sound_of o.machine ≡ true)
      (record {
        refuses = λ k q n. r;
        samples =
            controller-sound m _ r (sample-sound m.controller is-sound-controller a v) (sample-count m.controller a v)
            (inr (sample-current m.controller a v));
        loads = same-sound _ (load_same m.controller a);
        stores = λ f. stores-sound a v f;
        reads = same-sound _ (csr-read-same m.controller a);
        counter-reads = λ f. r;
        writes = λ f. writes-sound a v b f;
        counter-writes = λ f. counters-sound m _ r (written-sound m.counters (counters.csr_at a) v b (facts m r).counters);
        takes = λ f g. taken-sound m r (λ z. let o = eqb-true m.service.mask 1 f in omega arith) g;
        opens = λ f. opened-sound m r (ltb-true 0 m.service.depth f);
        chains = λ f e. chained-sound m r (ltb-true 0 m.service.depth f) e;
        passes = captured-sound m r;
        returns = λ f. returned-sound m r (ltb-true 0 m.service.depth f);
        masks = λ f g. masked-sound m r v f g;
        clocks = counters-sound m _ r (clock-sound m.counters (facts m r).counters);
        errors = λ f. counters-sound m _ r (error-sound m.counters a (facts m r).counters);
        looks = r;
        commits = λ f e. chained-sound m r (ltb-true 0 m.service.depth f) e;
      })

-- Power-on is sound, also with an N that it refuses.
pub power-on-sound : (n : ℕ) → sound_of (power_on_of n).machine ≡ true
unfolding power_on_of
power-on-sound n =
    sound (power_on_of n).machine
    (record {
      places = refl;
      few = omega arith;
      bit = omega arith;
      handlers = λ j l. absurd (omega arith);
      current = inl refl;
      masked = inl refl;
      controller = controllers.power-on-sound n;
      counters = reset-sound;
    })

-- It has no handler.
pub power-on-empty : (n : ℕ) → (power_on_of n).machine.service.depth ≡ 0
unfolding power_on_of
power-on-empty n = refl
