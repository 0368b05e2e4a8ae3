-- The small machine meets the laws, so it has the claim; and the claim's words computed.
use Prim.Native.Nat.{ℕ, zero, suc, ◌-◌, ◌*◌, ◌≤◌, ◌<◌}
use mathlib.Core.Path.{◌≡◌, refl, sym, ap, subst, ◌∙◌}
use mathlib.Core.Bool.{Bool, true, false, cond, ◌&&◌}
use mathlib.Core.List.{List, [], ◌∷◌, ◌++◌}
use native.Mathlib.Omega.{arith}
use native.Mathlib.Numerals.{add-one}
use lib.Dec.{eqb, ltb}
use lib.ListN.{length, get_or, set, length-set}
use lib.Seq.{get_or-set_same, get_or-set_other}
use borrow.Author.Tests.{ltb-true, eqb-true, ne_eqb}
use Rattle.nesting.specs.Claim.{Handler, Does, Laws, Nested}
use Rattle.nesting.specs.Held.{held}
use Rattle.nesting.specs.Example.{Slot, Small, Call, ask, rate, take, mark, chain, return, rank_at, blank, uppermost, may_take, new_slot}
use Rattle.nesting.specs.Example.{take_out, opened_slot}
use Rattle.nesting.specs.Example.{mark_out, may_chain, chained_slot, chain_out, return_out, act, class_of, handler_in, Nests, SoundSmall, small}
use Rattle.nesting.specs.Example.{power, Computed, Shown}
use Rattle.nesting.proofs.Opens.{both_true}
use Rattle.nesting.proofs.Held.{held-push, held-pop, held-swap, held-mark, held-top}
use Rattle.nesting.proofs.Nesting.{nesting}

-- There are no more handlers than the current rank.
depth-bound : (l : List Slot) (c d : ℕ) → Nests l c d → d ≤ c
depth-bound l c zero n = omega arith
depth-bound l c (suc d) n = omega (arith, depth-bound l (get_or l d blank).saved d n.3)

top-rank : (l : List Slot) (c d : ℕ) → Nests l c d → 0 < d → c ≡ (get_or l (d - 1) blank).rank
top-rank l c zero n p = absurd (omega arith)
top-rank l c (suc d) n p = let e : suc d - 1 ≡ d = omega arith in rw e n.0

top-range : (l : List Slot) (c d : ℕ) → Nests l c d → 0 < d → c ≤ 2
top-range l c zero n p = absurd (omega arith)
top-range l c (suc d) n p = omega arith

-- A store above the stack.
nests-outside : (l : List Slot) (c d i : ℕ) (h : Slot) → d ≤ i → Nests l c d → Nests (set l i h) c d
nests-outside l c zero i h b n = tt
nests-outside l c (suc d) i h b n =
    rw (get_or-set_other l i d h blank (omega arith))
    (n.0, n.1, n.2, nests-outside l (get_or l d blank).saved d i h (omega arith) n.3)

-- A store over the uppermost of one of the same rank and saved rank.
nests-swap : (l : List Slot) (c d : ℕ) (h : Slot) → d ≤ length l → 0 < d → h.rank ≡ (get_or l (d - 1) blank).rank
    → h.saved ≡ (get_or l (d - 1) blank).saved
    → Nests l c d → Nests (set l (d - 1) h) c d
nests-swap l c zero h b p r s n = tt
nests-swap l c (suc d) h b p r s n =
    let e : suc d - 1 ≡ d = omega arith in
    let r' : h.rank ≡ (get_or l d blank).rank = rw e at r in
    let s' : h.saved ≡ (get_or l d blank).saved = rw e at s in
    let P : ℕ → Type 0 = λ j. Nests (set l j h) c (suc d) in
    subst P (sym e) (
    rw (get_or-set_same l d h blank (omega arith)) (
      n.0 ∙ sym r',
      omega (arith, n.1),
      omega (arith, n.2),
      subst (λ k. Nests (set l d h) k d) (sym s') (nests-outside l (get_or l d blank).saved d d h (omega arith) n.3),
    )
    )

nests-pop : (l : List Slot) (c d : ℕ) → 0 < d → Nests l c d → Nests l (get_or l (d - 1) blank).saved (d - 1)
nests-pop l c zero p n = absurd (omega arith)
nests-pop l c (suc d) p n = let e : suc d - 1 ≡ d = omega arith in rw e n.3

rank-range : (b : Bool) → (1 ≤ cond b 2 1) × (cond b 2 1 ≤ 2)
rank-range true = (omega arith, omega arith)
rank-range false = (omega arith, omega arith)

module _ (m : Small) (s : SoundSmall m) where
  deep : m.depth ≤ 2
  deep = go m.depth s.nests
    where
      go : (d : ℕ) → Nests m.slots m.current d → d ≤ 2
      go zero n = omega arith
      go (suc d) n = omega (arith, depth-bound m.slots m.current (suc d) n, top-range m.slots m.current (suc d) n (omega arith))

  fits : m.depth ≤ length m.slots
  fits = omega (arith, deep, s.places)

  -- What a take asks.
  record Taking : Type 0 where
    asks : 0 < m.asking
    higher : m.current < rank_at m m.asking
    free : m.depth < length m.slots

  may-take : may_take m ≡ true → Taking
  may-take e =
      let p = both_true (ltb 0 m.asking) (ltb m.current (rank_at m m.asking)) e in
      let h = ltb-true m.current (rank_at m m.asking) p.1 in
      record {
        asks = ltb-true 0 m.asking p.0;
        higher = h;
        free = omega (arith, depth-bound m.slots m.current m.depth s.nests, rank-range (m.high m.asking), s.places);
      }

  -- What a chain asks.
  record Chaining : Type 0 where
    some-open : 0 < m.depth
    asks : 0 < m.asking
    same : rank_at m m.asking ≡ (uppermost m).rank

  may-chain : may_chain m ≡ true → Chaining
  may-chain e =
      let p = both_true (ltb 0 m.depth) (ltb 0 m.asking && eqb (rank_at m m.asking) (uppermost m).rank) e in
      let q = both_true (ltb 0 m.asking) (eqb (rank_at m m.asking) (uppermost m).rank) p.1 in
      record {
        some-open = ltb-true 0 m.depth p.0;
        asks = ltb-true 0 m.asking q.0;
        same = eqb-true (rank_at m m.asking) (uppermost m).rank q.1;
      }

  take-sound : (b : Bool) → may_take m ≡ b → SoundSmall (take_out m b).machine
  take-sound false e = s
  take-sound true e =
      let t = may-take e in
      record {
        places = length-set m.slots m.depth (new_slot m) ∙ s.places;
        nests =
            rw (add-one, get_or-set_same m.slots m.depth (new_slot m) blank t.free) (
              refl,
              t.higher,
              (rank-range (m.high m.asking)).1,
              nests-outside m.slots m.current m.depth m.depth (new_slot m) (omega arith) s.nests,
            );
      }

  mark-sound : (b : Bool) → ltb 0 m.depth ≡ b → SoundSmall (mark_out m b).machine
  mark-sound false e = s
  mark-sound true e =
      record {
        places = length-set m.slots (m.depth - 1) (opened_slot (uppermost m)) ∙ s.places;
        nests = nests-swap m.slots m.current m.depth (opened_slot (uppermost m)) fits (ltb-true 0 m.depth e) refl refl s.nests;
      }

  chain-sound : (b : Bool) → may_chain m ≡ b → SoundSmall (chain_out m b).machine
  chain-sound false e = s
  chain-sound true e =
      record {
        places = length-set m.slots (m.depth - 1) (chained_slot m (uppermost m)) ∙ s.places;
        nests = nests-swap m.slots m.current m.depth (chained_slot m (uppermost m)) fits (may-chain e).some-open refl refl s.nests;
      }

  return-sound : (b : Bool) → ltb 0 m.depth ≡ b → SoundSmall (return_out m b).machine
  return-sound false e = s
  return-sound true e =
      record { places = s.places; nests = nests-pop m.slots m.current m.depth (ltb-true 0 m.depth e) s.nests }

  act-sound : (e : Call) → SoundSmall (act e m).machine
  act-sound (ask n) = record { places = s.places; nests = s.nests }
  act-sound (rate h) = record { places = s.places; nests = s.nests }
  act-sound take = take-sound (may_take m) refl
  act-sound mark = mark-sound (ltb 0 m.depth) refl
  act-sound chain = chain-sound (may_chain m) refl
  act-sound return = return-sound (ltb 0 m.depth) refl

  take-does : (b : Bool) → may_take m ≡ b → Does small (class_of take (take_out m b).reply) m (take_out m b).reply (take_out m b).machine
  take-does false e = refl
  take-does true e =
      let t = may-take e in
      record {
        new = handler_in (new_slot m);
        pushed = held-push handler_in m.slots m.depth (new_slot m) t.free;
        serves = record { names = refl; ranked = refl };
        won = record { asks = refl; some-source = t.asks };
        saved = refl;
        above = above;
        in_range = rank-range (m.high m.asking);
      }
    where
      above : (rest : List (Handler ℕ ℕ ℕ)) (top : Handler ℕ ℕ ℕ) → held handler_in m.slots m.depth ≡ rest ++ (top ∷ [])
          → small.Below top.rank (rank_at m m.asking)
      above rest top h =
          let u = held-top handler_in m.slots m.depth blank rest top fits h in
          let r : top.rank ≡ (uppermost m).rank = ap (λ (k : Handler ℕ ℕ ℕ). k.rank) u.1 in
          omega (arith, (may-take e).higher, top-rank m.slots m.current m.depth s.nests u.0)

  mark-does : (b : Bool) → ltb 0 m.depth ≡ b
      → held handler_in (mark_out m b).machine.slots (mark_out m b).machine.depth ≡ held handler_in m.slots m.depth
  mark-does false e = refl
  mark-does true e = held-mark handler_in m.slots m.depth (opened_slot (uppermost m)) blank (ltb-true 0 m.depth e) fits refl

  chain-does : (b : Bool) → may_chain m ≡ b → Does small (class_of chain (chain_out m b).reply) m (chain_out m b).reply (chain_out m b).machine
  chain-does false e = refl
  chain-does true e =
      let t = may-chain e in
      rw (ne_eqb (4 * m.asking) 0 (omega arith))
      (record {
        rest = held handler_in m.slots (m.depth - 1);
        old = handler_in (uppermost m);
        new = handler_in (chained_slot m (uppermost m));
        was = held-pop handler_in m.slots m.depth blank t.some-open fits;
        is = held-swap handler_in m.slots m.depth (chained_slot m (uppermost m)) t.some-open fits;
        serves = record { names = refl; ranked = sym t.same };
        won = record { asks = refl; some-source = t.asks };
        same_rank = refl;
        same-saved = refl;
      })

  return-does : (b : Bool) → ltb 0 m.depth ≡ b → Does small (class_of return (return_out m b).reply) m (return_out m b).reply (return_out m b).machine
  return-does false e = refl
  return-does true e =
      record {
        old = handler_in (uppermost m);
        was = held-pop handler_in m.slots m.depth blank (ltb-true 0 m.depth e) fits;
        restored = refl;
      }

  act-does : (e : Call) → Does small (class_of e (act e m).reply) m (act e m).reply (act e m).machine
  act-does (ask n) = refl
  act-does (rate h) = refl
  act-does take = take-does (may_take m) refl
  act-does mark = mark-does (ltb 0 m.depth) refl
  act-does chain = chain-does (may_chain m) refl
  act-does return = return-does (ltb 0 m.depth) refl

pub small-laws : Laws small
small-laws =
    record {
      stays-sound = λ m e s. act-sound m s e;
      does = λ m e s. act-does m s e;
      below-trans = λ a b c p q. omega arith;
      below-height = λ a b p q h. omega arith;
    }

pub small-nested : (es : List Call) → Nested small power es
small-nested es = nesting small small-laws power (record { places = refl; nests = tt }) refl es

pub small-computed : Computed
small-computed =
    record {
      classes = refl;
      two-stack = refl;
      two-answers = refl;
      one-stack = refl;
      one-answers = refl;
      all-takings = refl;
      all-returns = refl;
      none_left = refl;
      found = refl;
      restored = refl;
    }

pub small-shown : Shown
small-shown = record { laws = small-laws; claim = small-nested; computed = small-computed }
