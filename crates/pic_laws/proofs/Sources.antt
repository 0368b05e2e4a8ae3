-- The latches and the fields of the sources after a call, source by source, and priord.
use Prim.Native.Nat.{ℕ, ◌+◌, ◌*◌, ◌%◌, ◌≤◌}
use mathlib.Core.Path.{◌≡◌, refl, sym, ap, ◌∙◌}
use mathlib.Core.Bool.{Bool, true, false, cond, ◌&&◌}
use mathlib.Core.List.{List}
use mathlib.Core.Logic.{◌⊎◌, inl, inr}
use native.Mathlib.Omega.{arith}
use lib.ListN.{get_or}
use lib.Seq.{get_or-set_same}
use lib.Dec.{leb, eqb}
use borrow.Author.Tests.{eqb-true, eqb-false, eq-eqb, ne_eqb, le-leb}
use Rattle.pic.specs.declared.Controller.{Controller}
use Rattle.pic.specs.declared.Scalars.{Scalars}
use Rattle.pic.specs.Outcome.{Outcome}
use Rattle.pic_comparator.specs.declared.Winner.{Winner}
use Rattle.pic_source.specs.declared.Rank.{Rank}
use Rattle.pic_source.specs.declared.Field.{Field}
use Rattle.pic_source.specs.Ranks.{field, mirror, rank_of}
use Rattle.pic_source.specs.Sources.{is_source, latch_after}
use Rattle.std.specs.Prelude.{Option, Some, None}
use Rattle.pic_registers.specs.declared.Register.{Register}
use Rattle.pic_registers.specs.declared.Register.TheVariants.{Meipl, Meip, Meie, Mpiccfg, Meigwctrl, Meigwclr}
use Rattle.pic.specs.Sources.{field_at, rank_at, enable_at, pending_at, eligible_at, is_eligible, latch_at}
use Rattle.pic.specs.Sound.{sound_of}
use Rattle.pic.specs.Calls.{accepts, asks, source_count, priority_order, set_current, capture_of}
use Rattle.pic_registers.specs.Registers.{sampled, written_of, clears}
use Rattle.pic_registers.specs.Offsets.{register_at, offset_refusal}
use Rattle.pic_registers.specs.Calls.{sample_of, store_of}
use Rattle.pic_csrs.specs.Addresses.{csr_at}
use Rattle.pic_csrs.specs.Calls.{csr_write_of}
use Rattle.std.proofs.lemmas.Bool.{cases_eq}
use Rattle.pic_source.proofs.Bools.{never}
use Rattle.pic.proofs.Soundness.{facts}
use Rattle.pic_registers.proofs.Offsets.{offset-register, register-offset, register-valid, meipl-at, meipl-accepted, aligned}
use Rattle.pic_registers.proofs.Follow.{Follows, sample-latch, store-latch, store-field, store-scalars}
use Rattle.pic_laws.proofs.Kept.{ask-keeps, same_store, same-csr-write, csr-priord}

-- The arrays that the laws below look at, and priord.
pub record Arrays : Type 0 where
  pub priord : ℕ
  pub field : List ℕ
  pub polarity : List ℕ
  pub line : List ℕ
  pub latch : List ℕ

abbrev pub arrays_of : Controller → Arrays
arrays_of c = record { priord = c.scalars.priord; field = c.field; polarity = c.polarity; line = c.line; latch = c.latch }

pub csr-write-arrays : (c : Controller) (a v : ℕ) → arrays_of (csr_write_of c a v).machine ≡ arrays_of c
unfolding capture_of
csr-write-arrays c a v =
    same-csr-write arrays_of c a v refl
    (ap (λ (p : ℕ). record { priord = p; field = c.field; polarity = c.polarity; line = c.line; latch = c.latch }) (csr-priord c.scalars v (csr_at a)))

pub capture-arrays : (c : Controller) (w : Winner) → arrays_of (capture_of c w) ≡ arrays_of c
unfolding capture_of
capture-arrays c w = refl

pub current-arrays : (c : Controller) (r : Rank) → arrays_of (set_current c r) ≡ arrays_of c
unfolding set_current
current-arrays c r = refl

-- Where these stay, each latch of a sound controller follows its line, and each field and priord stay.
pub arrays-follow : (c d : Controller) → sound_of c ≡ true → arrays_of d ≡ arrays_of c → (s : ℕ) → 1 ≤ s → s ≤ source_count c → Follows d s (latch_at c s)
unfolding source_count
arrays-follow c d e h s a b =
    ap (λ (z : Arrays). get_or z.latch s 0) h ∙ sym ((facts c e).latched s a b)
    ∙ ap (λ (z : Arrays). latch_after (get_or z.line s 0) (get_or z.polarity s 0) (latch_at c s)) (sym h)

-- What a call that is a store to this offset, or none, leaves: the field of source s, but for a store to its meipl; priord, but for a store to mpiccfg.
pub record Stays (store : Type 0) (o s : ℕ) (c d : Controller) : Type 0 where
  pub field : (store → o ≡ 4 * s → ⊥) → field_at d s ≡ field_at c s
  pub priord : (store → o ≡ 0x3000 → ⊥) → priority_order d ≡ priority_order c

-- Where both stay, so does the rank.
pub stays-rank : {store : Type 0} {o s : ℕ} {c d : Controller} → Stays store o s c d → (store → o ≡ 4 * s → ⊥) → (store → o ≡ 0x3000 → ⊥) → rank_at d s ≡ rank_at c s
unfolding priority_order
stays-rank {s = s} {c = c} {d = d} k f p =
    ap (λ (a : ℕ). rank_of a (field_at d s)) (k.priord p) ∙ ap (λ (a : Field). rank_of c.scalars.priord a) (k.field f)

module _ {store : Type 0} {o : ℕ} (c : Controller) (s : ℕ) where
  pub arrays-stay : (d : Controller) → arrays_of d ≡ arrays_of c → Stays store o s c d
  unfolding priority_order
  arrays-stay d h = record { field = λ z. ap (λ (a : Arrays). field (get_or a.field s 0)) h; priord = λ z. ap (λ (a : Arrays). a.priord) h }

  pub sample-stays : (x v : ℕ) → Stays store o s c (sample_of c x v).machine
  unfolding sample_of priority_order
  sample-stays x v =
      ask-keeps (Stays store o s c) c (leb x 7) 9 (accepts (sampled c x v) 0) (arrays-stay c refl) (record { field = λ z. refl; priord = λ z. refl })

  pub store-stays : (v : ℕ) → store → Stays store o s c (store_of c o v).machine
  unfolding priority_order
  store-stays v is =
      record {
        field = λ d.
            same_store (λ (a : Controller). field_at a s) c o v
            (λ r k. store-field c r v s (λ z. d is (sym (k (Meipl s) z))));
        priord = λ d.
            same_store priority_order c o v
            (λ r k. ap (λ (a : Scalars). a.priord) (store-scalars c r v (λ z. d is (sym (k Mpiccfg z)))));
      }

-- N of a sound controller.
pub count_most : (c : Controller) → sound_of c ≡ true → source_count c ≤ 255
unfolding source_count
count_most c e = (facts c e).most

-- What an accepted call does to the latch of source s.
abbrev AcceptedFollows : ℕ → ℕ → Outcome → Type 0
AcceptedFollows s before o = o.refusal ≡ 0 → Follows o.machine s before

ask-follows : (s before : ℕ) (c : Controller) (t : Bool) (q : ℕ) (o : Outcome) → (q ≡ 0 → ⊥) → (t ≡ true → AcceptedFollows s before o) → AcceptedFollows s before (asks c t q o)
ask-follows s before c true q o n h = h refl
ask-follows s before c false q o n h = λ z. absurd (n z)

module _ (c : Controller) (e : sound_of c ≡ true) (s : ℕ) (a : 1 ≤ s) (b : s ≤ source_count c) where
  here : s ≤ c.sources
  unfolding source_count
  here = b

  pub sample-follows : (x v : ℕ) → AcceptedFollows s (latch_at c s) (sample_of c x v)
  unfolding sample_of
  sample-follows x v = ask-follows s (latch_at c s) c (leb x 7) 9 (accepts (sampled c x v) 0) (λ z. omega arith) (λ t z. sample-latch c x v (facts c e) s a here)

  -- The offset of a register whose store clears the latch of s is that of its meigwclr.
  clears-only : (r : Option Register) → clears r s ≡ true → r ≡ Some (Meigwclr s)
  clears-only (Some (Meipl t)) h = never h
  clears-only (Some (Meip x)) h = never h
  clears-only (Some (Meie t)) h = never h
  clears-only (Some Mpiccfg) h = never h
  clears-only (Some (Meigwctrl t)) h = never h
  clears-only (Some (Meigwclr t)) h = ap (λ (n : ℕ). Some (Meigwclr n)) (eqb-true t s h)
  clears-only None h = never h

  is-source : is_source c.sources s ≡ true
  is-source = rw (le-leb 1 s a, le-leb s c.sources here)

  clears-at : (o : ℕ) → o % 4 ≡ 0 → clears (register_at c.sources o) s ≡ eqb o (0x5000 + 4 * s)
  clears-at o m = go (cases_eq o (0x5000 + 4 * s))
    where
      other : (t : Bool) → clears (register_at c.sources o) s ≡ t → (o ≡ 0x5000 + 4 * s → ⊥) → clears (register_at c.sources o) s ≡ false
      other false f d = f
      other true f d = absurd (d (sym (register-offset c.sources o (Meigwclr s) m (clears-only (register_at c.sources o) f))))

      go : (o ≡ 0x5000 + 4 * s) ⊎ (o ≡ 0x5000 + 4 * s → ⊥) → clears (register_at c.sources o) s ≡ eqb o (0x5000 + 4 * s)
      go (inl z) =
          let r : register_at c.sources o ≡ Some (Meigwclr s) = ap (register_at c.sources) z ∙ offset-register c.sources (facts c e).most (Meigwclr s) is-source in
          ap (λ (q : Option Register). clears q s) r ∙ eq-eqb s s refl ∙ sym (eq-eqb o (0x5000 + 4 * s) z)
      go (inr d) = other (clears (register_at c.sources o) s) refl d ∙ sym (ne_eqb o (0x5000 + 4 * s) d)

  pub store-follows : (o v : ℕ) → AcceptedFollows s (cond (eqb o (0x5000 + 4 * s)) 0 (latch_at c s)) (store_of c o v)
  unfolding store_of
  store-follows o v = go (eqb (offset_refusal o) 0) refl
    where
      go : (t : Bool) → eqb (offset_refusal o) 0 ≡ t
          → AcceptedFollows s (cond (eqb o (0x5000 + 4 * s)) 0 (latch_at c s)) (asks c t (offset_refusal o) (accepts (written_of c (register_at c.sources o) v) 0))
      go true f z =
          rw (← clears-at o (aligned o (eqb-true (offset_refusal o) 0 f)))
          (store-latch c (register_at c.sources o) v (facts c e) (register-valid c.sources o) s a here)
      go false f z = absurd (eqb-false (offset_refusal o) 0 f z)

  -- A store to its meipl makes the field of a source the value's bits 3:0.
  pub field_stored : (v : ℕ) → field_at (store_of c (4 * s) v).machine s ≡ field (v % 16)
  unfolding store_of written_of
  field_stored v =
      let n = (facts c e).most in
      rw (meipl-accepted c.sources s n is-source, meipl-at c.sources s n is-source, get_or-set_same c.field s (v % 16) 0 (omega (arith, (facts c e).columns.field.long, here)))

-- K2: with priord 1 field 15 is rank 0, and a source of rank 0 is not eligible, on every controller.
pub field-15-never : (c : Controller) (s : ℕ) → priority_order c ≡ 1 → field_at c s ≡ field 15 → eligible_at c s ≡ false
unfolding priority_order is_eligible mirror
field-15-never c s p f =
    let z : (rank_at c s).0 ≡ 0 = ap (λ (a : ℕ). mirror a (field_at c s).0) p ∙ ap (λ (a : Field). mirror 1 a.0) f in
    ap (λ (a : ℕ). eqb (enable_at c s) 1 && pending_at c s && leb 1 a) z ∙ none (eqb (enable_at c s) 1) (pending_at c s)
  where
    none : (x y : Bool) → x && y && false ≡ false
    none true true = refl
    none true false = refl
    none false y = refl
