-- The latches and the fields after a sample and after a store, source by source, the scalars after a store, and what a field's register reads.
use Prim.Native.Nat.{ℕ, ◌/◌, ◌%◌, ◌≤◌, ◌<◌}
use mathlib.Core.Path.{◌≡◌, refl, sym, ap}
use mathlib.Core.Bool.{true, cond}
use mathlib.Core.List.{List}
use mathlib.Core.Logic.{◌⊎◌, inl, inr}
use native.Mathlib.Omega.{arith}
use lib.ListN.{length, get_or, set, length-set}
use lib.Seq.{get_or-set_same, get_or-set_other}
use lib.Dec.{eqb}
use borrow.Author.Tests.{le-leb, eq-eqb, ne_eqb}
use Rattle.std.specs.Prelude.{Option, Some, None}
use Rattle.pic_registers.specs.declared.Register.{Register}
use Rattle.pic_registers.specs.declared.Register.TheVariants.{Meipl, Meip, Meie, Mpiccfg, Meigwctrl, Meigwclr}
use Rattle.pic.specs.declared.Controller.{Controller}
use Rattle.pic.specs.Fields.{with_trigger, with_polarity, with_latch}
use Rattle.pic_source.specs.Sources.{is_source, latch_after}
use Rattle.pic.specs.Sources.{field_at, polarity_at, line_at, latch_at, settle_at}
use Rattle.pic_bits.specs.Bits.{source_of}
use Rattle.pic_registers.specs.Offsets.{is_register}
use Rattle.pic_registers.specs.Registers.{sampled, read_of, written_of, clears}
use Rattle.std.proofs.lemmas.Bool.{cases_eq}
use Rattle.pic_source.proofs.Ranges.{source-range}
use Rattle.pic.proofs.Soundness.{Sound}
use Rattle.pic_registers.proofs.Words.{line-sampled, line_kept, latch-sampled, latch-kept}

-- The latch of source s follows its line: from what it was, or from 0 where it is cleared.
abbrev pub Follows : Controller → ℕ → ℕ → Type 0
Follows d s latch = latch_at d s ≡ latch_after (line_at d s) (polarity_at d s) latch

in-word : (c : Controller) (x v y : ℕ) → Sound c → y < 32 → is_source c.sources (source_of x y) ≡ true
    → Follows (sampled c x v) (source_of x y) (latch_at c (source_of x y))
in-word c x v y h b i = rw (latch-sampled c x v y b h.columns.latch.long i, line-sampled c x v y b h.columns.line.long i)

pub sample-latch : (c : Controller) (x v : ℕ) → Sound c → (s : ℕ) → 1 ≤ s → s ≤ c.sources
    → latch_at (sampled c x v) s ≡ latch_after (line_at (sampled c x v) s) (polarity_at (sampled c x v) s) (latch_at c s)
sample-latch c x v h s a b = go (cases_eq (s / 32) x)
  where
    go : (s / 32 ≡ x) ⊎ (s / 32 ≡ x → ⊥) → Follows (sampled c x v) s (latch_at c s)
    go (inl e) =
        let z : s ≡ source_of x (s % 32) = omega arith in
        let i : is_source c.sources s ≡ true = rw (le-leb 1 s a, le-leb s c.sources b) in
        rw z (in-word c x v (s % 32) h (omega arith) (rw z at i))
    go (inr d) = rw (latch-kept c x v s (inl d), line_kept c x v s (inl d)) (sym (h.latched s a b))

-- One latch settled, where each other was.
settled_at : (d : Controller) (t s : ℕ) → t < length d.latch
    → ((s ≡ t → ⊥) → latch_after (line_at d s) (polarity_at d s) (latch_at d s) ≡ latch_at d s)
    → Follows (settle_at d t) s (latch_at d s)
settled_at d t s l h = go (cases_eq s t)
  where
    go : (s ≡ t) ⊎ (s ≡ t → ⊥) → Follows (settle_at d t) s (latch_at d s)
    go (inl e) = rw (e, get_or-set_same d.latch t (latch_after (line_at d t) (polarity_at d t) (latch_at d t)) 0 l)
    go (inr n) = rw (get_or-set_other d.latch t s (latch_after (line_at d t) (polarity_at d t) (latch_at d t)) 0 n) (sym (h n))

cleared : (l : List ℕ) (t s : ℕ) → t < length l → get_or (set l t 0) s 0 ≡ cond (eqb t s) 0 (get_or l s 0)
cleared l t s h = go (cases_eq t s)
  where
    go : (t ≡ s) ⊎ (t ≡ s → ⊥) → get_or (set l t 0) s 0 ≡ cond (eqb t s) 0 (get_or l s 0)
    go (inl e) = rw (eq-eqb t s e, ← e, get_or-set_same l t 0 0 h)
    go (inr n) = rw (ne_eqb t s n, get_or-set_other l t s 0 0 (λ z. n (sym z)))

pub store-latch : (c : Controller) (r : Option Register) (v : ℕ) → Sound c → is_register c.sources r ≡ true → (s : ℕ) → 1 ≤ s → s ≤ c.sources
    → latch_at (written_of c r v) s ≡ latch_after (line_at (written_of c r v) s) (polarity_at (written_of c r v) s) (cond (clears r s) 0 (latch_at c s))
unfolding written_of
store-latch c (Some (Meipl t)) v h i s a b = sym (h.latched s a b)
store-latch c (Some (Meip x)) v h i s a b = sym (h.latched s a b)
store-latch c (Some (Meie t)) v h i s a b = sym (h.latched s a b)
store-latch c (Some Mpiccfg) v h i s a b = sym (h.latched s a b)
store-latch c (Some (Meigwctrl t)) v h i s a b =
    settled_at (with_polarity (with_trigger c (set c.trigger t (v / 2 % 2))) (set c.polarity t (v % 2))) t s
    (omega (arith, h.columns.latch.long, (source-range c.sources t i).1))
    (λ n. rw (get_or-set_other c.polarity t s (v % 2) 0 n) (h.latched s a b))
store-latch c (Some (Meigwclr t)) v h i s a b =
    let l : t < length c.latch = omega (arith, h.columns.latch.long, (source-range c.sources t i).1) in
    rw (← cleared c.latch t s l)
    (settled_at (with_latch c (set c.latch t 0)) t s (rw (length-set c.latch t 0) l)
    (λ n. rw (get_or-set_other c.latch t s 0 0 n) (h.latched s a b)))
store-latch c None v h i s a b = sym (h.latched s a b)

-- A store changes no field but that of its own register,
pub store-field : (c : Controller) (r : Option Register) (v s : ℕ) → (r ≡ Some (Meipl s) → ⊥) → field_at (written_of c r v) s ≡ field_at c s
unfolding written_of
store-field c (Some (Meipl t)) v s d = rw (get_or-set_other c.field t s (v % 16) 0 (λ e. d (ap (λ (n : ℕ). Some (Meipl n)) (sym e))))
store-field c (Some (Meip x)) v s d = refl
store-field c (Some (Meie t)) v s d = refl
store-field c (Some Mpiccfg) v s d = refl
store-field c (Some (Meigwctrl t)) v s d = refl
store-field c (Some (Meigwclr t)) v s d = refl
store-field c None v s d = refl

-- and no scalar but priord, where it is to mpiccfg.
pub store-scalars : (c : Controller) (r : Option Register) (v : ℕ) → (r ≡ Some Mpiccfg → ⊥) → (written_of c r v).scalars ≡ c.scalars
unfolding written_of
store-scalars c (Some (Meipl t)) v d = refl
store-scalars c (Some (Meip x)) v d = refl
store-scalars c (Some (Meie t)) v d = refl
store-scalars c (Some Mpiccfg) v d = absurd (d refl)
store-scalars c (Some (Meigwctrl t)) v d = refl
store-scalars c (Some (Meigwclr t)) v d = refl
store-scalars c None v d = refl

-- A field reads as 0..15.
pub read-field : (c : Controller) (s : ℕ) → Sound c → is_source c.sources s ≡ true → read_of c (Some (Meipl s)) ≤ 15
unfolding read_of
read-field c s h i = let r = source-range c.sources s i in h.columns.field.each s r.0 r.1
