-- What a sample and a store leave: every source of another word, every source but one.
use Prim.{Unit, tt}
use Prim.Native.Nat.{ℕ, ◌/◌, ◌%◌, ◌<◌, ◌≤◌}
use mathlib.Core.Path.{◌≡◌, refl}
use mathlib.Core.Bool.{Bool, true, false, cond}
use mathlib.Core.Logic.{inl}
use native.Mathlib.Omega.{arith}
use lib.Dec.{eqb, leb, ltb}
use lib.ListN.{set}
use lib.Seq.{get_or-set_other}
use Rattle.pic_source.specs.Sources.{is_source}
use Rattle.pic_source.proofs.Ranges.{source-range}
use Rattle.pic.specs.declared.Controller.{Controller}
use Rattle.pic.specs.Calls.{accepts, asks}
use Rattle.std.specs.Prelude.{Option, Some, None}
use Rattle.pic_registers.specs.declared.Register.{Register}
use Rattle.pic_registers.specs.declared.Register.TheVariants.{Meipl, Meip, Meie, Mpiccfg, Meigwctrl, Meigwclr}
use Rattle.pic_registers.specs.Offsets.{source_register, page_register, register_at, offset_refusal}
use Rattle.pic_registers.specs.Registers.{sampled, written_of}
use Rattle.pic_registers.specs.Calls.{sample_of, store_of}
use Rattle.pic_registers.proofs.Words.{line_kept, latch-kept}
use Rattle.pic_ready.specs.Ready.{ready_at, belongs}

-- A sample leaves the sources of every other word.
pub sample-others : (c : Controller) (x v r t : ℕ) → (t / 32 ≡ x → ⊥) → belongs c r t ≡ belongs (sampled c x v) r t
unfolding ready_at
sample-others c x v r t n = rw (line_kept c x v t (inl n), latch-kept c x v t (inl n))

-- The register is of no source, or of another than t.
abbrev Apart : Option Register → ℕ → Type 0
Apart (Some (Meipl s)) t = t ≡ s → ⊥
Apart (Some (Meip x)) t = Unit {0}
Apart (Some (Meie s)) t = t ≡ s → ⊥
Apart (Some Mpiccfg) t = Unit {0}
Apart (Some (Meigwctrl s)) t = t ≡ s → ⊥
Apart (Some (Meigwclr s)) t = t ≡ s → ⊥
Apart None t = Unit {0}

-- A store leaves every other source, where it leaves priord.
written-others : (c : Controller) (g : Option Register) (v r t : ℕ) → Apart g t → (written_of c g v).scalars.priord ≡ c.scalars.priord
    → belongs c r t ≡ belongs (written_of c g v) r t
unfolding written_of ready_at
written-others c (Some (Meipl s)) v r t n e = rw (get_or-set_other c.field s t (v % 16) 0 n)
written-others c (Some (Meip x)) v r t n e = refl
written-others c (Some (Meie s)) v r t n e = rw (get_or-set_other c.enable s t (v % 2) 0 n)
written-others c (Some Mpiccfg) v r t n e = rw e
written-others c (Some (Meigwctrl s)) v r t n e =
    rw (get_or-set_other c.trigger s t (v / 2 % 2) 0 n, get_or-set_other c.polarity s t (v % 2) 0 n, get_or-set_other c.latch s t _ 0 n)
written-others c (Some (Meigwclr s)) v r t n e = rw (get_or-set_other (set c.latch s 0) s t _ 0 n, get_or-set_other c.latch s t 0 0 n)
written-others c None v r t n e = refl

-- The register at an offset is of the source that the offset's word in its page has as number.
apart-at : (n o t : ℕ) → n ≤ 255 → (t ≡ o % 4096 / 4 % 256 → ⊥) → Apart (register_at n o) t
unfolding page_register source_register
apart-at n o t l d =
    go (eqb (o / 4096) 1) (ltb (o % 4096 / 4) 8) (eqb (o / 4096) 3) (eqb (o % 4096 / 4) 0) (is_source n (o % 4096 / 4)) refl
    (eqb (o / 4096) 0) (eqb (o / 4096) 2) (eqb (o / 4096) 4) (eqb (o / 4096) 5)
  where
    i : ℕ
    i = o % 4096 / 4

    other : is_source n i ≡ true → t ≡ i → ⊥
    other e f = d (omega (arith, f, l, (source-range n i e).1))

    go : (a b k z s : Bool) → is_source n i ≡ s → (p0 p2 p4 p5 : Bool)
        → Apart (cond a (cond b (Some (Meip i)) None)
        (cond k (cond z (Some Mpiccfg) None)
        (cond s (cond p0 (Some (Meipl i)) (cond p2 (Some (Meie i)) (cond p4 (Some (Meigwctrl i)) (cond p5 (Some (Meigwclr i)) None)))) None))) t
    go true true k z s e p0 p2 p4 p5 = tt
    go true false k z s e p0 p2 p4 p5 = tt
    go false b true true s e p0 p2 p4 p5 = tt
    go false b true false s e p0 p2 p4 p5 = tt
    go false b false z true e true p2 p4 p5 = other e
    go false b false z true e false true p4 p5 = other e
    go false b false z true e false false true p5 = other e
    go false b false z true e false false false true = other e
    go false b false z true e false false false false = tt
    go false b false z false e p0 p2 p4 p5 = tt

pub store-others : (c : Controller) (o v r t : ℕ) → c.sources ≤ 255 → (t ≡ o % 4096 / 4 % 256 → ⊥) → (store_of c o v).machine.scalars.priord ≡ c.scalars.priord
    → belongs c r t ≡ belongs (store_of c o v).machine r t
unfolding store_of
store-others c o v r t l d = go (eqb (offset_refusal o) 0)
  where
    after : Bool → Controller
    after b = (asks c b (offset_refusal o) (accepts (written_of c (register_at c.sources o) v) 0)).machine

    go : (b : Bool) → (after b).scalars.priord ≡ c.scalars.priord → belongs c r t ≡ belongs (after b) r t
    go true f = written-others c (register_at c.sources o) v r t (apart-at c.sources o t l d) f
    go false f = refl

-- What a sample leaves, with question 9 asked.
module _ (c : Controller) (x v : ℕ) where
  after : Bool → Controller
  after b = (asks c b 9 (accepts (sampled c x v) 0)).machine

  pub sampled-others : (r t : ℕ) → t < 256 → (t / 32 ≡ x % 8 → ⊥) → belongs c r t ≡ belongs (sample_of c x v).machine r t
  unfolding sample_of after
  sampled-others r t l d = go (leb x 7) refl
    where
      go : (b : Bool) → leb x 7 ≡ b → belongs c r t ≡ belongs (after b) r t
      go true f = sample-others c x v r t (λ e. d (omega (arith, e, l)))
      go false f = refl

  pub sampled-order : (sample_of c x v).machine.scalars.priord ≡ c.scalars.priord
  unfolding sample_of after
  sampled-order = go (leb x 7)
    where
      go : (b : Bool) → (after b).scalars.priord ≡ c.scalars.priord
      go true = refl
      go false = refl
