-- Every call keeps a sound controller sound.
use Prim.Native.Nat.{ℕ, zero, suc, ◌/◌, ◌%◌, ◌≤◌}
use mathlib.Core.Path.{◌≡◌, refl}
use mathlib.Core.Bool.{Bool, true, false, cond}
use mathlib.Core.List.{List}
use native.Mathlib.Omega.{arith}
use lib.ListN.{get_or, set}
use lib.Dec.{eqb}
use Rattle.std.specs.Prelude.{Option, Some, None}
use Rattle.pic_registers.specs.declared.Register.{Register}
use Rattle.pic_registers.specs.declared.Register.TheVariants.{Meipl, Meip, Meie, Mpiccfg, Meigwctrl, Meigwclr}
use Rattle.pic.specs.declared.Controller.{Controller}
use Rattle.pic.specs.Fields.{with_priord}
use Rattle.pic_source.specs.Sources.{is_source, latch_after}
use Rattle.pic.specs.Sources.{polarity_at, line_at, latch_at}
use Rattle.pic_bits.specs.Bits.{bit_of, source_of}
use Rattle.pic_registers.specs.Words.{places_to}
use Rattle.pic_registers.specs.Offsets.{is_register}
use Rattle.pic_registers.specs.Registers.{latch_sampled, sampled, written_of}
use Rattle.pic_source.proofs.Ranges.{source-range}
use Rattle.pic.proofs.Latches.{after-after, after_small}
use Rattle.pic.proofs.Soundness.{Column, column-set, Sound, scalars-sound, columns-sound}
use Rattle.pic_registers.proofs.Follow.{sample-latch, store-latch}

-- Values in range stay so.
small : (v : ℕ) → v % 2 ≤ 1
small v = omega arith

pub written-field : (v : ℕ) → v % 16 ≤ 15
written-field v = omega arith

-- An array whose places of word x take values in range.
places-column : {n m : ℕ} {l : List ℕ} (x : ℕ) (f : ℕ → ℕ) → ((y : ℕ) → is_source n (source_of x y) ≡ true → f y ≤ m) → Column n l m
    → (k : ℕ) → Column n (places_to n l x f k) m
unfolding places_to
places-column x f h c zero = c
places-column {n} {m} {l} x f h c (suc k) = go (is_source n (source_of x k)) refl (places-column x f h c k)
  where
    go : (t : Bool) → is_source n (source_of x k) ≡ t → Column n (places_to n l x f k) m
        → Column n (cond t (set (places_to n l x f k) (source_of x k) (f k)) (places_to n l x f k)) m
    go true e i = column-set (source_of x k) (f k) (h k e) i
    go false e i = i

-- A latch that followed its line is as its line asks.
follows-settled : (line polarity before : ℕ) {latch : ℕ} → latch ≡ latch_after line polarity before → latch_after line polarity latch ≡ latch
follows-settled line polarity before e = rw e (after-after line polarity before)

-- One latch that follows its line stays in range.
latch-column : {n : ℕ} {l : List ℕ} (line polarity s : ℕ) → is_source n s ≡ true → Column n l 1
    → Column n (set l s (latch_after line polarity (get_or l s 0))) 1
latch-column {n} {l} line polarity s i k =
    let r = source-range n s i in
    column-set s (latch_after line polarity (get_or l s 0)) (after_small line polarity (get_or l s 0) (k.each s r.0 r.1)) k

pub sampled-sound : (c : Controller) (x v : ℕ) → Sound c → Sound (sampled c x v)
sampled-sound c x v h =
    let k = h.columns in
    columns-sound c (sampled c x v) h refl refl
    (record {
      field = k.field;
      enable = k.enable;
      trigger = k.trigger;
      polarity = k.polarity;
      line = places-column x (bit_of v) (λ y i. omega arith) k.line 32;
      latch = places-column x (latch_sampled c x v) latches k.latch 32;
    })
    (λ s a b. follows-settled (line_at (sampled c x v) s) (polarity_at c s) (latch_at c s) (sample-latch c x v h s a b))
  where
    latches : (y : ℕ) → is_source c.sources (source_of x y) ≡ true → latch_sampled c x v y ≤ 1
    latches y i =
        let r = source-range c.sources (source_of x y) i in
        after_small (bit_of v y) (polarity_at c (source_of x y)) (latch_at c (source_of x y)) (h.columns.latch.each (source_of x y) r.0 r.1)

-- A store changes one column, or two and a latch.
pub written-sound : (c : Controller) (r : Option Register) (v : ℕ) → is_register c.sources r ≡ true → Sound c → Sound (written_of c r v)
unfolding written_of
written-sound c (Some (Meipl s)) v i h =
    let k = h.columns in
    columns-sound c (written_of c (Some (Meipl s)) v) h refl refl
    (record {
      field = column-set s (v % 16) (written-field v) k.field;
      enable = k.enable;
      trigger = k.trigger;
      polarity = k.polarity;
      line = k.line;
      latch = k.latch;
    })
    h.latched
written-sound c (Some (Meip x)) v i h = h
written-sound c (Some (Meie s)) v i h =
    let k = h.columns in
    columns-sound c (written_of c (Some (Meie s)) v) h refl refl
    (record {
      field = k.field;
      enable = column-set s (v % 2) (small v) k.enable;
      trigger = k.trigger;
      polarity = k.polarity;
      line = k.line;
      latch = k.latch;
    })
    h.latched
written-sound c (Some Mpiccfg) v i h =
    let r = h.ranges in
    scalars-sound c (with_priord c.scalars (v % 2)) h
    (record {
      priord = small v;
      base = r.base;
      claim = r.claim;
      threshold = r.threshold;
      claimed = r.claimed;
      current = r.current;
    })
written-sound c (Some (Meigwctrl s)) v i h =
    let k = h.columns in
    columns-sound c (written_of c (Some (Meigwctrl s)) v) h refl refl
    (record {
      field = k.field;
      enable = k.enable;
      trigger = column-set s (v / 2 % 2) (small (v / 2)) k.trigger;
      polarity = column-set s (v % 2) (small v) k.polarity;
      line = k.line;
      latch = latch-column (line_at c s) (polarity_at (written_of c (Some (Meigwctrl s)) v) s) s i k.latch;
    })
    (λ t a b. follows-settled (line_at c t) (polarity_at (written_of c (Some (Meigwctrl s)) v) t) (latch_at c t) (store-latch c (Some (Meigwctrl s)) v h i t a b))
written-sound c (Some (Meigwclr s)) v i h =
    let k = h.columns in
    columns-sound c (written_of c (Some (Meigwclr s)) v) h refl refl
    (record {
      field = k.field;
      enable = k.enable;
      trigger = k.trigger;
      polarity = k.polarity;
      line = k.line;
      latch = latch-column (line_at c s) (polarity_at c s) s i (column-set s 0 (omega arith) k.latch);
    })
    (λ t a b. follows-settled (line_at c t) (polarity_at c t) (cond (eqb s t) 0 (latch_at c t)) (store-latch c (Some (Meigwclr s)) v h i t a b))
written-sound c None v i h = h
