-- What soundness says, in numbers: the Bool of the rules taken apart and put together, for this crate and those above.
use Rattle.std.proofs.Common.{◌≡◌, ℕ, zero, suc, ◌+◌, ◌*◌, ◌%◌, ◌^◌, ◌<◌, ◌≤◌, Bool, true, false, cond, ◌||◌, eqb, List, length, get_or, set, sym, refl, ⊎_elim, arith, length-set, get_or-set_other, get_or-set_same, ltb-true, lt-ltb, eq-eqb, eqb-true, le-leb, leb-true}
use borrow.Author.Tests.{eqb-false}
use Rattle.pic.specs.declared.Controller.{Controller}
use Rattle.pic_source.specs.Sources.{is_active, latch_after}
use Rattle.pic.specs.declared.Scalars.{Scalars}
use Rattle.pic.specs.Fields.{with_scalars}
use Rattle.pic.specs.Sources.{field_at, rank_at, enable_at, trigger_at, polarity_at, line_at, latch_at, threshold_of, current_of}
use Rattle.pic.specs.Calls.{meihap_of}
use Rattle.pic.specs.Sound.{place_tests, source_sound_at, sources_sound, sound_tests, sound_of, source_tests, source_sound}
use Rattle.std.proofs.lemmas.Bool.{and_parts, or_cases, cases_eq}
use Rattle.pic_source.proofs.Bools.{all-at}
use Rattle.pic_source.proofs.Mirror.{mirror-small}

-- An array with a place for each of the n sources, whose values at the sources are at most m.
pub record Column (n : ℕ) (l : List ℕ) (m : ℕ) : Type 0 where
  pub long : n < length l
  pub each : (s : ℕ) → 1 ≤ s → s ≤ n → get_or l s 0 ≤ m

-- A value in range stored at one place keeps the array in range.
pub column-set : {n m : ℕ} {l : List ℕ} (s v : ℕ) → v ≤ m → Column n l m → Column n (set l s v) m
column-set {n} {m} {l} s v h c = record { long = rw (length-set l s v) c.long; each = at }
  where
    at : (t : ℕ) → 1 ≤ t → t ≤ n → get_or (set l s v) t 0 ≤ m
    at t a b = ⊎_elim
        (λ e. rw (e, get_or-set_same l s v 0 (omega (arith, c.long))) h)
        (λ e. rw (get_or-set_other l s t v 0 e) (c.each t a b))
        (cases_eq t s)

-- Field, enable, type, polarity, line and latch of each of n sources are in range.
pub record Columns (n : ℕ) (f e t p l a : List ℕ) : Type 0 where
  pub field : Column n f 15
  pub enable : Column n e 1
  pub trigger : Column n t 1
  pub polarity : Column n p 1
  pub line : Column n l 1
  pub latch : Column n a 1

abbrev pub ColumnsOf : Controller → Type 0
ColumnsOf c = Columns c.sources c.field c.enable c.trigger c.polarity c.line c.latch

-- A multiple of 1,024 below 2^32.
pub record Base (b : ℕ) : Type 0 where
  pub aligned : b % 1024 ≡ 0
  pub fits : b < 2 ^ 32

-- Priord, base, claim, threshold, claimed and current are in range, with n sources.
pub record Ranges (n : ℕ) (v : Scalars) : Type 0 where
  pub priord : v.priord ≤ 1
  pub base : Base v.base
  pub claim : v.claim ≤ n
  pub threshold : v.threshold.0 ≤ 15
  pub claimed : v.claimed.0 ≤ 15
  pub current : v.current.0 ≤ 15

-- Each latch is as its line asks: set if that is active.
abbrev pub Latched : Controller → Type 0
Latched c = (s : ℕ) → 1 ≤ s → s ≤ c.sources → latch_after (line_at c s) (polarity_at c s) (latch_at c s) ≡ latch_at c s

pub record Sound (c : Controller) : Type 0 where
  pub least : 2 ≤ c.sources
  pub most : c.sources ≤ 255
  pub columns : ColumnsOf c
  pub ranges : Ranges c.sources c.scalars
  pub latched : Latched c

-- The test of a latch, and what it says.
latch-test : (line polarity latch : ℕ) → (eqb line polarity || eqb latch 1) ≡ true → latch_after line polarity latch ≡ latch
latch-test line polarity latch e =
    ⊎_elim (λ f. rw f) (λ f. let g : latch ≡ 1 = eqb-true latch 1 f in rw g (same (is_active line polarity))) (or_cases (eqb line polarity) (eqb latch 1) e)
  where
    same : (t : Bool) → ◌≡◌ {A = ℕ} (cond t 1 1) 1
    same true = refl
    same false = refl

test-latch : (line polarity latch : ℕ) → latch_after line polarity latch ≡ latch → (eqb line polarity || eqb latch 1) ≡ true
test-latch line polarity latch e = go (eqb line polarity) refl
  where
    go : (t : Bool) → eqb line polarity ≡ t → (eqb line polarity || eqb latch 1) ≡ true
    go true f = rw f
    go false f = let g : 1 ≡ latch = rw f at e in rw f (eq-eqb latch 1 (sym g))

sources-at : (c : Controller) (n : ℕ) → sources_sound c n ≡ true → (s : ℕ) → 1 ≤ s → s ≤ n → source_sound_at c s ≡ true
unfolding sources_sound
sources-at c zero e s a b = absurd (omega arith)
sources-at c (suc n) e s a b =
    let p = and_parts (sources_sound c n) (source_sound_at c (suc n)) e in go p.1 (λ l. sources-at c n p.0 s a l) (eqb s (suc n)) refl
  where
    go : source_sound_at c (suc n) ≡ true → (s ≤ n → source_sound_at c s ≡ true) → (t : Bool) → eqb s (suc n) ≡ t → source_sound_at c s ≡ true
    go h i true q = rw (eqb-true s (suc n) q) h
    go h i false q = i (omega (arith, eqb-false s (suc n) q))

at-sources : (c : Controller) (n : ℕ) → ((s : ℕ) → 1 ≤ s → s ≤ n → source_sound_at c s ≡ true) → sources_sound c n ≡ true
unfolding sources_sound
at-sources c zero h = refl
at-sources c (suc n) h =
    rw (at-sources c n (λ s a b. h s a (omega arith)), h (suc n) (omega arith) (omega arith))

-- The facts of a sound controller.
pub facts : (c : Controller) → sound_of c ≡ true → Sound c
unfolding sound_of source_sound
facts c e =
    record {
      least = leb-true _ _ (t 3);
      most = leb-true _ _ (t 1);
      columns =
          record {
            field = record { long = ltb-true _ _ (place 0); each = λ s a b. leb-true _ _ (test s a b 0) };
            enable = record { long = ltb-true _ _ (place 1); each = λ s a b. leb-true _ _ (test s a b 1) };
            trigger = record { long = ltb-true _ _ (place 2); each = λ s a b. leb-true _ _ (test s a b 2) };
            polarity = record { long = ltb-true _ _ (place 3); each = λ s a b. leb-true _ _ (test s a b 3) };
            line = record { long = ltb-true _ _ (place 4); each = λ s a b. leb-true _ _ (test s a b 4) };
            latch = record { long = ltb-true _ _ (place 5); each = λ s a b. leb-true _ _ (test s a b 5) };
          };
      ranges =
          record {
            priord = leb-true _ _ (t 4);
            base = record { aligned = eqb-true _ _ (t 5); fits = ltb-true _ _ (t 2) };
            claim = leb-true _ _ (t 6);
            threshold = leb-true _ _ (t 7);
            claimed = leb-true _ _ (t 8);
            current = leb-true _ _ (t 9);
          };
      latched = λ s a b. latch-test (line_at c s) (polarity_at c s) (latch_at c s) (test s a b 6);
    }
  where
    t : (i : ℕ) → get_or (sound_tests c) i true ≡ true
    t = all-at (sound_tests c) e

    place : (i : ℕ) → get_or (place_tests c) i true ≡ true
    place = all-at (place_tests c) (t 0)

    test : (s : ℕ) → 1 ≤ s → s ≤ c.sources → (i : ℕ)
        → get_or (source_tests (field_at c s) (enable_at c s) (trigger_at c s) (polarity_at c s) (line_at c s) (latch_at c s)) i true ≡ true
    test s a b = all-at (source_tests (field_at c s) (enable_at c s) (trigger_at c s) (polarity_at c s) (line_at c s) (latch_at c s)) (sources-at c c.sources (t 10) s a b)

-- A controller of which they hold is sound.
pub sound : (c : Controller) → Sound c → sound_of c ≡ true
unfolding sound_of source_sound
sound c h =
    let k = h.columns in
    let v = h.ranges in
    rw (
      lt-ltb _ _ k.field.long,
      lt-ltb _ _ k.enable.long,
      lt-ltb _ _ k.trigger.long,
      lt-ltb _ _ k.polarity.long,
      lt-ltb _ _ k.line.long,
      lt-ltb _ _ k.latch.long,
      le-leb _ _ h.most,
      lt-ltb _ _ v.base.fits,
      le-leb _ _ h.least,
      le-leb _ _ v.priord,
      eq-eqb _ _ v.base.aligned,
      le-leb _ _ v.claim,
      le-leb _ _ v.threshold,
      le-leb _ _ v.claimed,
      le-leb _ _ v.current,
      at-sources c c.sources each,
    )
  where
    each : (s : ℕ) → 1 ≤ s → s ≤ c.sources → source_sound_at c s ≡ true
    each s a b =
        let k = h.columns in
        rw (
          le-leb _ _ (k.field.each s a b),
          le-leb _ _ (k.enable.each s a b),
          le-leb _ _ (k.trigger.each s a b),
          le-leb _ _ (k.polarity.each s a b),
          le-leb _ _ (k.line.each s a b),
          le-leb _ _ (k.latch.each s a b),
          test-latch _ _ _ (h.latched s a b),
        )

-- Where the fields are in range, the ranks are.
pub rank-small : (c : Controller) (s : ℕ) → Sound c → 1 ≤ s → s ≤ c.sources → (rank_at c s).0 ≤ 15
rank-small c s h a b = mirror-small c.scalars.priord (field_at c s).0 (h.columns.field.each s a b)

pub threshold-small : {n : ℕ} (v : Scalars) → Ranges n v → (threshold_of v).0 ≤ 15
threshold-small v r = mirror-small v.priord v.threshold.0 r.threshold

pub current-small : {n : ℕ} (v : Scalars) → Ranges n v → (current_of v).0 ≤ 15
current-small v r = mirror-small v.priord v.current.0 r.current

-- Other scalars in range keep a controller sound.
pub scalars-sound : (c : Controller) (v : Scalars) → Sound c → Ranges c.sources v → Sound (with_scalars c v)
scalars-sound c v h r = record { least = h.least; most = h.most; columns = h.columns; ranges = r; latched = h.latched }

-- Other columns in range, with settled latches, keep it sound.
pub columns-sound : (c d : Controller) → Sound c → d.sources ≡ c.sources → d.scalars ≡ c.scalars → ColumnsOf d → Latched d → Sound d
columns-sound c d h n e k l =
    record { least = rw n h.least; most = rw n h.most; columns = k; ranges = rw (n, e) h.ranges; latched = l }

-- With a base in range and a source's number meihap does not wrap.
pub meihap-exact : (base claim : ℕ) → Base base → claim ≤ 255 → meihap_of base claim ≡ base + 4 * claim
unfolding meihap_of
meihap-exact base claim b h = omega (arith, b.aligned, b.fits)
