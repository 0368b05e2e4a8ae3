-- Document 02, No. 4: a store to mpiccfg, and the ranks before and after a switch of priord.
use Prim.Native.Nat.{ℕ, ◌-◌, ◌%◌, ◌≤◌}
use mathlib.Core.Path.{◌≡◌, refl, ap}
use mathlib.Core.Bool.{Bool, true, false, cond}
use native.Mathlib.Omega.{arith}
use lib.ListN.{get_or-replicate}
use lib.Dec.{leb, ltb, eqb}
use borrow.Author.Tests.{leb-true}
use Rattle.pic_source.specs.Ranks.{field, mirror, rank_of}
use Rattle.pic.specs.declared.Controller.{Controller}
use Rattle.pic.specs.Sources.{field_at}
use Rattle.source_count.specs.Count.{is_count}
use Rattle.pic.specs.Sound.{initial, sound_of}
use Rattle.pic.specs.Calls.{accepts, refuses, asks, power_on_of, source_count, priority_order, current_rank}
use Rattle.pic_laws.specs.Orders.{ordered, Turned, AllRanks}
use Rattle.pic_registers.specs.Offsets.{register_at, page_register, offset_refusal}
use Rattle.pic_registers.specs.Registers.{written_of}
use Rattle.pic_registers.specs.Calls.{store_of}
use Rattle.std.proofs.lemmas.Bool.{and_parts}
use Rattle.pic_source.proofs.Mirror.{mirror-other}
use Rattle.pic.proofs.Soundness.{facts}

-- What a store is refused with: 10 and 11.
pub store-refusal : (c : Controller) (o v : ℕ) → (store_of c o v).refusal ≡ cond (ltb o 0x8000) (cond (eqb (o % 4) 0) 0 11) 10
unfolding store_of offset_refusal
store-refusal c o v = go (ltb o 0x8000) (eqb (o % 4) 0)
  where
    go : (t u : Bool)
        → (asks c (eqb (cond t (cond u 0 11) 10) 0) (cond t (cond u 0 11) 10) (accepts (written_of c (register_at c.sources o) v) 0)).refusal
        ≡ cond t (cond u 0 11) 10
    go true true = refl
    go true false = refl
    go false u = refl

-- A store to mpiccfg changes priord alone.
pub store-order : (c : Controller) (v : ℕ) → store_of c 0x3000 v ≡ accepts (ordered c (v % 2)) 0
unfolding store_of offset_refusal page_register written_of
store-order c v = refl

-- The priord that a controller is given is its own then, its N stays, and given its own it is as it was.
pub ordered-is : (c : Controller) (p : ℕ) → priority_order (ordered c p) ≡ p
unfolding priority_order
ordered-is c p = refl

pub ordered-count : (c : Controller) (p : ℕ) → source_count (ordered c p) ≡ source_count c
unfolding source_count
ordered-count c p = refl

pub ordered_same : (c : Controller) → ordered c (priority_order c) ≡ c
unfolding priority_order
ordered_same c = refl

module _ (c : Controller) (e : sound_of c ≡ true) where
  one_bit : c.scalars.priord ≤ 1
  one_bit = (facts c e).ranges.priord

  -- Of two orders one is the other.
  pub other-order : (v : ℕ) → (v % 2 ≡ priority_order c → ⊥) → v % 2 ≡ 1 - priority_order c
  unfolding priority_order
  other-order v d = omega (arith, d, one_bit)

  -- Under the other priord each rank is 15 less what it was.
  pub turned : Turned c (ordered c (1 - priority_order c))
  unfolding priority_order source_count current_rank
  turned =
      let p = c.scalars.priord in
      let r = (facts c e).ranges in
      record {
        source = λ s a b. mirror-other p (field_at c s).0 one_bit ((facts c e).columns.field.each s a b);
        threshold = mirror-other p c.scalars.threshold.0 one_bit r.threshold;
        claimed = mirror-other p c.scalars.claimed.0 one_bit r.claimed;
        current = mirror-other p c.scalars.current.0 one_bit r.current;
      }

-- Power-on, and then priord 1: field 0 is rank 15.
initial-ranks : (n : ℕ) → n ≤ 255 → AllRanks (ordered (initial n) 1) 15
unfolding source_count current_rank mirror
initial-ranks n h =
    record {
      source = λ s a b. ap (λ (f : ℕ). rank_of 1 (field f)) (get_or-replicate {A = ℕ} 256 s 0 0 (omega arith));
      threshold = refl;
      claimed = refl;
      current = refl;
    }

pub power-on-order : (n : ℕ) → priority_order (power_on_of n).machine ≡ 0
unfolding priority_order power_on_of
power-on-order n = go (is_count n)
  where
    go : (t : Bool) → (cond t (accepts (initial n) 0) (refuses (initial 2) 2)).machine.scalars.priord ≡ 0
    go true = refl
    go false = refl

pub power-on-ranks : (n : ℕ) → AllRanks (ordered (power_on_of n).machine 1) 15
unfolding power_on_of
power-on-ranks n = go (is_count n) refl
  where
    go : (t : Bool) → is_count n ≡ t → AllRanks (ordered (cond t (accepts (initial n) 0) (refuses (initial 2) 2)).machine 1) 15
    go true e = initial-ranks n (leb-true n 255 (and_parts (leb 2 n) (leb n 255) e).1)
    go false e = initial-ranks 2 (omega arith)
