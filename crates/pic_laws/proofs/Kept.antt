-- What the controller's calls keep: soundness, N, the current rank, and all of it where they only read or refuse.
use Prim.Native.Nat.{ℕ, ◌*◌, ◌/◌, ◌%◌, ◌^◌, ◌≤◌, ◌<◌}
use mathlib.Core.Path.{◌≡◌, refl, sym, ap}
use mathlib.Core.Bool.{Bool, true, false, cond, not}
use native.Mathlib.Omega.{arith}
use lib.ListN.{replicate, length-replicate, get_or-replicate}
use lib.Dec.{leb, eqb}
use borrow.Author.Tests.{leb-true, eqb-true}
use Rattle.pic.specs.declared.Controller.{Controller}
use Rattle.pic.specs.declared.Scalars.{Scalars}
use Rattle.pic.specs.Outcome.{Outcome}
use Rattle.pic_source.specs.declared.Rank.{Rank}
use Rattle.std.specs.Prelude.{Option, Some, None}
use Rattle.pic_registers.specs.declared.Register.{Register}
use Rattle.pic_registers.specs.declared.Register.TheVariants.{Meipl, Meip, Meie, Mpiccfg, Meigwctrl, Meigwclr}
use Rattle.pic_csrs.specs.declared.Csr.{Csr}
use Rattle.pic_csrs.specs.declared.Csr.TheVariants.{Meivt, Meipt, Meicpct, Meicidpl, Meicurpl, Meihap}
use Rattle.pic.specs.Fields.{with_scalars}
use Rattle.pic_source.specs.Ranks.{field_of, rank_of}
use Rattle.pic.specs.Sources.{current_of, winner_of}
use Rattle.source_count.specs.Count.{is_count}
use Rattle.pic.specs.Sound.{initial, sound_of}
use Rattle.pic.specs.Calls.{accepts, refuses, asks, power_on_of, source_count, priority_order, current_rank, set_current, capture_of, look_of}
use Rattle.pic_registers.specs.Registers.{sampled, read_of, written_of}
use Rattle.pic_registers.specs.Offsets.{offset_of, register_at, offset_refusal}
use Rattle.pic_registers.specs.Calls.{sample_of, load_of, store_of}
use Rattle.pic_csrs.specs.Addresses.{csr_at, is_csr}
use Rattle.pic_csrs.specs.Values.{csr_value, csr_written}
use Rattle.pic_csrs.specs.Calls.{csr_read_of, written_to, csr_write_of}
use Rattle.std.proofs.lemmas.Bool.{and_parts}
use Rattle.pic_source.proofs.Mirror.{mirror-small, rank-of-field, field-written}
use Rattle.pic.proofs.Soundness.{Column, Base, Ranges, Sound, facts, sound, scalars-sound}
use Rattle.pic.proofs.Winning.{winner-small}
use Rattle.pic_registers.proofs.Offsets.{register-valid, register-offset, aligned}
use Rattle.pic_registers.proofs.Sounds.{written-field, sampled-sound, written-sound}
use Rattle.pic_csrs.proofs.Addresses.{csr-address}

-- A question: what holds of the controller that was handed in, and of what goes on, holds of the answer.
pub ask-keeps : (P : Controller → Type 0) (c : Controller) (t : Bool) (q : ℕ) (o : Outcome) → P c → P o.machine → P (asks c t q o).machine
ask-keeps P c true q o a b = b
ask-keeps P c false q o a b = a

-- Soundness. A CSR write keeps the scalars in range.
base-written : (v : ℕ) → v < 2 ^ 32 → Base (v / 1024 * 1024)
base-written v h = record { aligned = omega arith; fits = omega arith }

csr-ranges : (n : ℕ) (s : Scalars) (r : Option Csr) (v : ℕ) → v < 2 ^ 32 → Ranges n s → Ranges n (csr_written s r v)
unfolding csr_written
csr-ranges n s (Some Meivt) v b h =
    record { priord = h.priord; base = base-written v b; claim = h.claim; threshold = h.threshold; claimed = h.claimed; current = h.current }
csr-ranges n s (Some Meipt) v b h =
    record { priord = h.priord; base = h.base; claim = h.claim; threshold = written-field v; claimed = h.claimed; current = h.current }
csr-ranges n s (Some Meicpct) v b h = h
csr-ranges n s (Some Meicidpl) v b h =
    record { priord = h.priord; base = h.base; claim = h.claim; threshold = h.threshold; claimed = written-field v; current = h.current }
csr-ranges n s (Some Meicurpl) v b h =
    record { priord = h.priord; base = h.base; claim = h.claim; threshold = h.threshold; claimed = h.claimed; current = written-field v }
csr-ranges n s (Some Meihap) v b h = h
csr-ranges n s None v b h = h

winner-captured : (c : Controller) → Sound c → Sound (capture_of c (winner_of c))
unfolding capture_of
winner-captured c h =
    let r = h.ranges in
    let w = winner-small c h in
    scalars-sound c _ h
    (record { priord = r.priord; base = r.base; claim = w.0; threshold = r.threshold; claimed = mirror-small c.scalars.priord (winner_of c).rank.0 w.1; current = r.current })

csr-sound : (c : Controller) (a v : ℕ) → v < 2 ^ 32 → Sound c → Sound (written_to c a v)
csr-sound c a v b h = go (eqb a 0xBCA)
  where
    go : (t : Bool) → Sound (cond t (capture_of c (winner_of c)) (with_scalars c (csr_written c.scalars (csr_at a) v)))
    go true = winner-captured c h
    go false = scalars-sound c (csr_written c.scalars (csr_at a) v) h (csr-ranges c.sources c.scalars (csr_at a) v b h.ranges)

abbrev IsSound : Controller → Type 0
IsSound c = sound_of c ≡ true

module _ (c : Controller) (e : sound_of c ≡ true) where
  pub sample-sound : (x v : ℕ) → sound_of (sample_of c x v).machine ≡ true
  unfolding sample_of
  sample-sound x v = ask-keeps IsSound c (leb x 7) 9 _ e (sound (sampled c x v) (sampled-sound c x v (facts c e)))

  pub store-sound : (o v : ℕ) → sound_of (store_of c o v).machine ≡ true
  unfolding store_of
  store-sound o v =
      ask-keeps IsSound c (eqb (offset_refusal o) 0) (offset_refusal o) _ e
      (sound (written_of c (register_at c.sources o) v) (written-sound c (register_at c.sources o) v (register-valid c.sources o) (facts c e)))

  pub csr-write-sound : (a v : ℕ) → v < 2 ^ 32 → sound_of (csr_write_of c a v).machine ≡ true
  unfolding csr_write_of
  csr-write-sound a v b =
      ask-keeps IsSound c (is_csr (csr_at a)) 12 _ e
      (ask-keeps IsSound c (not (eqb a 0xFC8)) 13 _ e (sound (written_to c a v) (csr-sound c a v b (facts c e))))

  pub capture-sound : sound_of (capture_of c (look_of c).winner) ≡ true
  unfolding look_of
  capture-sound = sound (capture_of c (winner_of c)) (winner-captured c (facts c e))

  -- Another current rank in range.
  pub current-sound : (r : Rank) → r.0 ≤ 15 → sound_of (set_current c r) ≡ true
  unfolding set_current
  current-sound r h =
      let k = facts c e in
      let v = k.ranges in
      sound (set_current c r)
      (scalars-sound c _ k
      (record { priord = v.priord; base = v.base; claim = v.claim; threshold = v.threshold; claimed = v.claimed; current = mirror-small c.scalars.priord r.0 h }))

-- Power-on is sound, also with an N that it refuses.
zeros : (n m : ℕ) → n ≤ 255 → Column n (replicate 256 0) m
zeros n m h = record { long = omega (arith, length-replicate {A = ℕ} 256 0); each = λ s a b. rw (get_or-replicate {A = ℕ} 256 s 0 0 (omega arith)) (omega arith) }

initial-sound : (n : ℕ) → 2 ≤ n → n ≤ 255 → sound_of (initial n) ≡ true
initial-sound n a b =
    sound (initial n)
    (record {
      least = a;
      most = b;
      columns =
          record { field = zeros n 15 b; enable = zeros n 1 b; trigger = zeros n 1 b; polarity = zeros n 1 b; line = zeros n 1 b; latch = zeros n 1 b };
      ranges =
          record {
            priord = omega arith;
            base = record { aligned = refl; fits = omega arith };
            claim = omega arith;
            threshold = omega arith;
            claimed = omega arith;
            current = omega arith;
          };
      latched = λ s c d. rw (get_or-replicate {A = ℕ} 256 s 0 0 (omega arith));
    })

pub power-on-sound : (n : ℕ) → sound_of (power_on_of n).machine ≡ true
unfolding power_on_of
power-on-sound n = go (is_count n) refl
  where
    go : (t : Bool) → is_count n ≡ t → sound_of (cond t (accepts (initial n) 0) (refuses (initial 2) 2)).machine ≡ true
    go true e = let p = and_parts (leb 2 n) (leb n 255) e in initial-sound n (leb-true 2 n p.0) (leb-true n 255 p.1)
    go false e = initial-sound 2 (omega arith) (omega arith)

-- A part of the controller that no call changes, or only some.
module _ {A : Type 0} (part : Controller → A) where
  abbrev SamePart : Controller → Controller → Type 0
  SamePart c d = part d ≡ part c

  same-sample : (c : Controller) (x v : ℕ) → part (sampled c x v) ≡ part c → part (sample_of c x v).machine ≡ part c
  unfolding sample_of
  same-sample c x v h = ask-keeps (SamePart c) c (leb x 7) 9 (accepts (sampled c x v) 0) refl h

  -- A store to the register whose offset it is.
  pub same_store : (c : Controller) (o v : ℕ) → ((r : Option Register) → ((q : Register) → r ≡ Some q → offset_of q ≡ o) → part (written_of c r v) ≡ part c)
      → part (store_of c o v).machine ≡ part c
  unfolding store_of
  same_store c o v h = go (eqb (offset_refusal o) 0) refl
    where
      go : (t : Bool) → eqb (offset_refusal o) 0 ≡ t → part (asks c t (offset_refusal o) (accepts (written_of c (register_at c.sources o) v) 0)).machine ≡ part c
      go true f =
          h (register_at c.sources o)
          (λ q. register-offset c.sources o q (aligned o (eqb-true (offset_refusal o) 0 f)))
      go false f = refl

  pub same-csr-write : (c : Controller) (a v : ℕ) → part (capture_of c (winner_of c)) ≡ part c
      → part (with_scalars c (csr_written c.scalars (csr_at a) v)) ≡ part c → part (csr_write_of c a v).machine ≡ part c
  unfolding csr_write_of
  same-csr-write c a v g h =
      ask-keeps (SamePart c) c (is_csr (csr_at a)) 12 _ refl
      (ask-keeps (SamePart c) c (not (eqb a 0xFC8)) 13 (accepts (written_to c a v) 0) refl (go (eqb a 0xBCA)))
    where
      go : (t : Bool) → part (cond t (capture_of c (winner_of c)) (with_scalars c (csr_written c.scalars (csr_at a) v))) ≡ part c
      go true = g
      go false = h

-- N and the current rank, as a store leaves them that does not switch priord.
stored-count : (c : Controller) (v : ℕ) (r : Option Register) → source_count (written_of c r v) ≡ source_count c
unfolding written_of source_count
stored-count c v (Some (Meipl s)) = refl
stored-count c v (Some (Meip x)) = refl
stored-count c v (Some (Meie s)) = refl
stored-count c v (Some Mpiccfg) = refl
stored-count c v (Some (Meigwctrl s)) = refl
stored-count c v (Some (Meigwclr s)) = refl
stored-count c v None = refl

stored-current : (c : Controller) (v : ℕ) (r : Option Register) → (r ≡ Some Mpiccfg → v % 2 ≡ priority_order c) → current_rank (written_of c r v) ≡ current_rank c
unfolding written_of current_rank priority_order
stored-current c v (Some (Meipl s)) h = refl
stored-current c v (Some (Meip x)) h = refl
stored-current c v (Some (Meie s)) h = refl
stored-current c v (Some Mpiccfg) h = ap (λ (p : ℕ). rank_of p c.scalars.current) (h refl)
stored-current c v (Some (Meigwctrl s)) h = refl
stored-current c v (Some (Meigwclr s)) h = refl
stored-current c v None h = refl

csr-current : (s : Scalars) (v : ℕ) (r : Option Csr) → (r ≡ Some Meicurpl → ⊥) → current_of (csr_written s r v) ≡ current_of s
unfolding csr_written
csr-current s v (Some Meivt) d = refl
csr-current s v (Some Meipt) d = refl
csr-current s v (Some Meicpct) d = refl
csr-current s v (Some Meicidpl) d = refl
csr-current s v (Some Meicurpl) d = absurd (d refl)
csr-current s v (Some Meihap) d = refl
csr-current s v None d = refl

-- No CSR write changes priord.
pub csr-priord : (s : Scalars) (v : ℕ) (r : Option Csr) → (csr_written s r v).priord ≡ s.priord
unfolding csr_written
csr-priord s v (Some Meivt) = refl
csr-priord s v (Some Meipt) = refl
csr-priord s v (Some Meicpct) = refl
csr-priord s v (Some Meicidpl) = refl
csr-priord s v (Some Meicurpl) = refl
csr-priord s v (Some Meihap) = refl
csr-priord s v None = refl

-- Every call keeps N.
pub sample-count : (c : Controller) (x v : ℕ) → source_count (sample_of c x v).machine ≡ source_count c
unfolding source_count
sample-count c x v = same-sample source_count c x v refl

pub store-count : (c : Controller) (o v : ℕ) → source_count (store_of c o v).machine ≡ source_count c
store-count c o v = same_store source_count c o v (λ r k. stored-count c v r)

pub csr-write-count : (c : Controller) (a v : ℕ) → source_count (csr_write_of c a v).machine ≡ source_count c
unfolding source_count capture_of
csr-write-count c a v = same-csr-write source_count c a v refl refl

-- Every call but a write of meicurpl and a store that switches priord keeps the current rank.
pub sample-current : (c : Controller) (x v : ℕ) → current_rank (sample_of c x v).machine ≡ current_rank c
unfolding current_rank
sample-current c x v = same-sample current_rank c x v refl

pub store-current : (c : Controller) (o v : ℕ) → (o ≡ 0x3000 → v % 2 ≡ priority_order c) → current_rank (store_of c o v).machine ≡ current_rank c
store-current c o v h =
    same_store current_rank c o v
    (λ r k. stored-current c v r (λ z. h (sym (k Mpiccfg z))))

pub csr-write-current : (c : Controller) (a v : ℕ) → (a ≡ 0xBCC → ⊥) → current_rank (csr_write_of c a v).machine ≡ current_rank c
unfolding current_rank capture_of
csr-write-current c a v d =
    same-csr-write current_rank c a v refl (csr-current c.scalars v (csr_at a) (λ e. d (csr-address a Meicurpl e)))

-- A capture keeps both.
pub capture-count : (c : Controller) → source_count (capture_of c (look_of c).winner) ≡ source_count c
unfolding source_count capture_of
capture-count c = refl

pub capture-current : (c : Controller) → current_rank (capture_of c (look_of c).winner) ≡ current_rank c
unfolding current_rank capture_of
capture-current c = refl

-- The current rank that is set.
pub current-count : (c : Controller) (r : Rank) → source_count (set_current c r) ≡ source_count c
unfolding source_count set_current
current-count c r = refl

pub current-is : (c : Controller) (r : Rank) → r.0 ≤ 15 → current_rank (set_current c r) ≡ r
unfolding current_rank set_current
current-is c r h = rank-of-field c.scalars.priord r h

-- A write to meicurpl of a rank's field makes that rank the current one, and changes nothing else.
pub current-written : (c : Controller) (r : Rank) → r.0 ≤ 15 → csr_write_of c 0xBCC (field_of c.scalars.priord r).0 ≡ accepts (set_current c r) 0
unfolding csr_write_of csr_at csr_written set_current
current-written c r h = rw (field-written c.scalars.priord r h)

-- A load and a CSR read change nothing.
pub load_same : (c : Controller) (o : ℕ) → (load_of c o).machine ≡ c
unfolding load_of
load_same c o =
    ask-keeps (λ d. d ≡ c) c (eqb (offset_refusal o) 0) (offset_refusal o) (accepts c (read_of c (register_at c.sources o))) refl refl

pub csr-read-same : (c : Controller) (a : ℕ) → (csr_read_of c a).machine ≡ c
unfolding csr_read_of
csr-read-same c a = ask-keeps (λ d. d ≡ c) c (is_csr (csr_at a)) 12 (accepts c (csr_value c.scalars (csr_at a))) refl refl

-- A refused call leaves the controller as it was.
abbrev Unchanged : Controller → Outcome → Type 0
Unchanged c o = (o.refusal ≡ 0 → ⊥) → o.machine ≡ c

ask-unchanged : (c : Controller) (t : Bool) (q : ℕ) (o : Outcome) → Unchanged c o → Unchanged c (asks c t q o)
ask-unchanged c true q o h = h
ask-unchanged c false q o h = λ d. refl

accepts-unchanged : (c d : Controller) (a : ℕ) → Unchanged c (accepts d a)
accepts-unchanged c d a r = absurd (r refl)

module _ (c : Controller) where
  pub sample-refused : (x v : ℕ) → Unchanged c (sample_of c x v)
  unfolding sample_of
  sample-refused x v = ask-unchanged c (leb x 7) 9 _ (accepts-unchanged c (sampled c x v) 0)

  pub store-refused : (o v : ℕ) → Unchanged c (store_of c o v)
  unfolding store_of
  store-refused o v =
      ask-unchanged c (eqb (offset_refusal o) 0) (offset_refusal o) _ (accepts-unchanged c (written_of c (register_at c.sources o) v) 0)

  pub csr-write-refused : (a v : ℕ) → Unchanged c (csr_write_of c a v)
  unfolding csr_write_of
  csr-write-refused a v =
      ask-unchanged c (is_csr (csr_at a)) 12 _ (ask-unchanged c (not (eqb a 0xFC8)) 13 _ (accepts-unchanged c (written_to c a v) 0))
