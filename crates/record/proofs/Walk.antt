-- The walk over the events, by any check of an event: its turns, and the event at which it ends. Where it refuses, its place is the least index that fails.
use mathlib.Core.Path.{◌≡◌, refl, sym, ◌∙◌}
use mathlib.Core.Bool.{cond}
use Prim.Native.Nat.{ℕ, zero, suc, ◌+◌, ◌*◌, ◌≤◌, ◌<◌, suc-le-suc}
use native.Mathlib.Nat.{add-zero, zero-add, add-suc, suc-add, not-suc-le-zero, suc-ne-zero}
use native.Mathlib.Omega.{arith}
use native.Mathlib.Numerals.{add-one}
use mathlib.Core.List.{List, [], ◌∷◌}
use borrow.Author.Tests.{eq-eqb, ne_eqb}
use lib.Dec.{eqb}
use lib.ListN.{length, get_or, drop, drop_of_length-le}
use lib.Seq.{drop-cons}
use Rattle.record.specs.Verdict.{Verdict}
use Rattle.record.specs.Words.{words_of}
use Rattle.record.specs.Record.{words_from, length_of}
use Rattle.record.specs.Questions.{verdict, no_refusal, walk, walk_from}
use Rattle.record.proofs.Words.{length_from, word-from}

-- Past the last event.
pub walk_none : (check : ℕ → ℕ → ℕ) (hs vs : List ℕ) (i : ℕ) → length hs ≤ i → walk_from check i (drop i hs) (drop i vs) ≡ no_refusal
unfolding walk_from
walk_none check hs vs i h = rw (drop_of_length-le hs h)

pub walk-short : (check : ℕ → ℕ → ℕ) (hs vs : List ℕ) (i : ℕ) → length vs ≤ i → walk_from check i (drop i hs) (drop i vs) ≡ no_refusal
unfolding walk_from
walk-short check hs vs i h = rw (drop_of_length-le vs h) (go (drop i hs))
  where
    go : (l : List ℕ) → walk_from check i l [] ≡ no_refusal
    go [] = refl
    go (x ∷ l) = refl

-- At event i, of which q is what the check gives.
module _ (check : ℕ → ℕ → ℕ) (hs vs : List ℕ) (i q : ℕ) (h : i < length hs) (k : i < length vs) (e : q ≡ check (get_or hs i 0) (get_or vs i 0)) where
  walk_here : walk_from check i (drop i hs) (drop i vs) ≡ cond (eqb q 0) (walk_from check (i + 1) (drop (i + 1) hs) (drop (i + 1) vs)) (verdict q i)
  unfolding walk_from
  walk_here = rw (drop-cons hs i 0 h, drop-cons vs i 0 k, e, add-one)

  pub walk-past : q ≡ 0 → walk_from check i (drop i hs) (drop i vs) ≡ walk_from check (i + 1) (drop (i + 1) hs) (drop (i + 1) vs)
  walk-past z = walk_here ∙ rw (eq-eqb q 0 z)

  pub walk-stop : (q ≡ 0 → ⊥) → walk_from check i (drop i hs) (drop i vs) ≡ verdict q i
  walk-stop z = walk_here ∙ rw (ne_eqb q 0 z)

-- The two lists of n events in the bytes of a record.
module _ (bytes : List ℕ) (n : ℕ) (long : length bytes ≡ length_of n) where
  pub heads-length : length (words_from bytes 2 n) ≡ n
  heads-length = let h : 4 * (2 + n) ≤ length bytes = omega arith in length_from bytes 2 n h

  pub values_length : length (words_from bytes (2 + n) n) ≡ n
  values_length = let h : 4 * (2 + n + n) ≤ length bytes = omega arith in length_from bytes (2 + n) n h

  pub equally-many : length (words_from bytes 2 n) ≡ length (words_from bytes (2 + n) n)
  equally-many = heads-length ∙ sym values_length

  pub in-heads : (i : ℕ) → i < n → i < length (words_from bytes 2 n)
  in-heads i h = rw heads-length h

  pub in-values : (i : ℕ) → i < n → i < length (words_from bytes (2 + n) n)
  in-values i h = rw values_length h

  pub past-heads : (i : ℕ) → n ≤ i → length (words_from bytes 2 n) ≤ i
  past-heads i h = rw heads-length h

  -- What the check gives of the words of event i is what it gives of the event.
  pub check-there : (check : ℕ → ℕ → ℕ) {i q head value : ℕ} → i < n → q ≡ check head value
      → head ≡ get_or (words_of bytes) (2 + i) 0 → value ≡ get_or (words_of bytes) (2 + n + i) 0
      → q ≡ check (get_or (words_from bytes 2 n) i 0) (get_or (words_from bytes (2 + n) n) i 0)
  check-there check {i} h e eh ev = rw (e, eh, ev, word-from bytes 2 n i h, word-from bytes (2 + n) n i h)

-- What the check gives of event i.
abbrev pub check_at : (ℕ → ℕ → ℕ) → List ℕ → List ℕ → ℕ → ℕ
check_at check hs vs i = check (get_or hs i 0) (get_or vs i 0)

-- The walk has no refusal: no event fails.
clear-here : (q : ℕ) (rest : Verdict) (i : ℕ) → (cond (eqb q 0) rest (verdict q i)).refusal ≡ 0 → (q ≡ 0) × (rest.refusal ≡ 0)
clear-here zero rest i h = (refl, h)
clear-here (suc q) rest i h = absurd (suc-ne-zero q (rw (ne_eqb (suc q) 0 (suc-ne-zero q)) at h))

clear-from : (check : ℕ → ℕ → ℕ) (i : ℕ) (hs vs : List ℕ) → length hs ≡ length vs → (walk_from check i hs vs).refusal ≡ 0
    → (j : ℕ) → j < length hs → check_at check hs vs j ≡ 0
unfolding walk_from
clear-from check i [] vs e h j l = absurd (omega arith)
clear-from check i (x ∷ hs) [] e h j l = absurd (omega arith)
clear-from check i (x ∷ hs) (y ∷ vs) e h zero l = (clear-here (check x y) (walk_from check (suc i) hs vs) i h).0
clear-from check i (x ∷ hs) (y ∷ vs) e h (suc j) l =
    let e' : length hs ≡ length vs = omega arith in
    let l' : j < length hs = omega arith in
    clear-from check (suc i) hs vs e' (clear-here (check x y) (walk_from check (suc i) hs vs) i h).1 j l'

pub walk-clear : (check : ℕ → ℕ → ℕ) (hs vs : List ℕ) → length hs ≡ length vs → (walk check hs vs).refusal ≡ 0
    → (j : ℕ) → j < length hs → check_at check hs vs j ≡ 0
walk-clear check = clear-from check 0

-- No event fails: the walk has no refusal.
pub walk-yes : (check : ℕ → ℕ → ℕ) (i : ℕ) (hs vs : List ℕ) → length hs ≡ length vs → ((j : ℕ) → j < length hs → check_at check hs vs j ≡ 0)
    → walk_from check i hs vs ≡ no_refusal
unfolding walk_from
walk-yes check i [] vs e h = refl
walk-yes check i (x ∷ hs) [] e h = refl
walk-yes check i (x ∷ hs) (y ∷ vs) e h =
    let e' : length hs ≡ length vs = omega arith in
    let l : 0 < suc (length hs) = omega arith in
    rw (h 0 l) (walk-yes check (suc i) hs vs e' (λ j l. let l' : suc j < suc (length hs) = omega arith in h (suc j) l'))

-- A walk from index i that has a refusal.
record FaultFrom (check : ℕ → ℕ → ℕ) (i : ℕ) (hs vs : List ℕ) (v : Verdict) : Type 0 where
  pub index : ℕ
  pub place : v.place ≡ i + index
  pub inside : index < length hs
  pub number : v.refusal ≡ check_at check hs vs index
  pub least : (j : ℕ) → j < index → check_at check hs vs j ≡ 0

least-here : (check : ℕ → ℕ → ℕ) (x y : ℕ) (hs vs : List ℕ) (k : ℕ) → check x y ≡ 0 → ((j : ℕ) → j < k → check_at check hs vs j ≡ 0)
    → (j : ℕ) → j < suc k → check_at check (x ∷ hs) (y ∷ vs) j ≡ 0
least-here check x y hs vs k z h zero l = z
least-here check x y hs vs k z h (suc j) l = let l' : j < k = omega arith in h j l'

fault-here : (check : ℕ → ℕ → ℕ) (i x y : ℕ) (hs vs : List ℕ) (rest : Verdict) (q : ℕ) → check x y ≡ q → ((cond (eqb q 0) rest (verdict q i)).refusal ≡ 0 → ⊥)
    → ((rest.refusal ≡ 0 → ⊥) → FaultFrom check (suc i) hs vs rest) → FaultFrom check i (x ∷ hs) (y ∷ vs) (cond (eqb q 0) rest (verdict q i))
fault-here check i x y hs vs rest zero z h next =
    let f = next h in
    record {
      index = suc f.index;
      place = f.place ∙ suc-add i f.index ∙ sym (add-suc i f.index);
      inside = suc-le-suc f.inside;
      number = f.number;
      least = least-here check x y hs vs f.index z f.least;
    }
fault-here check i x y hs vs rest (suc q) e h next =
    rw (ne_eqb (suc q) 0 (suc-ne-zero q))
    (record {
      index = 0;
      place = sym (add-zero i);
      inside = omega arith;
      number = sym e;
      least = λ j l. absurd (not-suc-le-zero l);
    })

fault-from : (check : ℕ → ℕ → ℕ) (i : ℕ) (hs vs : List ℕ) → length hs ≡ length vs → ((walk_from check i hs vs).refusal ≡ 0 → ⊥)
    → FaultFrom check i hs vs (walk_from check i hs vs)
unfolding walk_from
fault-from check i [] vs e h = absurd (h refl)
fault-from check i (x ∷ hs) [] e h = absurd (h refl)
fault-from check i (x ∷ hs) (y ∷ vs) e h =
    let e' : length hs ≡ length vs = omega arith in
    fault-here check i x y hs vs (walk_from check (suc i) hs vs) (check x y) refl h (fault-from check (suc i) hs vs e')

-- The walk has a refusal: its place is the least index that fails, and its number is what the check gives there.
pub record FirstFault (check : ℕ → ℕ → ℕ) (hs vs : List ℕ) (v : Verdict) : Type 0 where
  pub inside : v.place < length hs
  pub number : v.refusal ≡ check_at check hs vs v.place
  pub least : (j : ℕ) → j < v.place → check_at check hs vs j ≡ 0

pub walk_first : (check : ℕ → ℕ → ℕ) (hs vs : List ℕ) → length hs ≡ length vs → ((walk check hs vs).refusal ≡ 0 → ⊥) → FirstFault check hs vs (walk check hs vs)
walk_first check hs vs e h =
    let f = fault-from check 0 hs vs e h in
    let at : (walk check hs vs).place ≡ f.index = f.place ∙ zero-add f.index in
    record { inside = rw at f.inside; number = rw at f.number; least = rw at f.least }

-- An event that fails, after others that do not: the walk ends there.
ends-from : (check : ℕ → ℕ → ℕ) (i : ℕ) (hs vs : List ℕ) (p q : ℕ) → length hs ≡ length vs → p < length hs → check_at check hs vs p ≡ suc q
    → ((j : ℕ) → j < p → check_at check hs vs j ≡ 0) → walk_from check i hs vs ≡ verdict (suc q) (i + p)
unfolding walk_from
ends-from check i [] vs p q e l z h = absurd (omega arith)
ends-from check i (x ∷ hs) [] p q e l z h = absurd (omega arith)
ends-from check i (x ∷ hs) (y ∷ vs) zero q e l z h = rw (z, ne_eqb (suc q) 0 (suc-ne-zero q), add-zero i)
ends-from check i (x ∷ hs) (y ∷ vs) (suc p) q e l z h =
    let e' : length hs ≡ length vs = omega arith in
    let l' : p < length hs = omega arith in
    let first : 0 < suc p = omega arith in
    rw (h 0 first, add-suc i p, ← suc-add i p)
    (ends-from check (suc i) hs vs p q e' l' z (λ j k. let k' : suc j < suc p = omega arith in h (suc j) k'))

pub walk_ends : (check : ℕ → ℕ → ℕ) (hs vs : List ℕ) (p q : ℕ) → length hs ≡ length vs → p < length hs → check_at check hs vs p ≡ suc q
    → ((j : ℕ) → j < p → check_at check hs vs j ≡ 0) → walk check hs vs ≡ verdict (suc q) p
walk_ends check hs vs p q e l z h = rw (zero-add p) at (ends-from check 0 hs vs p q e l z h)
