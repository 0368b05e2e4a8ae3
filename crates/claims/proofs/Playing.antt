-- Lists of events played: one event more, and the claim for the list that was played.
use Prim.Native.Nat.{ℕ, zero, suc, ◌+◌, ◌^◌, ◌≤◌, ◌<◌}
use mathlib.Core.Path.{◌≡◌, refl, sym, ap, ◌∙◌}
use mathlib.Core.Bool.{true}
use mathlib.Core.List.{List, [], ◌∷◌, ◌++◌, append_assoc}
use native.Mathlib.Numerals.{add-one}
use native.Mathlib.Omega.{arith}
use lib.ListN.{length, get_or, take, drop, set, length-append}
use lib.Seq.{drop-cons, set-append_seam, take_all}
use Rattle.buffers.specs.Filled.{filled}
use Rattle.buffers.specs.Least.{least}
use Rattle.buffers.proofs.Least.{least-both, least_first, least_above}
use Rattle.nesting.specs.Claim as claim
use Rattle.nesting.specs.Trace as trace
use Rattle.handlers.specs.declared.Machine.{Machine}
use Rattle.handlers.specs.Outcome.{Outcome}
use Rattle.handlers.specs.Machines.{sound_of, power_on_of}
use Rattle.handlers.specs.Calls.{step_of}
use Rattle.claims.specs.declared.Played.{Played}
use Rattle.claims.specs.Play.{end_of, each_of, answers_of, refusals_of, events_played, played_of}
use Rattle.claims.specs.Nested.{word, Event, Answer, answer_of, eh1, events_of, each_in, Claimed}
use Rattle.handlers_laws.proofs.Kept.{step-sound}
use Rattle.claims.proofs.Laws.{demand-3}

-- As many events as all four have places.
pub record Fits (k a b c d : ℕ) : Type 0 where
  pub heads : k ≤ a
  pub values : k ≤ b
  pub answers : k ≤ c
  pub refusals : k ≤ d

pub count_fits : (a b c d : ℕ) → Fits (events_played a b c d) a b c d
count_fits a b c d =
    let p = least-both a b in
    let q = least-both c d in
    let r = least-both (least a b) (least c d) in
    record { heads = omega (arith, p.0, r.0); values = omega (arith, p.1, r.0); answers = omega (arith, q.0, r.1); refusals = omega (arith, q.1, r.1) }

-- One event more.
pub end_more : (m : Machine) (i : ℕ) (hs vs : List ℕ) → i < length hs → i < length vs
    → (step_of (end_of m (take i hs) (take i vs)) (get_or hs i 0) (get_or vs i 0)).machine ≡ end_of m (take (suc i) hs) (take (suc i) vs)
unfolding end_of
end_more m i [] vs a b = absurd (omega arith)
end_more m i (h ∷ hs) [] a b = absurd (omega arith)
end_more m zero (h ∷ hs) (v ∷ vs) a b = refl
end_more m (suc i) (h ∷ hs) (v ∷ vs) a b = end_more (step_of m h v).machine i hs vs (omega arith) (omega arith)

pub each_more : (out : Outcome → ℕ) (m : Machine) (i : ℕ) (hs vs : List ℕ) → i < length hs → i < length vs
    → each_of out m (take i hs) (take i vs) ++ (out (step_of (end_of m (take i hs) (take i vs)) (get_or hs i 0) (get_or vs i 0)) ∷ [])
    ≡ each_of out m (take (suc i) hs) (take (suc i) vs)
unfolding end_of each_of
each_more out m i [] vs a b = absurd (omega arith)
each_more out m i (h ∷ hs) [] a b = absurd (omega arith)
each_more out m zero (h ∷ hs) (v ∷ vs) a b = refl
each_more out m (suc i) (h ∷ hs) (v ∷ vs) a b =
    ap (λ (l : List ℕ). out (step_of m h v) ∷ l) (each_more out (step_of m h v).machine i hs vs (omega arith) (omega arith))

pub each-length : (out : Outcome → ℕ) (m : Machine) (i : ℕ) (hs vs : List ℕ) → i ≤ length hs → i ≤ length vs → length (each_of out m (take i hs) (take i vs)) ≡ i
unfolding each_of
each-length out m zero hs vs a b = refl
each-length out m (suc i) [] vs a b = absurd (omega arith)
each-length out m (suc i) (h ∷ hs) [] a b = absurd (omega arith)
each-length out m (suc i) (h ∷ hs) (v ∷ vs) a b = ap suc (each-length out (step_of m h v).machine i hs vs (omega arith) (omega arith))

-- One place more is filled.
pub filled_more : (new old : List ℕ) (v : ℕ) → length new < length old → set (filled new old) (length new) v ≡ filled (new ++ (v ∷ [])) old
filled_more new old v h =
    let l : length (new ++ (v ∷ [])) ≡ suc (length new) = length-append new (v ∷ []) ∙ omega arith in
    rw (drop-cons old (length new) 0 h, set-append_seam new (get_or old (length new) 0) (drop (suc (length new)) old) v, l) (sym (append_assoc new (v ∷ []) (drop (suc (length new)) old)))

-- One turn of `play`.
module _ (m₀ : Machine) (hs vs : List ℕ) (i : ℕ) (a : i < length hs) (b : i < length vs) {m : Machine} (hm : m ≡ end_of m₀ (take i hs) (take i vs)) where
  pub machine-turn : {o : Outcome} → o ≡ step_of m (get_or hs i 0) (get_or vs i 0) → o.machine ≡ end_of m₀ (take (i + 1) hs) (take (i + 1) vs)
  machine-turn ho = rw (ho, hm, add-one) (end_more m₀ i hs vs a b)

  pub stored-turn : (out : Outcome → ℕ) (old : List ℕ) {o : Outcome} {l : List ℕ} → o ≡ step_of m (get_or hs i 0) (get_or vs i 0) → i < length old
      → l ≡ filled (each_of out m₀ (take i hs) (take i vs)) old → set l i (out o) ≡ filled (each_of out m₀ (take (i + 1) hs) (take (i + 1) vs)) old
  stored-turn out old {o} {l} ho c hl =
      let e : length (each_of out m₀ (take i hs) (take i vs)) ≡ i = each-length out m₀ i hs vs (omega arith) (omega arith) in
      let w : out o ≡ out (step_of (end_of m₀ (take i hs) (take i vs)) (get_or hs i 0) (get_or vs i 0)) = rw (ho, hm) in
      rw (hl, add-one, ← each_more out m₀ i hs vs a b, ← w)
      (ap (λ (j : ℕ). set (filled (each_of out m₀ (take i hs) (take i vs)) old) j (out o)) (sym e)
      ∙ filled_more (each_of out m₀ (take i hs) (take i vs)) old (out o) (omega arith))

-- Numbers of 32 bits: as heads and values, each stands for itself.
abbrev Words : List ℕ → Type 0
Words l = (i : ℕ) → get_or l i 0 < 2 ^ 32

step_words : (m : Machine) (h v : ℕ) → h < 2 ^ 32 → v < 2 ^ 32 → step_of m h v ≡ step_of m (word h) (word v)
step_words m h v a b =
    let p : h ≡ word h = omega arith in
    let q : v ≡ word v = omega arith in
    ap (λ (x : ℕ). step_of m x v) p ∙ ap (λ (x : ℕ). step_of m (word h) x) q

-- The list's last machine.
pub end_is : (m : Machine) (hs vs : List ℕ) → Words hs → Words vs → end_of m hs vs ≡ claim.end eh1 m (events_of hs vs)
unfolding end_of
end_is m [] vs a b = refl
end_is m (h ∷ hs) [] a b = refl
end_is m (h ∷ hs) (v ∷ vs) a b =
    end_is (step_of m h v).machine hs vs (λ i. a (suc i)) (λ i. b (suc i))
    ∙ ap (λ (o : Outcome). claim.end eh1 o.machine (events_of hs vs)) (step_words m h v (a 0) (b 0))

take_words : (k : ℕ) (l : List ℕ) → Words l → Words (take k l)
take_words zero l a i = omega arith
take_words (suc k) [] a i = omega arith
take_words (suc k) (x ∷ l) a zero = a 0
take_words (suc k) (x ∷ l) a (suc i) = take_words k l (λ j. a (suc j)) i

-- What is read off the outcomes is what is read off the answers of the trace.
step_in-is : (c : claim.Class) (x : claim.Step eh1) → trace.step_in (claim.classed eh1 c x) ≡ x
step_in-is claim.is_taking x = refl
step_in-is claim.is_chaining x = refl
step_in-is claim.is_return x = refl
step_in-is claim.is_other x = refl

pub each-is : (out : Answer → ℕ) (m : Machine) (hs vs : List ℕ) → Words hs → Words vs
    → each_of (λ (o : Outcome). out (answer_of o)) m hs vs ≡ each_in out (claim.trace eh1 m (events_of hs vs))
unfolding each_of
each-is out m [] vs a b = refl
each-is out m (h ∷ hs) [] a b = refl
each-is out m (h ∷ hs) (v ∷ vs) a b =
    let e : Event = record { head = h; value = v } in
    let rest : Machine → List ℕ = λ (k : Machine). each_in out (claim.trace eh1 k (events_of hs vs)) in
    ap (λ (l : List ℕ). out (answer_of (step_of m h v)) ∷ l) (each-is out (step_of m h v).machine hs vs (λ i. a (suc i)) (λ i. b (suc i)))
    ∙ ap (λ (z : Outcome). out (answer_of z) ∷ rest z.machine) (step_words m h v (a 0) (b 0))
    ∙ ap (λ (x : claim.Step eh1). out x.answered ∷ rest (step_of m (word h) (word v)).machine) (sym (step_in-is (eh1.class e (eh1.answer m e)) (claim.step_from eh1 m e)))

-- The machine after any list of 32-bit values is sound where the one before it is.
pub played-sound : (m : Machine) → sound_of m ≡ true → (hs vs : List ℕ) → Words vs → sound_of (end_of m hs vs) ≡ true
unfolding end_of
played-sound m r [] vs w = r
played-sound m r (h ∷ hs) [] w = r
played-sound m r (h ∷ hs) (v ∷ vs) w = played-sound (step_of m h v).machine (step-sound m r h v (w 0)) hs vs (λ i. w (suc i))

-- Demand 3 for the list that was played.
pub claimed : (n k : ℕ) (hs vs : List ℕ) → Words hs → Words vs → {m : Machine} → m ≡ end_of (power_on_of n).machine (take k hs) (take k vs)
    → Claimed n (take k hs) (take k vs) m
claimed n k hs vs a b {m} e =
    let a' = take_words k hs a in
    let b' = take_words k vs b in
    record {
      nesting = demand-3 n (events_of (take k hs) (take k vs));
      ends = e ∙ end_is (power_on_of n).machine (take k hs) (take k vs) a' b';
      answers = each-is (λ (z : Answer). z.answer) (power_on_of n).machine (take k hs) (take k vs) a' b';
      refusals = each-is (λ (z : Answer). z.refusal) (power_on_of n).machine (take k hs) (take k vs) a' b';
    }

-- What `play` hands back, once its loop has ended.
module _ (n : ℕ) (hs vs : List ℕ) {m : Machine} {k i : ℕ} (hi : i ≡ k) (hm : m ≡ end_of (power_on_of n).machine (take i hs) (take i vs)) where
  pub machine-end : m ≡ end_of (power_on_of n).machine (take k hs) (take k vs)
  machine-end = hm ∙ rw hi

-- Values as many as heads, and arrays that hold them: all events are played.
pub count-all : (a b c d : ℕ) → b ≡ a → a ≤ c → a ≤ d → events_played a b c d ≡ a
count-all a b c d e h g =
    let ab : a ≤ b = omega (arith, e) in
    rw (least_first a b ab) (least_first a (least c d) (least_above a c d h g))

-- What the whole list leaves.
pub record PlayedAll (n : ℕ) (hs vs answers₀ refusals₀ : List ℕ) (p : Played) (answers refusals : List ℕ) : Type 0 where
  pub machine : p.machine ≡ end_of (power_on_of n).machine hs vs
  pub has-answers : answers ≡ filled (answers_of (power_on_of n).machine hs vs) answers₀
  pub has-refusals : refusals ≡ filled (refusals_of (power_on_of n).machine hs vs) refusals₀
  pub as-many-answers : length (answers_of (power_on_of n).machine hs vs) ≡ length hs
  pub as-many-refusals : length (refusals_of (power_on_of n).machine hs vs) ≡ length hs

pub played-all : (n : ℕ) (hs vs answers₀ refusals₀ : List ℕ) {p : Played} {answers refusals : List ℕ}
    → length vs ≡ length hs → length hs ≤ length answers₀ → length hs ≤ length refusals₀
    → p ≡ played_of n (events_played (length hs) (length vs) (length answers₀) (length refusals₀)) hs vs
    → answers ≡ filled (answers_of (power_on_of n).machine (take p.events hs) (take p.events vs)) answers₀
    → refusals ≡ filled (refusals_of (power_on_of n).machine (take p.events hs) (take p.events vs)) refusals₀
    → PlayedAll n hs vs answers₀ refusals₀ p answers refusals
played-all n hs vs answers₀ refusals₀ {p} {answers} {refusals} same ha hr ep ea er =
    let count : events_played (length hs) (length vs) (length answers₀) (length refusals₀) ≡ length hs = count-all (length hs) (length vs) (length answers₀) (length refusals₀) same ha hr in
    let hs-all : take (length hs) hs ≡ hs = take_all (length hs) hs (omega arith) in
    let vs-all : take (length hs) vs ≡ vs = take_all (length hs) vs (omega (arith, same)) in
    let events : p.events ≡ length hs = ap (λ (q : Played). q.events) ep ∙ count in
    let long : (out : Outcome → ℕ) → length (each_of out (power_on_of n).machine hs vs) ≡ length hs =
    λ out. ap length (sym (ap (λ (l : List ℕ). each_of out (power_on_of n).machine l (take (length hs) vs)) hs-all ∙ ap (each_of out (power_on_of n).machine hs) vs-all)) ∙ each-length out (power_on_of n).machine (length hs) hs vs (omega arith) (omega (arith, same)) in
    record {
      machine = ap (λ (q : Played). q.machine) ep ∙ rw (count, hs-all, vs-all);
      has-answers = ea ∙ rw (events, hs-all, vs-all);
      has-refusals = er ∙ rw (events, hs-all, vs-all);
      as-many-answers = long (λ (o : Outcome). o.answer);
      as-many-refusals = long (λ (o : Outcome). o.refusal);
    }
