-- The questions in order: the verdict of each no, and what follows where every one was answered yes.
use mathlib.Core.Path.{◌≡◌, refl, sym, ap, ◌∙◌}
use mathlib.Core.Bool.{Bool, true, false, not}
use Prim.Native.Nat.{ℕ, suc, ◌+◌, ◌≤◌, ◌<◌}
use native.Mathlib.Omega.{arith}
use mathlib.Core.List.{List}
use borrow.Author.Tests.{leb-true, eqb-true, eqb-false, le-leb, lt-leb, eq-eqb, ne_eqb, not-true, not-false}
use lib.Dec.{lit<, leb, eqb}
use lib.ListN.{length}
use Rattle.std.proofs.lemmas.Bool.{and_parts}
use Rattle.questions.specs.declared.Refusal.{Refusal}
use Rattle.questions.specs.Numbers.{number_of}
use Rattle.questions.proofs.Numbers.{never_0}
use Rattle.event.specs.Event.{shape_of}
use Rattle.source_count.specs.Count.{most_sources, is_count}
use Rattle.record.specs.declared.Limits.{Limits}
use Rattle.record.specs.Verdict.{Verdict}
use Rattle.record.specs.Record.{count_of, sources_of, heads_of, values_of, words_from, length_of, most_events}
use Rattle.record.specs.Questions.{verdict, no_refusal, question, sources_taken, count_in_range, count_taken, arrays_hold, write_shape_of, walk, read_verdict, verdict_within, write_verdict}
use Rattle.record.proofs.Walk.{walk_first}

-- A refusal has a number.
pub refuses : (r : Refusal) → number_of r ≡ 0 → ⊥
refuses r = eqb-false (number_of r) 0 (never_0 r)

-- Questions 2, 22, 3 and 23 by their answers, and then others.
abbrev four_then : Bool → Bool → Bool → Bool → Verdict → Verdict
four_then two q22 three q23 next = question 2 two (question 22 q22 (question 3 three (question 23 q23 next)))

-- The same of N and n.
abbrev pub sizes_then : Limits → ℕ → ℕ → Verdict → Verdict
sizes_then limits s n = four_then (is_count s) (sources_taken limits s) (count_in_range n) (count_taken limits n)

-- The first no decides, with place 0; where there is none, the others do.
module _ (next : Verdict) where
  four-no : (a b c d : Bool) → ((four_then a b c d no_refusal).refusal ≡ 0 → ⊥) → verdict (four_then a b c d no_refusal).refusal 0 ≡ four_then a b c d next
  four-no false b c d h = refl
  four-no true false c d h = refl
  four-no true true false d h = refl
  four-no true true true false h = refl
  four-no true true true true h = absurd (h refl)

  four-yes : (a b c d : Bool) → (four_then a b c d no_refusal).refusal ≡ 0 → next ≡ four_then a b c d next
  four-yes false b c d h = absurd (omega (arith, h))
  four-yes true false c d h = absurd (omega (arith, h))
  four-yes true true false d h = absurd (omega (arith, h))
  four-yes true true true false h = absurd (omega (arith, h))
  four-yes true true true true h = refl

-- Reading: the verdict of each no, given the answers before it as the code has them.
module _ (limits : Limits) (bytes : List ℕ) (hp vp : ℕ) where
  pub read-no-1 : length bytes < 8 → verdict 1 0 ≡ read_verdict limits bytes hp vp
  unfolding read_verdict
  read-no-1 h = rw (lt-leb _ _ h)

  module _ (q1 : 8 ≤ length bytes) {n s number : ℕ} (en : n ≡ count_of bytes) (es : s ≡ sources_of bytes) (e : number ≡ (sizes_then limits s n no_refusal).refusal) where
    pub read-no-sizes : (number ≡ 0 → ⊥) → verdict number 0 ≡ read_verdict limits bytes hp vp
    unfolding read_verdict
    read-no-sizes h =
        rw (le-leb _ _ q1, ← en, ← es, e)
        (four-no _ (is_count s) (sources_taken limits s) (count_in_range n) (count_taken limits n) (λ z. h (e ∙ z)))

    module _ (yes : number ≡ 0) where
      others : (next : Verdict) → next ≡ sizes_then limits s n next
      others next = four-yes next (is_count s) (sources_taken limits s) (count_in_range n) (count_taken limits n) (sym e ∙ yes)

      pub read-no-4 : (length bytes ≡ length_of n → ⊥) → verdict 4 0 ≡ read_verdict limits bytes hp vp
      unfolding read_verdict
      read-no-4 h = rw (le-leb _ _ q1, ← en, ← es, ne_eqb _ _ h) (others (verdict 4 0))

      module _ (q4 : length bytes ≡ length_of n) where
        pub read-no-5 : not (arrays_hold n hp vp) ≡ true → verdict 5 0 ≡ read_verdict limits bytes hp vp
        unfolding read_verdict
        read-no-5 h = rw (le-leb _ _ q1, ← en, ← es, eq-eqb _ _ q4, not-true (arrays_hold n hp vp) h) (others (verdict 5 0))

        pub read_walk : not (arrays_hold n hp vp) ≡ false → walk shape_of (words_from bytes 2 n) (words_from bytes (2 + n) n) ≡ read_verdict limits bytes hp vp
        unfolding read_verdict
        read_walk h =
            rw (le-leb _ _ q1, ← en, ← es, eq-eqb _ _ q4, not-false (arrays_hold n hp vp) h)
            (others (walk shape_of (words_from bytes 2 n) (words_from bytes (2 + n) n)))

-- A question that did not refuse was answered yes, and so were those after it.
question-yes : (k : ℕ) (a : Bool) (v : Verdict) → (question (suc k) a v).refusal ≡ 0 → (a ≡ true) × (v.refusal ≡ 0)
question-yes k true v h = (refl, h)
question-yes k false v h = absurd (omega arith)

pub sizes-few : (limits : Limits) (s n : ℕ) → (sizes_then limits s n no_refusal).refusal ≡ 0 → n ≤ most_events
sizes-few limits s n h =
    let q23 : Verdict = question 23 (count_taken limits n) no_refusal in
    let q3 : Verdict = question 3 (count_in_range n) q23 in
    let q22 : Verdict = question 22 (sources_taken limits s) q3 in
    let yes-2 = question-yes 1 (is_count s) q22 h in
    let yes-22 = question-yes 21 (sources_taken limits s) q3 yes-2.1 in
    leb-true n most_events (question-yes 2 (count_in_range n) q23 yes-22.1).0

-- The answers of an accepted reading.
pub record Readable (limits : Limits) (bytes : List ℕ) (head_places value_places : ℕ) : Type 0 where
  pub sizes : 8 ≤ length bytes
  pub two : 2 ≤ sources_of bytes
  pub most : sources_of bytes ≤ most_sources
  pub taken : sources_of bytes ≤ limits.sources
  pub few : count_of bytes ≤ most_events
  pub short : count_of bytes ≤ limits.events
  pub whole : length bytes ≡ length_of (count_of bytes)
  pub heads_hold : count_of bytes ≤ head_places
  pub values_hold : count_of bytes ≤ value_places
  pub events : (walk shape_of (heads_of bytes) (values_of bytes)).refusal ≡ 0

pub readable : (limits : Limits) (bytes : List ℕ) (hp vp : ℕ) → (read_verdict limits bytes hp vp).refusal ≡ 0 → Readable limits bytes hp vp
unfolding read_verdict
readable limits bytes hp vp h =
    let q1 = question-yes 0 _ _ h in
    let q2 = question-yes 1 _ _ q1.1 in
    let q22 = question-yes 21 _ _ q2.1 in
    let q3 = question-yes 2 _ _ q22.1 in
    let q23 = question-yes 22 _ _ q3.1 in
    let q4 = question-yes 3 _ _ q23.1 in
    let q5 = question-yes 4 _ _ q4.1 in
    let range = and_parts _ _ q2.0 in
    let hold = and_parts _ _ q5.0 in
    record {
      sizes = leb-true _ _ q1.0;
      two = leb-true _ _ range.0;
      most = leb-true _ _ range.1;
      taken = leb-true _ _ q22.0;
      few = leb-true _ _ q3.0;
      short = leb-true _ _ q23.0;
      whole = eqb-true _ _ q4.0;
      heads_hold = leb-true _ _ hold.0;
      values_hold = leb-true _ _ hold.1;
      events = q5.1;
    }

-- The same from what the code answers.
pub accepted : {limits : Limits} {bytes : List ℕ} {hp vp : ℕ} → no_refusal ≡ read_verdict limits bytes hp vp → Readable limits bytes hp vp
accepted e = readable _ _ _ _ (ap (λ (v : Verdict). v.refusal) (sym e))

-- The answers of an accepted writing.
pub record Writable (sources : ℕ) (heads values : List ℕ) (space : ℕ) : Type 0 where
  pub two : 2 ≤ sources
  pub most : sources ≤ most_sources
  pub few : length heads ≤ most_events
  pub same : length heads ≡ length values
  pub holds : length_of (length heads) ≤ space
  pub events : (walk write_shape_of heads values).refusal ≡ 0

pub writable : (sources : ℕ) (heads values : List ℕ) (space : ℕ) → (write_verdict sources heads values space).refusal ≡ 0
    → Writable sources heads values space
unfolding write_verdict
writable sources heads values space h =
    let q2 = question-yes 1 _ _ h in
    let q3 = question-yes 2 _ _ q2.1 in
    let q4 = question-yes 3 _ _ q3.1 in
    let q5 = question-yes 4 _ _ q4.1 in
    let range = and_parts _ _ q2.0 in
    record {
      two = leb-true _ _ range.0;
      most = leb-true _ _ range.1;
      few = leb-true _ _ q3.0;
      same = eqb-true _ _ q4.0;
      holds = leb-true _ _ q5.0;
      events = q5.1;
    }

pub writes : {sources : ℕ} {heads values : List ℕ} {space : ℕ} → no_refusal ≡ write_verdict sources heads values space
    → Writable sources heads values space
writes e = writable _ _ _ _ (ap (λ (v : Verdict). v.refusal) (sym e))

-- A writing that question 6 or a later one refuses: the place is that of an event.
later : (n k : ℕ) (answer : Bool) (next : Verdict) → k < 6 → (answer ≡ true → 6 ≤ next.refusal → next.place < n)
    → 6 ≤ (question k answer next).refusal → (question k answer next).place < n
later n k true next h f six = f refl six
later n k false next h f six = absurd (omega arith)

walk-place : (heads values : List ℕ) → length heads ≡ length values → 6 ≤ (walk write_shape_of heads values).refusal → (walk write_shape_of heads values).place < length heads
walk-place heads values same six = (walk_first write_shape_of heads values same (λ z. omega arith)).inside

module _ (sources : ℕ) (heads values : List ℕ) (space : ℕ) where
  abbrev from-5 : Verdict
  from-5 = question 5 (leb (length_of (length heads)) space) (walk write_shape_of heads values)

  abbrev from-4 : Verdict
  from-4 = question 4 (eqb (length heads) (length values)) from-5

  abbrev from-3 : Verdict
  from-3 = question 3 (count_in_range (length heads)) from-4

  pub write-place : 6 ≤ (write_verdict sources heads values space).refusal → (write_verdict sources heads values space).place < length heads
  unfolding write_verdict
  write-place =
      later (length heads) 2 (is_count sources) from-3 (lit< tt) (λ two.
      later (length heads) 3 (count_in_range (length heads)) from-4 (lit< tt) (λ three.
      later (length heads) 4 (eqb (length heads) (length values)) from-5 (lit< tt) (λ four.
      later (length heads) 5 (leb (length_of (length heads)) space) (walk write_shape_of heads values) (lit< tt) (λ five. walk-place heads values (eqb-true _ _ four)))))

-- Arrays that have a place for each event that the reader takes.
pub own-arrays : (limits : Limits) (bytes : List ℕ) {a b : ℕ} → a ≡ limits.events → b ≡ limits.events → read_verdict limits bytes a b ≡ verdict_within limits bytes
own-arrays limits bytes {a} {b} ea eb = ap (λ (x : ℕ). read_verdict limits bytes x b) ea ∙ ap (read_verdict limits bytes limits.events) eb
