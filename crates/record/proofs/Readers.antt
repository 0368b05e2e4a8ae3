-- A reader with limits of its own beside the big one.
use Prim.Native.Nat.{ℕ, ◌≤◌}
use mathlib.Core.Bool.{Bool, true, false, ◌&&◌, not, cond}
use mathlib.Core.Path.{◌≡◌, refl, sym, ap, ◌∙◌}
use mathlib.Core.List.{List}
use borrow.Author.Tests.{leb-true, le-leb}
use native.Mathlib.Omega.{arith}
use lib.Dec.{leb, eqb}
use lib.ListN.{length}
use Rattle.event.specs.Event.{shape_of}
use Rattle.source_count.specs.Count.{most_sources}
use Rattle.record.specs.declared.Limits.{Limits}
use Rattle.record.specs.Verdict.{Verdict}
use Rattle.record.specs.Record.{board, compact, most_events, count_of, sources_of, heads_of, values_of, length_of}
use Rattle.record.specs.Questions.{verdict, question, holds_sizes, sources_taken, count_in_range, count_taken, arrays_hold, walk, read_verdict, verdict_within, board_verdict}
use Rattle.record.specs.Answers.{all_yes}
use Rattle.record.specs.Readers.{scope_verdict, Beside}

and_no : (a : Bool) → (a && false) ≡ false
and_no true = refl
and_no false = refl

and_yes : (a : Bool) → (a && true) ≡ a
and_yes true = refl
and_yes false = refl

-- The answers of a reader as it asks.
module _ (w : Verdict) where
  abbrev asked : Bool → Bool → Bool → Bool → Bool → Bool → Bool → Verdict
  asked one two q22 three q23 four five =
      question 1 one (question 2 two (question 22 q22 (question 3 three (question 23 q23 (question 4 four (question 5 five w))))))

  -- Where 22 is part of 2, and 23 of 3, they decide nothing.
  large-asks : (one low most q22 three q23 four five : Bool) → (most ≡ true → q22 ≡ true) → (three ≡ true → q23 ≡ true)
      → asked one (low && most) q22 three q23 four five ≡ question 1 one (question 2 (low && most) (question 3 three (question 4 four (question 5 five w))))
  large-asks false low most q22 three q23 four five h k = refl
  large-asks true false most q22 three q23 four five h k = refl
  large-asks true true false q22 three q23 four five h k = refl
  large-asks true true true q22 false q23 four five h k = rw (h refl)
  large-asks true true true q22 true q23 four five h k = rw (h refl, k refl)

  module _ (four five five' : Bool) where
    abbrev own : Bool → Bool → Bool → Bool → Bool → Bool → Verdict
    own one low most q22 three q23 = asked one (low && most) q22 three q23 four five

    abbrev big : Bool → Bool → Bool → Bool → Verdict
    big one low most three = asked one (low && most) most three three four five'

    -- Arrays hold alike where n is taken.
    abbrev Alike : Bool → Type 0
    Alike q23 = q23 ≡ true → five ≡ five'

    same : Alike true → question 4 four (question 5 five w) ≡ question 4 four (question 5 five' w)
    same h = ap (λ (t : Bool). question 4 four (question 5 t w)) (h refl)

    decides-by : (one low most q22 three q23 : Bool) → Alike q23
        → own one low most q22 three q23
        ≡ cond (one && (low && most) && not q22) (verdict 22 0) (cond (one && (low && most) && q22 && three && not q23) (verdict 23 0) (big one low most three))
    decides-by false low most q22 three q23 h = refl
    decides-by true false most q22 three q23 h = refl
    decides-by true true false q22 three q23 h = refl
    decides-by true true true false three q23 h = refl
    decides-by true true true true false q23 h = refl
    decides-by true true true true true false h = refl
    decides-by true true true true true true h = same h

    accepts-by : (one low most q22 three q23 : Bool) → Alike q23
        → all_yes (own one low most q22 three q23) ≡ (all_yes (big one low most three) && (q22 && q23))
    accepts-by false low most q22 three q23 h = refl
    accepts-by true false most q22 three q23 h = refl
    accepts-by true true false q22 three q23 h = refl
    accepts-by true true true false three q23 h = sym (and_no (all_yes (big true true true three)))
    accepts-by true true true true false q23 h = refl
    accepts-by true true true true true false h = sym (and_no (all_yes (big true true true true)))
    accepts-by true true true true true true h = ap all_yes (same h) ∙ sym (and_yes (all_yes (big true true true true)))

    alike-by : (one low most q22 three q23 : Bool) → Alike q23
        → ((own one low most q22 three q23).refusal ≡ 22 → ⊥) → ((own one low most q22 three q23).refusal ≡ 23 → ⊥) → own one low most q22 three q23 ≡ big one low most three
    alike-by false low most q22 three q23 h n22 n23 = refl
    alike-by true false most q22 three q23 h n22 n23 = refl
    alike-by true true false q22 three q23 h n22 n23 = refl
    alike-by true true true false three q23 h n22 n23 = absurd (n22 refl)
    alike-by true true true true false q23 h n22 n23 = refl
    alike-by true true true true true false h n22 n23 = absurd (n23 refl)
    alike-by true true true true true true h n22 n23 = same h

-- A reader that takes every record asks 01's questions, and no others.
pub large-scope : (limits : Limits) → most_sources ≤ limits.sources → most_events ≤ limits.events → (bytes : List ℕ) (a b : ℕ) → read_verdict limits bytes a b ≡ scope_verdict bytes a b
unfolding read_verdict
large-scope limits sources events bytes a b =
    let s : ℕ = sources_of bytes in
    let n : ℕ = count_of bytes in
    large-asks (walk shape_of (heads_of bytes) (values_of bytes)) (holds_sizes bytes) (leb 2 s) (leb s most_sources) (sources_taken limits s) (count_in_range n) (count_taken limits n)
    (eqb (length bytes) (length_of n)) (arrays_hold n a b) (λ h. le-leb s limits.sources (omega (arith, leb-true s most_sources h))) (λ h. le-leb n limits.events (omega (arith, leb-true n most_events h)))

pub big-scope : (bytes : List ℕ) (a b : ℕ) → read_verdict board bytes a b ≡ scope_verdict bytes a b
big-scope = large-scope board (omega arith) (omega arith)

-- A reader with any limits, where its arrays hold the events that it takes as those of the big one do.
module _ (limits : Limits) (bytes : List ℕ) (a b c d : ℕ) (hold : count_of bytes ≤ limits.events → arrays_hold (count_of bytes) a b ≡ arrays_hold (count_of bytes) c d) where
  abbrev events : Verdict
  events = walk shape_of (heads_of bytes) (values_of bytes)

  abbrev s : ℕ
  s = sources_of bytes

  abbrev n : ℕ
  n = count_of bytes

  pub beside : Beside limits bytes (read_verdict limits bytes a b) (read_verdict board bytes c d)
  unfolding read_verdict
  beside =
      let h : count_taken limits n ≡ true → arrays_hold n a b ≡ arrays_hold n c d = λ e. hold (leb-true _ _ e) in
      let four : Bool = eqb (length bytes) (length_of n) in
      record {
        decides = decides-by events four (arrays_hold n a b) (arrays_hold n c d) (holds_sizes bytes) (leb 2 s) (leb s most_sources) (sources_taken limits s) (count_in_range n) (count_taken limits n) h;
        accepts = accepts-by events four (arrays_hold n a b) (arrays_hold n c d) (holds_sizes bytes) (leb 2 s) (leb s most_sources) (sources_taken limits s) (count_in_range n) (count_taken limits n) h;
        alike = alike-by events four (arrays_hold n a b) (arrays_hold n c d) (holds_sizes bytes) (leb 2 s) (leb s most_sources) (sources_taken limits s) (count_in_range n) (count_taken limits n) h;
      }

-- The compact reader and the big one, of the same arrays,
pub compact-beside : (bytes : List ℕ) (a b : ℕ) → Beside compact bytes (read_verdict compact bytes a b) (read_verdict board bytes a b)
compact-beside bytes a b = beside compact bytes a b a b (λ h. refl)

-- and each of arrays that have a place for each event that it takes.
pub within-beside : (limits : Limits) → limits.events ≤ most_events → (bytes : List ℕ) → Beside limits bytes (verdict_within limits bytes) (board_verdict bytes)
within-beside limits most bytes =
    beside limits bytes limits.events limits.events most_events most_events (λ h. rw (le-leb _ _ h, le-leb (count_of bytes) most_events (omega arith)))
