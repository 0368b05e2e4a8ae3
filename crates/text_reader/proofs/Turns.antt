-- The loops over the lines and the rows: their turns, and the places at which they end.
use mathlib.Core.Path.{◌≡◌, refl, sym, ap, ◌∙◌}
use mathlib.Core.Bool.{Bool, true, false, cond, not}
use Prim.Native.Nat.{ℕ, zero, suc, ◌+◌, ◌≤◌, ◌<◌}
use native.Mathlib.Numerals.{add-one}
use native.Mathlib.Omega.{arith}
use mathlib.Core.List.{List, [], ◌∷◌, ◌++◌, map, map-append}
use borrow.Author.Tests.{le-leb, lt-leb}
use lib.Dec.{leb, ltb}
use lib.ListN.{length, take, drop, set, length-drop}
use lib.Seq.{take-suc-set}
use Rattle.std.proofs.lemmas.Bool.{and_parts}
use Rattle.record.specs.Record.{most_events}
use Rattle.text_lines.specs.Lines.{line_feed, before, after, lines_in}
use Rattle.text_lines.specs.Rows.{said_in, without_lead, says_any, Row, rows_from}
use Rattle.text_lines.specs.Numbers.{number_in}
use Rattle.text_reader.specs.Reading.{Fault, head_part, value_part, is_event, has_whole_head, head_in, value_in, event_in, fault, no_fault, why_not_event, why_short_head, not_event, too_many, short_head, events_fault}
use Rattle.text_reader.specs.Answers.{good, bad, read_of}
use Rattle.text_lines.proofs.Marks.{lines-first}
use Rattle.text_lines.proofs.Digits.{found_ok, found-value}

-- What is found in a row is an event just where it is one.
pub event-ok : (said : List ℕ) → (event_in said).ok ≡ is_event said
event-ok said = rw (found_ok 16 8 (head_part said), found_ok 16 8 (value_part said))

module _ (row : Row) (good : (event_in row.said).ok ≡ true) where
  both : ((number_in 16 8 (head_part row.said)).ok ≡ true) × ((number_in 16 8 (value_part row.said)).ok ≡ true)
  both = and_parts _ _ good

  pub event-head : (event_in row.said).head ≡ head_in row
  event-head = found-value 16 8 (head_part row.said) both.0

  pub event-value : (event_in row.said).value ≡ value_in row
  event-value = found-value 16 8 (value_part row.said) both.1

-- What is read of a row.
read-is : (row : Row) → read_of (event_in row.said)
    ≡ cond (is_event row.said) (cond (has_whole_head row.said) (good (head_in row) (value_in row)) (bad why_short_head)) (bad why_not_event)
read-is row = by-case (event_in row.said).ok refl
  where
    by-case : (ok : Bool) → (event_in row.said).ok ≡ ok → read_of (event_in row.said)
        ≡ cond (is_event row.said) (cond (has_whole_head row.said) (good (head_in row) (value_in row)) (bad why_short_head)) (bad why_not_event)
    by-case true e = rw (← event-ok row.said, e, event-head row e, event-value row e)
    by-case false e = rw (← event-ok row.said, e)

-- At a line: the rows from it on.
module _ (text : List ℕ) (h : 0 < length text) {line rest : List ℕ} (el : line ≡ before line_feed text) (er : rest ≡ after line_feed text) where
  first : lines_in text ≡ line ∷ lines_in rest
  first = rw (el, er) (lines-first text h)

  rows-here : (k : ℕ) → rows_from k (lines_in text)
      ≡ cond (says_any line) (record { number = k; said = said_in line } ∷ rows_from (suc k) (lines_in rest)) (rows_from (suc k) (lines_in rest))
  unfolding rows_from
  rows-here k = rw first

  pub one_line-more : (k : ℕ) {x : ℕ} → x ≡ k + length (lines_in text) → x ≡ k + 1 + length (lines_in rest)
  one_line-more k q = let l : length (lines_in text) ≡ suc (length (lines_in rest)) = ap length first in omega arith

  module _ (k : ℕ) {said : List ℕ} (et : said ≡ said_in line) {says : Bool} (es : says ≡ ltb 0 (length (without_lead said))) where
    says_is : says ≡ says_any line
    unfolding says_any
    says_is = es ∙ ap (λ (l : List ℕ). ltb 0 (length (without_lead l))) et

    -- It says nothing.
    pub row-past : says ≡ false → {x : List Row} → x ≡ rows_from k (lines_in text) → x ≡ rows_from (k + 1) (lines_in rest)
    row-past z q = rw add-one (q ∙ rows-here k ∙ rw (← says_is, z))

    -- It is a row.
    pub row-found : says ≡ true → {x : List Row} → x ≡ rows_from k (lines_in text) → x ≡ record { number = k; said = said } ∷ rows_from (k + 1) (lines_in rest)
    row-found z q = rw add-one (q ∙ rows-here k ∙ rw (← says_is, z, et))

-- Past the last line.
module _ (text : List ℕ) (h : length text ≡ 0) where
  none : lines_in text ≡ []
  unfolding lines_in
  none = go text h
    where
      go : (text : List ℕ) → length text ≡ 0 → lines_in text ≡ []
      go [] h = refl
      go (byte ∷ text) h = absurd (omega arith)

  pub no_row : (k : ℕ) {x : List Row} → x ≡ rows_from k (lines_in text) → x ≡ []
  unfolding rows_from
  no_row k q = q ∙ rw none

  pub no_line : (k : ℕ) {x : ℕ} → x ≡ k + length (lines_in text) → k ≡ x
  no_line k q = let l : length (lines_in text) ≡ 0 = ap length none in omega arith

-- The list after its first n, where there is one more.
one_on : (n : ℕ) (rows : List Row) (row : Row) (rest : List Row) → drop n rows ≡ row ∷ rest
    → (n < length rows) × (drop (suc n) rows ≡ rest) × (take (suc n) rows ≡ take n rows ++ row ∷ [])
one_on zero rows row rest e = rw e (omega arith, refl, refl)
one_on (suc n) [] row rest e = let z : 0 ≡ suc (length rest) = ap length e in absurd (omega arith)
one_on (suc n) (y ∷ rows) row rest e =
    let ih = one_on n rows row rest e in
    (omega (arith, ih.0), ih.1, ap (λ (l : List Row). y ∷ l) ih.2)

-- Row n of the events: what it leaves of the rows, and what is stored of it.
module _ (rows : List Row) (n : ℕ) (row : Row) {rest x : List Row} (e : drop n rows ≡ x) (q : x ≡ row ∷ rest) where
  step : (n < length rows) × (drop (suc n) rows ≡ rest) × (take (suc n) rows ≡ take n rows ++ row ∷ [])
  step = one_on n rows row rest (e ∙ q)

  pub rows-turn : drop (n + 1) rows ≡ rest
  rows-turn = rw add-one step.1

  pub count_turn : n + 1 ≤ length rows
  count_turn = omega (arith, step.0)

  pub stored-turn : (f : Row → ℕ) (a : List ℕ) (v : ℕ) → v ≡ f row → n < length a → take n a ≡ map f (take n rows)
      → take (n + 1) (set a n v) ≡ map f (take (n + 1) rows)
  stored-turn f a v ev la ea = rw (add-one, take-suc-set a n v la, step.2, map-append f (take n rows) (row ∷ []), ea, ev)

-- All of them.
pub rows_end : (rows : List Row) (n : ℕ) {x : List Row} → n ≤ length rows → drop n rows ≡ x → x ≡ [] → n ≡ length rows
rows_end rows n l e z = omega (arith, length-drop n rows, ap length (e ∙ z))

-- The first fault of the rows of events: at a row more than 4,000, at one that is no event, at one with a short head, and past one that is good.
module _ (n : ℕ) (row : Row) {rest x : List Row} (q : x ≡ row ∷ rest) where
  fault-here : events_fault n x
      ≡ cond (leb most_events n) (too_many row.number)
      (cond (not (is_event row.said)) (not_event row.number)
      (cond (not (has_whole_head row.said)) (short_head row.number)
      (events_fault (suc n) rest)))
  unfolding events_fault
  fault-here = rw q

  pub fault-many : most_events ≤ n → {f : Fault} → f ≡ events_fault n x → too_many row.number ≡ f
  fault-many h ef = sym (ef ∙ fault-here ∙ rw (le-leb _ _ h))

  module _ (h : n < most_events) where
    good-here : (ok whole : Bool) → is_event row.said ≡ ok → has_whole_head row.said ≡ whole
        → events_fault n x ≡ cond ok (cond whole (events_fault (n + 1) rest) (short_head row.number)) (not_event row.number)
    good-here true true e w = fault-here ∙ rw (lt-leb _ _ h, e, w, add-one)
    good-here true false e w = fault-here ∙ rw (lt-leb _ _ h, e, w)
    good-here false whole e w = fault-here ∙ rw (lt-leb _ _ h, e)

    pub fault-bad : {number : ℕ} → bad number ≡ read_of (event_in row.said) → {f : Fault} → f ≡ events_fault n x → fault number row.number ≡ f
    fault-bad {number} eb ef = by-case (is_event row.said) (has_whole_head row.said) (eb ∙ read-is row) (good-here _ _ refl refl) ∙ sym ef
      where
        by-case : (ok whole : Bool) → bad number ≡ cond ok (cond whole (good (head_in row) (value_in row)) (bad why_short_head)) (bad why_not_event)
            → events_fault n x ≡ cond ok (cond whole (events_fault (n + 1) rest) (short_head row.number)) (not_event row.number)
            → fault number row.number ≡ events_fault n x
        by-case true true e q = cc
        by-case true false e q = cc
        by-case false whole e q = cc

    pub good-turn : {head value : ℕ} → good head value ≡ read_of (event_in row.said)
        → (events_fault n x ≡ events_fault (n + 1) rest) × (head ≡ head_in row) × (value ≡ value_in row)
    good-turn {head} {value} eb = by-case (is_event row.said) (has_whole_head row.said) (eb ∙ read-is row) (good-here _ _ refl refl)
      where
        by-case : (ok whole : Bool) → good head value ≡ cond ok (cond whole (good (head_in row) (value_in row)) (bad why_short_head)) (bad why_not_event)
            → events_fault n x ≡ cond ok (cond whole (events_fault (n + 1) rest) (short_head row.number)) (not_event row.number)
            → (events_fault n x ≡ events_fault (n + 1) rest) × (head ≡ head_in row) × (value ≡ value_in row)
        by-case true true e q = (cc, cc, cc)
        by-case true false e q = (cc, cc, cc)
        by-case false whole e q = (cc, cc, cc)

pub fault-none : (n : ℕ) {x : List Row} → x ≡ [] → {f : Fault} → f ≡ events_fault n x → no_fault ≡ f
unfolding events_fault
fault-none n z ef = sym (ef ∙ rw z)
