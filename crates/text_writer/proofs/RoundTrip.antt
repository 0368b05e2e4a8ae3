-- The text of a record says what the record says, and is read back as that very record.
use mathlib.Core.Path.{◌≡◌, refl, sym, ap, ◌∙◌}
use mathlib.Core.Bool.{Bool, true, false}
use mathlib.Core.Logic.{◌⊎◌, inl, inr}
use Prim.Native.Nat.{ℕ, zero, suc, ◌+◌, ◌^◌, ◌≤◌, ◌<◌}
use native.Mathlib.Nat.{lt_of_lt_of_le, zero-add, add-suc, suc-add}
use native.Mathlib.Omega.{arith}
use mathlib.Core.List.{List, [], ◌∷◌, ◌++◌, map, append_assoc}
use borrow.Author.Tests.{le-leb, ltb-true, ltb-false}
use lib.Dec.{ltb, lit<, lit≤}
use lib.ListN.{length, get_or, replicate, length-append, length-replicate}
use Rattle.buffers.specs.Filled.{filled}
use Rattle.digits.specs.Digits.{glyph, digits_to, decimal, hexadecimal, number_of}
use Rattle.digits.proofs.Digits.{digits-most, exact-length}
use Rattle.digits.proofs.Meaning.{digits-length, digits_number}
use Rattle.digits.proofs.Signs.{Signs, none, more, digits-signs, digits-some}
use Rattle.record.specs.Record.{board, count_of, sources_of, heads_of, values_of, record_size, most_events}
use Rattle.record.specs.Questions.{board_verdict}
use Rattle.record.specs.Answers.{Answer, done_with, refused_at, write_answer, written_bytes}
use Rattle.record.specs.Retired.{NoneRetired, FirstRetired}
use Rattle.record.proofs.Words.{Below}
use Rattle.record.proofs.Walk.{equally-many}
use Rattle.record.proofs.Questions.{Readable, readable}
use Rattle.record_round_trip.specs.RoundTrip.{WritesBack}
use Rattle.record_round_trip.proofs.RoundTrip.{heads-count, writes-back}
use Rattle.record.proofs.Parts.{heads-below, values-below}
use Rattle.text_lines.specs.Lines.{line_feed, colon, lines_in}
use Rattle.text_lines.specs.Numbers.{is_number}
use Rattle.text_lines.specs.Rows.{trimmed, Row, rows_from, rows_of}
use Rattle.text_reader.specs.Reading.{head_part, value_part, is_event, has_whole_head, head_in, value_in, no_fault, events_fault, text_size, text_fault, sources_of_text, heads_of_text, values_of_text, numbers_of}
use Rattle.text_reader.specs.Answers.{written, line_of, writer_answer, to_record_answer, to_record_bytes}
use Rattle.text_reader.proofs.Sentences.{Free, empty, other, free-append, before-free, after_free}
use Rattle.text_lines.proofs.Marks.{lines-first}
use Rattle.text_reader.proofs.Plain.{signs-digits, Solid, Plain, trimmed-solid, row_plain, no-more-rows, event-past, no-more-events, text-well}
use Rattle.text_writer.specs.Writing.{ended, sources_text, event_text, events_text, listing_of, text_of}
use Rattle.text_writer.specs.RoundTrip.{ComesBack}
use Rattle.text_writer.proofs.Writing.{line-some, sources-some, listing-length}

-- A byte that stands in no number: the colon, and every byte below the digits.
abbrev Mark : ℕ → Type 0
Mark mark = (mark < 48) ⊎ (mark ≡ colon)

glyph-no-mark : (mark d : ℕ) → Mark mark → d < 16 → glyph d ≡ mark → ⊥
glyph-no-mark mark d m h = by-case (ltb d 10) refl m
  where
    by-case : (x : Bool) → ltb d 10 ≡ x → Mark mark → glyph d ≡ mark → ⊥
    by-case true e (inl l) = let few : d < 10 = ltb-true d 10 e in rw e (λ z. omega arith)
    by-case true e (inr c) = let few : d < 10 = ltb-true d 10 e in rw e (λ z. omega arith)
    by-case false e (inl l) = rw e (λ z. omega arith)
    by-case false e (inr c) = let ten : 10 ≤ d = ltb-false d 10 e in rw e (λ z. omega arith)

-- The signs of digits are no marks.
signs-free : (mark base : ℕ) {signs : List ℕ} → Mark mark → base ≤ 16 → Signs base signs → Free mark signs
signs-free mark base m h none = empty
signs-free mark base m h (more d e l s) =
    let d' : d < 16 = omega arith in
    other (λ z. glyph-no-mark mark d m d' (sym e ∙ z)) (signs-free mark base m h s)

-- The digits of a number are a number, that number, and no marks.
module _ (base least most n : ℕ) (two : 1 < base) (sixteen : base ≤ 16) where
  signs : Signs base (digits_to base least most n)
  signs = let p : 0 < base = omega arith in digits-signs base least most n p

  digits-free : (mark : ℕ) → Mark mark → Free mark (digits_to base least most n)
  digits-free mark m = signs-free mark base m sixteen signs

  number-there : (k : ℕ) → 0 < most → length (digits_to base least most n) ≤ k → is_number base k (digits_to base least most n) ≡ true
  number-there k some few = rw (le-leb _ _ (digits-some base least most n some), le-leb _ _ few) (signs-digits base sixteen signs)

  number-of-digits : n < base ^ most → number_of base (digits_to base least most n) ≡ n
  number-of-digits h = digits_number base least most n two sixteen h

-- A list without any byte below the digits is solid and plain.
solid : (part : List ℕ) → ((mark : ℕ) → mark < 48 → Free mark part) → Solid part
solid part f = record { blank-free = f 32 (lit< tt); tab-free = f 9 (lit< tt) }

plain : (line : List ℕ) → ((mark : ℕ) → mark < 48 → Free mark line) → Plain line
plain line f = record { return-free = f 13 (lit< tt); comment-free = f 35 (lit< tt); solid = solid line f }

-- A word of 32 bits in hexadecimal.
module _ (least n : ℕ) (h : n < 2 ^ 32) where
  word-there : is_number 16 8 (hexadecimal least n) ≡ true
  word-there = number-there 16 least 8 n (lit< tt) (lit≤ tt) 8 (lit< tt) (digits-most 16 least 8 n)

  word-of-digits : number_of 16 (hexadecimal least n) ≡ n
  word-of-digits = number-of-digits 16 least 8 n (lit< tt) (lit≤ tt) h

-- A word's digits, without the blanks around them, of which there are none.
word-solid : (least n : ℕ) → Solid (hexadecimal least n)
word-solid least n = solid (hexadecimal least n) (λ mark l. digits-free 16 least 8 n (lit< tt) (lit≤ tt) mark (inl l))

-- An event's line.
module _ (head value : ℕ) (hh : head < 2 ^ 32) (hv : value < 2 ^ 32) where
  colon-free : Free colon (hexadecimal 8 head)
  colon-free = digits-free 16 8 8 head (lit< tt) (lit≤ tt) colon (inr refl)

  head-part : head_part (event_text head value) ≡ hexadecimal 8 head
  head-part = rw (before-free colon (hexadecimal 1 value) colon-free) (trimmed-solid (hexadecimal 8 head) (word-solid 8 head))

  value-part : value_part (event_text head value) ≡ hexadecimal 1 value
  value-part = rw (after_free colon (hexadecimal 1 value) colon-free) (trimmed-solid (hexadecimal 1 value) (word-solid 1 value))

  event-there : is_event (event_text head value) ≡ true
  event-there = rw (head-part, value-part, word-there 8 head hh, word-there 1 value hv)

  whole-there : has_whole_head (event_text head value) ≡ true
  whole-there = rw (head-part, exact-length 16 8 head)

  head-of-line : (k : ℕ) → head_in (record { number = k; said = event_text head value }) ≡ head
  head-of-line k = rw head-part (word-of-digits 8 head hh)

  value-of-line : (k : ℕ) → value_in (record { number = k; said = event_text head value }) ≡ value
  value-of-line k = rw value-part (word-of-digits 1 value hv)

event-free : (head value mark : ℕ) → mark < 48 → Free mark (event_text head value)
event-free head value mark h =
    free-append mark (digits-free 16 8 8 head (lit< tt) (lit≤ tt) mark (inl h))
    (other (λ z. omega arith) (digits-free 16 1 8 value (lit< tt) (lit≤ tt) mark (inl h)))

-- A line that ends in a line feed is the first of the lines, and where it is plain it is a row.
line-ended : {line : List ℕ} (rest : List ℕ) → Free line_feed line → lines_in (ended line ++ rest) ≡ line ∷ lines_in rest
line-ended {line} rest f =
    let e : ended line ++ rest ≡ line ++ line_feed ∷ rest = append_assoc line (line_feed ∷ []) rest in
    let l : 0 < length (line ++ line_feed ∷ rest) = rw (length-append line (line_feed ∷ rest)) (omega arith) in
    rw e (lines-first (line ++ line_feed ∷ rest) l ∙ rw (before-free line_feed rest f, after_free line_feed rest f))

row-ended : (k : ℕ) (line rest : List ℕ) → ((mark : ℕ) → mark < 48 → Free mark line) → 0 < length line
    → rows_from k (lines_in (ended line ++ rest)) ≡ record { number = k; said = line } ∷ rows_from (suc k) (lines_in rest)
row-ended k line rest f h = ap (rows_from k) (line-ended rest (f line_feed (lit< tt))) ∙ row_plain k line (lines_in rest) (plain line f) h

event-row : (k head value : ℕ) (rest : List ℕ)
    → rows_from k (lines_in (ended (event_text head value) ++ rest)) ≡ record { number = k; said = event_text head value } ∷ rows_from (suc k) (lines_in rest)
event-row k head value rest = row-ended k (event_text head value) rest (event-free head value) (line-some head value)

-- The lines of events: they have no fault, and they say their heads and values.
events-good : (j k : ℕ) (heads values : List ℕ) → Below (2 ^ 32) heads → Below (2 ^ 32) values → j + length heads ≤ most_events
    → events_fault j (rows_from k (lines_in (events_text heads values))) ≡ no_fault
unfolding events_text
events-good j k [] values hh hv few = rw (no-more-rows k) (no-more-events j)
events-good j k (x ∷ heads) [] hh hv few = rw (no-more-rows k) (no-more-events j)
events-good j k (x ∷ heads) (y ∷ values) hh hv few =
    let fits : j < most_events = omega arith in
    let few' : suc j + length heads ≤ most_events = omega arith in
    ap (events_fault j) (event-row k x y (events_text heads values))
    ∙ event-past j (record { number = k; said = event_text x y }) (rows_from (suc k) (lines_in (events_text heads values))) fits (event-there x y (hh 0) (hv 0)) (whole-there x y (hh 0) (hv 0))
    ∙ events-good (suc j) (suc k) heads values (λ i. hh (suc i)) (λ i. hv (suc i)) few'

events-of-lines : (k : ℕ) (heads values : List ℕ) → Below (2 ^ 32) heads → Below (2 ^ 32) values → length heads ≡ length values
    → (map head_in (rows_from k (lines_in (events_text heads values))) ≡ heads) × (map value_in (rows_from k (lines_in (events_text heads values))) ≡ values)
unfolding events_text
events-of-lines k [] [] hh hv same = rw (no-more-rows k) (refl, refl)
events-of-lines k [] (y ∷ values) hh hv same = absurd (omega arith)
events-of-lines k (x ∷ heads) [] hh hv same = absurd (omega arith)
events-of-lines k (x ∷ heads) (y ∷ values) hh hv same =
    let same' : length heads ≡ length values = omega arith in
    let rest = events-of-lines (suc k) heads values (λ i. hh (suc i)) (λ i. hv (suc i)) same' in
    let first = event-row k x y (events_text heads values) in (
      ap (map head_in) first ∙ rw (head-of-line x y (hh 0) (hv 0) k, rest.0),
      ap (map value_in) first ∙ rw (value-of-line x y (hh 0) (hv 0) k, rest.1),
    )

-- The lines of events that are numbered from k on.
events-numbers : (k : ℕ) (heads values : List ℕ) (i : ℕ) → length heads ≡ length values → i < length heads
    → get_or (numbers_of (rows_from k (lines_in (events_text heads values)))) i 0 ≡ i + k
unfolding events_text
events-numbers k [] values i same h = absurd (omega arith)
events-numbers k (x ∷ heads) [] i same h = absurd (omega arith)
events-numbers k (x ∷ heads) (y ∷ values) zero same h = rw (event-row k x y (events_text heads values)) (sym (zero-add k))
events-numbers k (x ∷ heads) (y ∷ values) (suc i) same h =
    let same' : length heads ≡ length values = omega arith in
    let h' : i < length heads = omega arith in
    rw (event-row k x y (events_text heads values)) (events-numbers (suc k) heads values i same' h' ∙ add-suc i k ∙ sym (suc-add i k))

-- The whole text: it has no fault, and it says N, the heads and the values.
module _ (sources : ℕ) (heads values : List ℕ) (small : sources < 1000) (few : length heads ≤ most_events) (same : length heads ≡ length values)
    (hh : Below (2 ^ 32) heads) (hv : Below (2 ^ 32) values) where
  abbrev text : List ℕ
  text = listing_of sources heads values

  first-free : (mark : ℕ) → mark < 48 → Free mark (sources_text sources)
  first-free mark l = digits-free 10 1 20 sources (lit< tt) (lit≤ tt) mark (inl l)

  abbrev first : Row
  first = record { number = 1; said = sources_text sources }

  rows : rows_of text ≡ first ∷ rows_from 2 (lines_in (events_text heads values))
  rows = row-ended 1 (sources_text sources) (events_text heads values) first-free (sources-some sources)

  first-trimmed : trimmed (sources_text sources) ≡ sources_text sources
  first-trimmed = trimmed-solid (sources_text sources) (solid (sources_text sources) first-free)

  pub no-fault : text_fault text ≡ no_fault
  no-fault =
      let short : length (decimal sources) ≤ 3 = digits-length 10 1 20 sources 2 (lit< tt) small (lit≤ tt) in
      let fits : 0 + length heads ≤ most_events = omega arith in
      let some : is_number 10 3 (trimmed (sources_text sources)) ≡ true = rw first-trimmed (number-there 10 1 20 sources (lit< tt) (lit≤ tt) 3 (lit< tt) short) in
      let size : length text ≤ text_size = omega (arith, listing-length sources heads values small) in
      text-well text first (rows_from 2 (lines_in (events_text heads values))) size rows some (events-good 0 2 heads values hh hv fits)

  pub sources-of-text : sources_of_text text ≡ sources
  sources-of-text =
      let h : sources < 10 ^ 20 = lt_of_lt_of_le small (lit≤ tt) in
      rw (rows, first-trimmed) (number-of-digits 10 1 20 sources (lit< tt) (lit≤ tt) h)

  pub heads-of-text : heads_of_text text ≡ heads
  heads-of-text = rw rows (events-of-lines 2 heads values hh hv same).0

  pub values-of-text : values_of_text text ≡ values
  values-of-text = rw rows (events-of-lines 2 heads values hh hv same).1

  pub line-of-event : (i : ℕ) → i < length heads → get_or (numbers_of (rows_of text)) (suc i) 0 ≡ i + 2
  line-of-event i h = rw rows (events-numbers 2 heads values i same h)

-- For every record that is accepted, the record made of its text is that record.
module _ (bytes : List ℕ) (byte : Below 256 bytes) (z : (board_verdict bytes).refusal ≡ 0) where
  ok : Readable board bytes most_events most_events
  ok = readable board bytes most_events most_events z

  small : sources_of bytes < 1000
  small = omega (arith, ok.most)

  few : length (heads_of bytes) ≤ most_events
  few = omega (arith, heads-count board bytes most_events most_events byte ok, ok.few)

  same : length (heads_of bytes) ≡ length (values_of bytes)
  same = equally-many bytes (count_of bytes) ok.whole

  hh : Below (2 ^ 32) (heads_of bytes)
  hh = heads-below bytes byte

  hv : Below (2 ^ 32) (values_of bytes)
  hv = values-below bytes byte

  -- What is answered to the text, and what is left, is what the writer answers to what was read.
  asked : {a : Answer} → write_answer (sources_of bytes) (heads_of bytes) (values_of bytes) record_size ≡ a → to_record_answer (text_of bytes) record_size ≡ written a (line_of (text_of bytes) a)
  asked {a} e =
      let wrote : writer_answer (text_of bytes) record_size ≡ a =
      rw (
        sources-of-text (sources_of bytes) (heads_of bytes) (values_of bytes) small few same hh hv,
        heads-of-text (sources_of bytes) (heads_of bytes) (values_of bytes) small few same hh hv,
        values-of-text (sources_of bytes) (heads_of bytes) (values_of bytes) small few same hh hv,
      )
      e in
      rw (no-fault (sources_of bytes) (heads_of bytes) (values_of bytes) small few same hh hv, wrote)

  left : (back : List ℕ) → to_record_bytes (text_of bytes) back ≡ written_bytes (sources_of bytes) (heads_of bytes) (values_of bytes) back
  left back =
      rw (
        no-fault (sources_of bytes) (heads_of bytes) (values_of bytes) small few same hh hv,
        sources-of-text (sources_of bytes) (heads_of bytes) (values_of bytes) small few same hh hv,
        heads-of-text (sources_of bytes) (heads_of bytes) (values_of bytes) small few same hh hv,
        values-of-text (sources_of bytes) (heads_of bytes) (values_of bytes) small few same hh hv,
      )

  module _ (back : List ℕ) (long : length back ≡ record_size) where
    again : WritesBack board bytes most_events most_events back
        (write_answer (sources_of bytes) (heads_of bytes) (values_of bytes) (length back))
        (written_bytes (sources_of bytes) (heads_of bytes) (values_of bytes) back)
    again = writes-back board bytes byte most_events most_events back

    fits : length bytes ≤ length back
    fits = omega (arith, ok.whole, ok.few)

    back-again : NoneRetired (heads_of bytes)
        → (to_record_answer (text_of bytes) record_size ≡ written (done_with (length bytes ∷ [])) 0) × (to_record_bytes (text_of bytes) back ≡ filled bytes back)
    back-again clear = let b = (again z fits).0 clear in (asked (rw long at b.0), left back ∙ b.1)

    not-again : (p : ℕ) → FirstRetired (heads_of bytes) p
        → (to_record_answer (text_of bytes) record_size ≡ written (refused_at 27 p) (p + 2)) × (to_record_bytes (text_of bytes) back ≡ back)
    not-again p first =
        let b = (again z fits).1 p first in
        let line = line-of-event (sources_of bytes) (heads_of bytes) (values_of bytes) small few same hh hv p first.0.0 in
        (asked (rw long at b.0) ∙ ap (written (refused_at 27 p)) line, left back ∙ b.1)

-- The text of a record is read back.
pub comes_back : (bytes : List ℕ) → Below 256 bytes → ComesBack bytes (text_of bytes)
comes_back bytes byte z = (
  (λ clear. ((back-again bytes byte z zeros zeros-long clear).0, (λ back long. (back-again bytes byte z back long clear).1))),
  (λ p first. ((not-again bytes byte z zeros zeros-long p first).0, (λ back long. (not-again bytes byte z back long p first).1))),
)
  where
    zeros : List ℕ
    zeros = replicate record_size 0

    zeros-long : length zeros ≡ record_size
    zeros-long = length-replicate {A = ℕ} record_size 0
