-- A text of plain lines, without blanks, comments and carriage returns: its numbers, what its lines say, its rows, and that it has no fault.
use mathlib.Core.Path.{◌≡◌, refl, ap, ◌∙◌}
use mathlib.Core.Bool.{true, false}
use Prim.Native.Nat.{ℕ, zero, suc, ◌-◌, ◌≤◌, ◌<◌}
use native.Mathlib.Omega.{arith}
use mathlib.Core.List.{List, [], ◌∷◌}
use borrow.Author.Tests.{lt-ltb, lt-leb, ne_eqb}
use lib.ListN.{length, get_or}
use lib.Seq.{take-length}
use Rattle.digits.proofs.Meaning.{digit-of-glyph}
use Rattle.digits.proofs.Signs.{Signs, none, more}
use Rattle.record.specs.Record.{most_events}
use Rattle.text_lines.specs.Lines.{before, lines_in}
use Rattle.text_lines.specs.Rows.{carriage_return, last_of, without_return, comment_sign, said_in, is_blank, without_lead, kept_of, trimmed, says_any, Row, rows_from, rows_of}
use Rattle.text_lines.specs.Numbers.{all_digits}
use Rattle.text_reader.specs.Reading.{is_sources, is_event, has_whole_head, no_fault, events_fault, text_size, text_fault}
use Rattle.text_reader.proofs.Sentences.{Free, empty, other}
use Rattle.text_reader.proofs.Made.{by_rows}

-- The signs of digits are digits.
pub signs-digits : (base : ℕ) {signs : List ℕ} → base ≤ 16 → Signs base signs → all_digits base signs ≡ true
unfolding all_digits
signs-digits base h none = refl
signs-digits base h (more d e l s) =
    let d' : d < 16 = omega arith in
    rw (e, digit-of-glyph d d', lt-ltb d base l) (signs-digits base h s)

-- A part with no blank and no tab in it.
pub record Solid (part : List ℕ) : Type 0 where
  pub blank-free : Free 32 part
  pub tab-free : Free 9 part

-- A line that is plain: no carriage return, no comment, and solid.
pub record Plain (line : List ℕ) : Type 0 where
  pub return-free : Free carriage_return line
  pub comment-free : Free comment_sign line
  pub solid : Solid line

-- No byte of such a list is the mark.
free-at : (mark : ℕ) {text : List ℕ} → Free mark text → (i : ℕ) → i < length text → get_or text i 0 ≡ mark → ⊥
free-at mark empty i h = absurd (omega arith)
free-at mark (other n f) zero h = n
free-at mark (other n f) (suc i) h = free-at mark f i (omega arith)

solid-at : {part : List ℕ} → Solid part → (i : ℕ) → i < length part → is_blank (get_or part i 0) ≡ false
solid-at s i h = rw (ne_eqb _ 32 (free-at 32 s.blank-free i h), ne_eqb _ 9 (free-at 9 s.tab-free i h))

-- What is before a mark that is not there is all of it.
before-none : (mark : ℕ) {text : List ℕ} → Free mark text → before mark text ≡ text
unfolding before
before-none mark empty = refl
before-none mark (other {byte} {text} n f) = rw (ne_eqb byte mark n) (ap (λ (l : List ℕ). byte ∷ l) (before-none mark f))

-- A plain line says all of itself.
no_return : (line : List ℕ) → Free carriage_return line → last_of line ≡ carriage_return → ⊥
no_return [] f e = omega arith
no_return (byte ∷ line) f e = let h : length (byte ∷ line) - 1 < length (byte ∷ line) = omega arith in free-at carriage_return f (length (byte ∷ line) - 1) h e

pub said_plain : (line : List ℕ) → Plain line → said_in line ≡ line
unfolding said_in without_return
said_plain line p = rw (ne_eqb (last_of line) carriage_return (no_return line p.return-free)) (before-none comment_sign p.comment-free)

-- A solid part has no blanks around it.
lead-solid : (part : List ℕ) → Solid part → without_lead part ≡ part
unfolding without_lead
lead-solid [] s = refl
lead-solid (byte ∷ part) s = let h : 0 < length (byte ∷ part) = omega arith in rw (solid-at s 0 h)

kept-solid : (part : List ℕ) → Solid part → (n : ℕ) → n ≤ length part → kept_of part n ≡ n
unfolding kept_of
kept-solid part s zero h = refl
kept-solid part s (suc n) h = let l : n < length part = omega arith in rw (solid-at s n l)

pub trimmed-solid : (part : List ℕ) → Solid part → trimmed part ≡ part
unfolding trimmed
trimmed-solid part s = let l : length part ≤ length part = omega arith in rw (lead-solid part s, kept-solid part s (length part) l) (take-length part)

says_plain : (line : List ℕ) → Plain line → 0 < length line → says_any line ≡ true
unfolding says_any
says_plain line p h = rw (said_plain line p, lead-solid line p.solid) (lt-ltb 0 (length line) h)

-- Its rows: each plain line is one.
pub row_plain : (k : ℕ) (line : List ℕ) (lines : List (List ℕ)) → Plain line → 0 < length line
    → rows_from k (line ∷ lines) ≡ record { number = k; said = line } ∷ rows_from (suc k) lines
unfolding rows_from
row_plain k line lines p h = rw (says_plain line p h, said_plain line p)

pub no-more-rows : (k : ℕ) → rows_from k (lines_in []) ≡ []
unfolding rows_from lines_in
no-more-rows k = refl

-- The rows of events have no fault where each is an event whose head has eight digits, at most 4,000 of them.
pub event-past : (k : ℕ) (row : Row) (rows : List Row) → k < most_events → is_event row.said ≡ true → has_whole_head row.said ≡ true
    → events_fault k (row ∷ rows) ≡ events_fault (suc k) rows
unfolding events_fault
event-past k row rows h e w = rw (lt-leb most_events k h, e, w)

pub no-more-events : (k : ℕ) → events_fault k [] ≡ no_fault
unfolding events_fault
no-more-events k = refl

-- And the text has none where its first row is N.
pub text-well : (text : List ℕ) (row : Row) (rest : List Row) → length text ≤ text_size → rows_of text ≡ row ∷ rest → is_sources row.said ≡ true
    → events_fault 0 rest ≡ no_fault → text_fault text ≡ no_fault
text-well text row rest short q e f = by_rows text short ∙ rw (q, e) f
