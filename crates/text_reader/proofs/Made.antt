-- A text read, and the record made of it: what the calls leave is what the rules say.
use mathlib.Core.Path.{◌≡◌, refl, sym, ap, ◌∙◌}
use mathlib.Core.Bool.{Bool, true, false, cond}
use Prim.Native.Nat.{ℕ, suc, ◌+◌, ◌≤◌, ◌<◌}
use native.Mathlib.Omega.{arith}
use mathlib.Core.List.{List, [], ◌∷◌}
use borrow.Author.Tests.{le-leb, lt-leb, ne_eqb, ltb-true, ltb-false}
use lib.Dec.{ltb}
use lib.ListN.{length, get_or, drop, length-drop, length-map}
use lib.Seq.{get_or-drop}
use Rattle.std.specs.Prelude.{Result, Err}
use Rattle.questions.specs.Numbers.{number_of}
use Rattle.record.specs.declared.Refused.{Refused}
use Rattle.record.specs.Record.{record_size}
use Rattle.record.specs.Questions.{write_verdict}
use Rattle.record.specs.Answers.{Answer, refused_at, write_numbers, write_answer, written_bytes}
use Rattle.record.proofs.Answers.{write-not}
use Rattle.record.proofs.Questions.{write-place}
use Rattle.text_lines.specs.Lines.{lines_in}
use Rattle.text_lines.specs.Numbers.{Number, number_in}
use Rattle.text_lines.specs.Rows.{trimmed, Row, rows_of}
use Rattle.text_reader.specs.Reading.{Fault, no_fault, not_sources, too_long, text_size, head_in, events_fault, rows_fault, text_fault, sources_of_text, heads_of_text, values_of_text, numbers_of}
use Rattle.text_reader.specs.Answers.{written, row_of_place, line_of, to_record_answer, to_record_bytes}
use Rattle.text_lines.proofs.Digits.{found_ok}

one-add : (n : ℕ) → 1 + n ≡ suc n
one-add n = omega arith

-- A text that is too long.
pub long-text : (text : List ℕ) → text_size < length text → too_long ≡ text_fault text
unfolding text_fault
long-text text h = rw (lt-leb _ _ h)

-- One that is not, by its rows.
module _ (text : List ℕ) (short : length text ≤ text_size) where
  pub by_rows : text_fault text ≡ rows_fault (suc (length (lines_in text))) (rows_of text)
  unfolding text_fault
  by_rows = rw (le-leb _ _ short)

  -- There is none.
  pub no_rows : {k : ℕ} → rows_of text ≡ [] → k ≡ 1 + length (lines_in text) → not_sources k ≡ text_fault text
  no_rows {k} q ek =
      let e : k ≡ suc (length (lines_in text)) = omega arith in
      sym (by_rows ∙ rw q (ap not_sources (sym e)))

  -- There is a first row, in which N was looked for.
  module _ (row : Row) {rest : List Row} (q : rows_of text ≡ row ∷ rest) {v : Number} (ev : v ≡ number_in 10 3 (trimmed row.said)) where
    first-row : text_fault text ≡ cond v.ok (events_fault 0 rest) (not_sources row.number)
    first-row = by_rows ∙ rw (q, ev, found_ok 10 3 (trimmed row.said))

    pub sources-bad : v.ok ≡ false → not_sources row.number ≡ text_fault text
    sources-bad z = sym (first-row ∙ rw z)

    pub sources-good : v.ok ≡ true → {f : Fault} → f ≡ events_fault 0 rest → f ≡ text_fault text
    sources-good z ef = ef ∙ sym (first-row ∙ rw z)

-- A text that has no fault, and what it says was written.
module _ (text bytes : List ℕ) (e : no_fault ≡ text_fault text) (long : length bytes ≡ record_size) {sources : ℕ} {hs vs d : List ℕ} (r : Result ℕ Refused)
    (es : sources ≡ sources_of_text text) (eh : hs ≡ heads_of_text text) (ev : vs ≡ values_of_text text)
    (er : write_numbers r ≡ write_answer sources hs vs (length bytes)) (ed : d ≡ written_bytes sources hs vs bytes) where
  made : (written (write_numbers r) (line_of text (write_numbers r)) ≡ to_record_answer text record_size) × (d ≡ to_record_bytes text bytes)
  made = rw (← e, ← es, ← eh, ← ev, ← long) (ap (λ (a : Answer). written a (line_of text a)) er, ed)

  -- The place of a question about an event has a line.
  pub place-there : {numbers : List ℕ} {x : Refused} → numbers ≡ drop 1 (numbers_of (rows_of text)) → r ≡ Err x → 6 ≤ number_of x.refusal → x.place < length numbers
  place-there eb q six =
      let no = write-not sources hs vs (length bytes) er q in
      let h : 6 ≤ (write_verdict sources hs vs (length bytes)).refusal = rw no.1 at six in
      let inside = write-place sources hs vs (length bytes) h in
      let rows = rows_of text in
      rw (no.2, eb)
      (omega (arith, inside, ap length eh, length-map (drop 1 rows) head_in, length-drop 1 rows, length-drop 1 (numbers_of rows), length-map rows (λ (row : Row). row.number)))

  -- A refusal, with the line that it is about.
  pub made-refused : {first line : ℕ} {numbers : List ℕ} {x : Refused} → first ≡ get_or (numbers_of (rows_of text)) 0 0 → numbers ≡ drop 1 (numbers_of (rows_of text))
      → r ≡ Err x → line ≡ cond (ltb (number_of x.refusal) 6) first (get_or numbers x.place 0)
      → (written (refused_at (number_of x.refusal) x.place) line ≡ to_record_answer text record_size) × (d ≡ to_record_bytes text bytes)
  made-refused {first} {line} {numbers} {x} ef eb q el =
      let no = write-not sources hs vs (length bytes) er q in
      let not-0 : number_of x.refusal ≡ 0 → ⊥ = λ y. no.0 (sym no.1 ∙ y) in
      let there : line ≡ line_of text (refused_at (number_of x.refusal) x.place) = rw (ne_eqb (number_of x.refusal) 0 not-0) (el ∙ by-case (ltb (number_of x.refusal) 6) refl) in
      (ap (written (refused_at (number_of x.refusal) x.place)) there ∙ ap (λ (a : Result ℕ Refused). written (write_numbers a) (line_of text (write_numbers a))) (sym q) ∙ made.0, made.1)
    where
      by-case : (b : Bool) → ltb (number_of x.refusal) 6 ≡ b → cond b first (get_or numbers x.place 0)
          ≡ get_or (numbers_of (rows_of text)) (row_of_place (number_of x.refusal) x.place) 0
      by-case true h = rw (lt-leb 6 (number_of x.refusal) (ltb-true (number_of x.refusal) 6 h)) ef
      by-case false h =
          let six : 6 ≤ number_of x.refusal = ltb-false (number_of x.refusal) 6 h in
          rw (le-leb 6 (number_of x.refusal) six) (ap (λ (l : List ℕ). get_or l x.place 0) eb ∙ get_or-drop 1 (numbers_of (rows_of text)) x.place 0 ∙ ap (λ (i : ℕ). get_or (numbers_of (rows_of text)) i 0) (one-add x.place))
