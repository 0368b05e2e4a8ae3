-- The text of a record, put line by line.
use mathlib.Core.Path.{◌≡◌, refl, sym, ap, ◌∙◌}
use Prim.Native.Nat.{ℕ, zero, suc, ◌+◌, ◌*◌, ◌≤◌, ◌<◌}
use native.Mathlib.Numerals.{add-one}
use native.Mathlib.Omega.{arith}
use mathlib.Core.List.{List, [], ◌∷◌, ◌++◌, append_assoc, append-nil}
use lib.Dec.{lit<, lit≤}
use lib.ListN.{length, get_or, take, length-append}
use lib.Seq.{length-sets, take_at, length-take-le}
use Rattle.buffers.proofs.Stores.{sets-filled}
use Rattle.buffers.specs.Filled.{filled}
use Rattle.digits.specs.Digits.{decimal, hexadecimal}
use Rattle.digits.specs.Pieces.{put_each, place_after_each, joined}
use Rattle.digits.proofs.Digits.{digits-most}
use Rattle.digits.proofs.Meaning.{digits-length}
use Rattle.digits.proofs.Signs.{digits-some}
use Rattle.digits.proofs.Pieces.{Stands, two, stands-as, each, each-as}
use borrow.Author.Tests.{eq-eqb}
use Rattle.record.specs.Record.{board, most_events}
use Rattle.record.specs.Questions.{board_verdict}
use Rattle.record.specs.Answers.{done_with}
use Rattle.record.proofs.Questions.{own-arrays}
use Rattle.record.proofs.Parts.{Parts}
use Rattle.text_lines.specs.Lines.{line_feed, colon}
use Rattle.text_writer.specs.Writing.{ended, sources_text, event_text, line_texts, events_text, listing_of, text_of}
use Rattle.text_writer.specs.Answers.{to_text_answer, to_text_bytes}

-- An event's line has at most 18 bytes.
line-length : (head value : ℕ) → length (ended (event_text head value)) ≤ 18
line-length head value =
    rw (length-append (event_text head value) (line_feed ∷ []), length-append (hexadecimal 8 head) (colon ∷ hexadecimal 1 value))
    (omega (arith, digits-most 16 8 8 head, digits-most 16 1 8 value))

pub events-length : (heads values : List ℕ) → length (events_text heads values) ≤ 18 * length heads
unfolding events_text
events-length [] values = omega arith
events-length (head ∷ heads) [] = omega arith
events-length (head ∷ heads) (value ∷ values) =
    rw (length-append (ended (event_text head value)) (events_text heads values))
    (omega (arith, line-length head value, events-length heads values))

-- And some.
pub line-some : (head value : ℕ) → 0 < length (event_text head value)
line-some head value = rw (length-append (hexadecimal 8 head) (colon ∷ hexadecimal 1 value)) (omega arith)

-- The first line has at most 4, and some.
pub sources-some : (n : ℕ) → 0 < length (sources_text n)
sources-some n = digits-some 10 1 20 n (lit< tt)

sources-length : (n : ℕ) → n < 1000 → length (ended (sources_text n)) ≤ 4
sources-length n h =
    let l : length (decimal n) ≤ 3 = digits-length 10 1 20 n 2 (lit< tt) h (lit≤ tt) in
    rw (length-append (decimal n) (line_feed ∷ [])) (omega arith)

-- The whole text has at most 4 and 18 for each event.
pub listing-length : (sources : ℕ) (heads values : List ℕ) → sources < 1000 → length (listing_of sources heads values) ≤ 4 + 18 * length heads
listing-length sources heads values small =
    rw (length-append (ended (sources_text sources)) (events_text heads values)) (omega (arith, sources-length sources small, events-length heads values))

-- The pieces of an event's line are the line.
line-joined : (head value : ℕ) → joined (line_texts head value) ≡ ended (event_text head value)
line-joined head value = ap (λ (l : List ℕ). l ++ line_feed ∷ []) (append_assoc (hexadecimal 8 head) (colon ∷ []) (hexadecimal 1 value))

-- One more event's line.
events-snoc : (i : ℕ) (heads values : List ℕ) → i < length heads → i < length values
    → events_text (take (suc i) heads) (take (suc i) values) ≡ events_text (take i heads) (take i values) ++ ended (event_text (get_or heads i 0) (get_or values i 0))
unfolding events_text
events-snoc i [] values h v = absurd (omega arith)
events-snoc i (x ∷ heads) [] h v = absurd (omega arith)
events-snoc zero (x ∷ heads) (y ∷ values) h v = append-nil (ended (event_text x y))
events-snoc (suc i) (x ∷ heads) (y ∷ values) h v =
    let h' : i < length heads = omega arith in
    let v' : i < length values = omega arith in
    ap (λ (l : List ℕ). ended (event_text x y) ++ l) (events-snoc i heads values h' v')
    ∙ sym (append_assoc (ended (event_text x y)) (events_text (take i heads) (take i values)) (ended (event_text (get_or heads i 0) (get_or values i 0))))

-- Where one list has no more events, there are no more lines.
pub events-short : (k : ℕ) (heads values : List ℕ) → (k < length heads → k < length values → ⊥) → events_text (take k heads) (take k values) ≡ events_text heads values
unfolding events_text
events-short zero [] values h = refl
events-short (suc k) [] values h = refl
events-short zero (x ∷ heads) [] h = refl
events-short zero (x ∷ heads) (y ∷ values) h = absurd (h (omega arith) (omega arith))
events-short (suc k) (x ∷ heads) [] h = refl
events-short (suc k) (x ∷ heads) (y ∷ values) h =
    ap (λ (l : List ℕ). ended (event_text x y) ++ l) (events-short k heads values (λ a b. h (omega (arith, a)) (omega (arith, b))))

-- The pieces of the first line.
abbrev pub first_texts : ℕ → List (List ℕ)
first_texts sources = decimal sources ∷ (line_feed ∷ []) ∷ []

-- The first line, and the events after it, line by line.
module _ (text : List ℕ) (sources : ℕ) (heads values : List ℕ) (small : sources < 1000) (long : 4 + 18 * length heads ≤ length text) where
  abbrev first : List ℕ
  first = ended (sources_text sources)

  pub none-listed : {at : ℕ} {d : List ℕ} → at ≡ place_after_each text 0 (first_texts sources) → d ≡ put_each text 0 (first_texts sources)
      → Stands text 0 (listing_of sources [] []) at d
  unfolding events_text
  none-listed e f =
      let room : 0 + length first ≤ length text = omega (arith, sources-length sources small) in
      stands-as text 0 (sym (append-nil first)) (each text 0 (first_texts sources) room e f)

  pub one-listed : (i : ℕ) {at at' : ℕ} {d d' : List ℕ} → i < length heads → i < length values → Stands text 0 (listing_of sources (take i heads) (take i values)) at d
      → at' ≡ place_after_each d at (line_texts (get_or heads i 0) (get_or values i 0)) → d' ≡ put_each d at (line_texts (get_or heads i 0) (get_or values i 0))
      → Stands text 0 (listing_of sources (take (i + 1) heads) (take (i + 1) values)) at' d'
  one-listed i {at} {at'} {d} {d'} h v e ea ed =
      let line = ended (event_text (get_or heads i 0) (get_or values i 0)) in
      let few : i ≤ length heads = omega arith in
      let most : length (listing_of sources (take i heads) (take i values)) ≤ 4 + 18 * length (take i heads) = listing-length sources (take i heads) (take i values) small in
      let same : length d ≡ length text = rw e.1 (length-sets text 0 (listing_of sources (take i heads) (take i values))) in
      let room : at + length line ≤ length d = omega (arith, e.0, length-take-le i heads few, line-length (get_or heads i 0) (get_or values i 0)) in
      rw (add-one, events-snoc i heads values h v, ← append_assoc first (events_text (take i heads) (take i values)) line)
      (two text 0 (listing_of sources (take i heads) (take i values)) line e (each-as d at (line_texts (get_or heads i 0) (get_or values i 0)) (line-joined _ _) room ea ed))

  pub all-listed : {at : ℕ} {d : List ℕ} → Stands text 0 (listing_of sources heads values) at d
      → (at ≡ length (listing_of sources heads values)) × ((d ≡ filled (listing_of sources heads values) text) × (at ≤ length d))
  all-listed {at} {d} e =
      let fits : length (listing_of sources heads values) ≤ length text = omega (arith, listing-length sources heads values small) in
      let same : length d ≡ length text = rw e.1 (length-sets text 0 (listing_of sources heads values)) in
      (omega (arith, e.0), (e.1 ∙ sets-filled text (listing_of sources heads values) fits, omega (arith, e.0)))

-- What was read of a record is within bounds.
pub parts-fit : {bytes : List ℕ} {head_places value_places n s : ℕ} {hs vs : List ℕ} → Parts board bytes head_places value_places n s hs vs → (n ≤ most_events) × (s < 1000)
parts-fit p = (omega (arith, p.accepts.few, p.count), omega (arith, p.accepts.most, p.sources))

-- The text of a record that was read.
module _ (bytes text : List ℕ) {head_places value_places n s : ℕ} {hs vs : List ℕ} (p : Parts board bytes head_places value_places n s hs vs)
    (eh : head_places ≡ most_events) (ev : value_places ≡ most_events) where
  pub text-made : {l : ℕ} {d : List ℕ} → l ≡ length (listing_of s (take n hs) (take n vs)) → d ≡ filled (listing_of s (take n hs) (take n vs)) text
      → (done_with (l ∷ []) ≡ to_text_answer bytes) × (d ≡ to_text_bytes bytes text) × (take l d ≡ text_of bytes)
  text-made {l} {d} el ed =
      let yes : (board_verdict bytes).refusal ≡ 0 = rw (own-arrays board bytes eh ev) at p.yes in
      let el' : l ≡ length (text_of bytes) = rw (p.heads, p.values, p.sources) at el in
      let ed' : d ≡ filled (text_of bytes) text = rw (p.heads, p.values, p.sources) at ed in
      rw (eq-eqb _ _ yes) (ap (λ (k : ℕ). done_with (k ∷ [])) el', ed', ap (take l) ed' ∙ take_at (text_of bytes) _ l (sym el'))
