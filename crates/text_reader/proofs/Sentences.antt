-- The rules in plain sentences: the parts of a line, the lines of a text, blanks, rows, and the first fault.
use mathlib.Core.Path.{◌≡◌, refl, sym, ap, ◌∙◌}
use mathlib.Core.Bool.{Bool, true, false, cond, not, true≢false}
use mathlib.Core.Logic.{◌⊎◌, inl, inr}
use Prim.Native.Nat.{ℕ, zero, suc, ◌+◌, ◌-◌, ◌≤◌, ◌<◌}
use native.Mathlib.Nat.{add-zero, add-suc, suc-add}
use native.Mathlib.Omega.{arith}
use mathlib.Core.List.{List, [], ◌∷◌, ◌++◌}
use borrow.Author.Tests.{eq-eqb, ne_eqb, eqb-true, eqb-false, leb-true, leb-false}
use lib.Dec.{eqb, leb}
use lib.ListN.{length, get_or, drop, length-append}
use Rattle.record.specs.Record.{most_events}
use Rattle.text_lines.specs.Lines.{line_feed, before, after, onto, lines_in}
use Rattle.text_lines.specs.Rows.{said_in, is_blank, without_lead, kept_of, says_any, Row, rows_from}
use Rattle.text_reader.specs.Reading.{Fault, is_event, has_whole_head, not_event, too_many, short_head, events_fault}

-- No byte of the list is the mark.
pub data Free (mark : ℕ) : List ℕ → Type 0 where
  empty : Free mark []
  other : {byte : ℕ} {text : List ℕ} → (byte ≡ mark → ⊥) → Free mark text → Free mark (byte ∷ text)

pub free-append : (mark : ℕ) {xs ys : List ℕ} → Free mark xs → Free mark ys → Free mark (xs ++ ys)
free-append mark empty f = f
free-append mark (other h xs) f = other h (free-append mark xs f)

-- A list is what is before its first mark, the mark, and what is after it; or it has no mark, and all of it is before.
abbrev Split : ℕ → List ℕ → List ℕ → List ℕ → Type 0
Split mark text x y = (text ≡ x ++ mark ∷ y) ⊎ ((x ≡ text) × (y ≡ []))

split_step : (here : Bool) (mark byte : ℕ) (text x y : List ℕ) → eqb byte mark ≡ here → Split mark text x y
    → Split mark (byte ∷ text) (cond here [] (byte ∷ x)) (cond here text y)
split_step true mark byte text x y e s = inl (ap (λ (b : ℕ). b ∷ text) (eqb-true byte mark e))
split_step false mark byte text x y e (inl s) = inl (ap (λ (l : List ℕ). byte ∷ l) s)
split_step false mark byte text x y e (inr s) = inr (ap (λ (l : List ℕ). byte ∷ l) s.0, s.1)

pub split-mark : (mark : ℕ) (text : List ℕ) → Split mark text (before mark text) (after mark text)
unfolding before after
split-mark mark [] = inr (refl, refl)
split-mark mark (byte ∷ text) = split_step (eqb byte mark) mark byte text (before mark text) (after mark text) refl (split-mark mark text)

free_step : (here : Bool) (mark byte : ℕ) {x : List ℕ} → eqb byte mark ≡ here → Free mark x → Free mark (cond here [] (byte ∷ x))
free_step true mark byte e f = empty
free_step false mark byte e f = other (eqb-false byte mark e) f

pub before-has-none : (mark : ℕ) (text : List ℕ) → Free mark (before mark text)
unfolding before
before-has-none mark [] = empty
before-has-none mark (byte ∷ text) = free_step (eqb byte mark) mark byte refl (before-has-none mark text)

-- Lines, each with its line feed, one after the other.
unfoldable pub joined : List (List ℕ) → List ℕ
joined [] = []
joined (line ∷ lines) = (line ++ line_feed ∷ []) ++ joined lines

-- The lines of a text joined are the text, or the text with the line feed that was missing.
abbrev Joins : List ℕ → List (List ℕ) → Type 0
Joins text lines = (joined lines ≡ text) ⊎ (joined lines ≡ text ++ line_feed ∷ [])

onto-joins : (byte : ℕ) (lines : List (List ℕ)) (text : List ℕ) → Joins text lines → Joins (byte ∷ text) (onto byte lines)
unfolding joined
onto-joins byte [] text (inl e) = inr (ap (λ (l : List ℕ). byte ∷ (l ++ line_feed ∷ [])) e)
onto-joins byte [] text (inr e) =
    let z : 0 ≡ length (text ++ line_feed ∷ []) = ap length e in
    absurd (omega (arith, length-append text (line_feed ∷ [])))
onto-joins byte (line ∷ lines) text (inl e) = inl (ap (λ (l : List ℕ). byte ∷ l) e)
onto-joins byte (line ∷ lines) text (inr e) = inr (ap (λ (l : List ℕ). byte ∷ l) e)

feed-joins : (lines : List (List ℕ)) (text : List ℕ) → Joins text lines → Joins (line_feed ∷ text) ([] ∷ lines)
unfolding joined
feed-joins lines text (inl e) = inl (ap (λ (l : List ℕ). line_feed ∷ l) e)
feed-joins lines text (inr e) = inr (ap (λ (l : List ℕ). line_feed ∷ l) e)

joins-step : (here : Bool) (byte : ℕ) (text : List ℕ) (lines : List (List ℕ)) → eqb byte line_feed ≡ here → Joins text lines
    → Joins (byte ∷ text) (cond here ([] ∷ lines) (onto byte lines))
joins-step true byte text lines e j = rw (eqb-true byte line_feed e) (feed-joins lines text j)
joins-step false byte text lines e j = onto-joins byte lines text j

pub lines-joined : (text : List ℕ) → Joins text (lines_in text)
unfolding lines_in joined
lines-joined [] = inl refl
lines-joined (byte ∷ text) = joins-step (eqb byte line_feed) byte text (lines_in text) refl (lines-joined text)

-- No line has a line feed in it.
onto-free : (byte : ℕ) (lines : List (List ℕ)) → (byte ≡ line_feed → ⊥) → ((i : ℕ) → Free line_feed (get_or lines i [])) → (i : ℕ) → Free line_feed (get_or (onto byte lines) i [])
onto-free byte [] h f zero = other h empty
onto-free byte [] h f (suc i) = empty
onto-free byte (line ∷ lines) h f zero = other h (f 0)
onto-free byte (line ∷ lines) h f (suc i) = f (suc i)

feed-free : (lines : List (List ℕ)) → ((i : ℕ) → Free line_feed (get_or lines i [])) → (i : ℕ) → Free line_feed (get_or ([] ∷ lines) i [])
feed-free lines f zero = empty
feed-free lines f (suc i) = f i

lines_step : (here : Bool) (byte : ℕ) (lines : List (List ℕ)) → eqb byte line_feed ≡ here → ((i : ℕ) → Free line_feed (get_or lines i []))
    → (i : ℕ) → Free line_feed (get_or (cond here ([] ∷ lines) (onto byte lines)) i [])
lines_step true byte lines e f = feed-free lines f
lines_step false byte lines e f = onto-free byte lines (eqb-false byte line_feed e) f

pub lines-free : (text : List ℕ) (i : ℕ) → Free line_feed (get_or (lines_in text) i [])
unfolding lines_in
lines-free [] i = empty
lines-free (byte ∷ text) i = lines_step (eqb byte line_feed) byte (lines_in text) refl (lines-free text) i

-- Without the blanks at its start, a text begins at the first byte that is none.
pub record Led (text rest : List ℕ) : Type 0 where
  pub count : ℕ
  pub few : count ≤ length text
  pub from-there : rest ≡ drop count text
  pub blanks : (j : ℕ) → j < count → is_blank (get_or text j 0) ≡ true
  pub first : count < length text → is_blank (get_or text count 0) ≡ false

led-step : (blank : Bool) (byte : ℕ) (text rest : List ℕ) → is_blank byte ≡ blank → Led text rest → Led (byte ∷ text) (cond blank rest (byte ∷ text))
led-step true byte text rest e led =
    record {
      count = suc led.count;
      few = omega (arith, led.few);
      from-there = led.from-there;
      blanks = before-it;
      first = λ h. led.first (omega arith);
    }
  where
    before-it : (j : ℕ) → j < suc led.count → is_blank (get_or (byte ∷ text) j 0) ≡ true
    before-it zero h = e
    before-it (suc j) h = led.blanks j (omega arith)
led-step false byte text rest e led = record { count = 0; few = omega arith; from-there = refl; blanks = λ j h. absurd (omega arith); first = λ h. e }

pub lead_is : (text : List ℕ) → Led text (without_lead text)
unfolding without_lead
lead_is [] = record { count = 0; few = omega arith; from-there = refl; blanks = λ j h. absurd (omega arith); first = λ h. absurd (omega arith) }
lead_is (byte ∷ text) = led-step (is_blank byte) byte text (without_lead text) refl (lead_is text)

-- Of n bytes those up to the last that is no blank are left.
pub record Kept (text : List ℕ) (n k : ℕ) : Type 0 where
  pub few : k ≤ n
  pub blanks : (j : ℕ) → k ≤ j → j < n → is_blank (get_or text j 0) ≡ true
  pub last : 0 < k → is_blank (get_or text (k - 1) 0) ≡ false

kept_step : (blank : Bool) (text : List ℕ) (n k : ℕ) → is_blank (get_or text n 0) ≡ blank → Kept text n k → Kept text (suc n) (cond blank k (suc n))
kept_step true text n k e kept = record { few = omega (arith, kept.few); blanks = after-it; last = kept.last }
  where
    after-it : (j : ℕ) → k ≤ j → j < suc n → is_blank (get_or text j 0) ≡ true
    after-it j l h = by-case (eqb j n) refl
      where
        by-case : (here : Bool) → eqb j n ≡ here → is_blank (get_or text j 0) ≡ true
        by-case true z = rw (eqb-true j n z) e
        by-case false z = let less : j < n = omega (arith, eqb-false j n z) in kept.blanks j l less
kept_step false text n k e kept =
    let one : suc n - 1 ≡ n = omega arith in
    record { few = omega arith; blanks = λ j l h. absurd (omega arith); last = λ h. rw one e }

pub kept-is : (text : List ℕ) (n : ℕ) → Kept text n (kept_of text n)
unfolding kept_of
kept-is text zero = record { few = omega arith; blanks = λ j l h. absurd (omega arith); last = λ h. absurd (omega arith) }
kept-is text (suc n) = kept_step (is_blank (get_or text n 0)) text n (kept_of text n) refl (kept-is text n)

-- A row of lines of which the first has number k: the line whose number it has says something, and that is what the row says.
abbrev pub no_row : Row
no_row = record { number = 0; said = [] }

pub record RowIs (k : ℕ) (lines : List (List ℕ)) (row : Row) : Type 0 where
  pub index : ℕ
  pub inside : index < length lines
  pub numbered : row.number ≡ k + index
  pub says : says_any (get_or lines index []) ≡ true
  pub said-there : row.said ≡ said_in (get_or lines index [])

later-line : {k : ℕ} {line : List ℕ} {lines : List (List ℕ)} {row : Row} → RowIs (suc k) lines row → RowIs k (line ∷ lines) row
later-line {k} r =
    record {
      index = suc r.index;
      inside = omega (arith, r.inside);
      numbered = r.numbered ∙ suc-add k r.index ∙ sym (add-suc k r.index);
      says = r.says;
      said-there = r.said-there;
    }

row_step : (any : Bool) (k : ℕ) (line : List ℕ) (lines : List (List ℕ)) (rows : List Row) → says_any line ≡ any
    → ((i : ℕ) → i < length rows → RowIs (suc k) lines (get_or rows i no_row))
    → (i : ℕ) → i < length (cond any (record { number = k; said = said_in line } ∷ rows) rows)
    → RowIs k (line ∷ lines) (get_or (cond any (record { number = k; said = said_in line } ∷ rows) rows) i no_row)
row_step true k line lines rows e f zero h = record { index = 0; inside = omega arith; numbered = sym (add-zero k); says = e; said-there = refl }
row_step true k line lines rows e f (suc i) h = let h' : i < length rows = omega arith in later-line (f i h')
row_step false k line lines rows e f i h = later-line (f i h)

pub row_is : (k : ℕ) (lines : List (List ℕ)) (i : ℕ) → i < length (rows_from k lines) → RowIs k lines (get_or (rows_from k lines) i no_row)
unfolding rows_from
row_is k [] i h = absurd (omega arith)
row_is k (line ∷ lines) i h = row_step (says_any line) k line lines (rows_from (suc k) lines) refl (row_is (suc k) lines) i h

-- Every line that says something is a row, and the rows stand in the order of their lines.
pub record LineIs (rows : List Row) (number : ℕ) : Type 0 where
  pub index : ℕ
  pub inside : index < length rows
  pub has : (get_or rows index no_row).number ≡ number

later-row : (any : Bool) (row : Row) {rows : List Row} {number : ℕ} → LineIs rows number → LineIs (cond any (row ∷ rows) rows) number
later-row true row l = record { index = suc l.index; inside = omega (arith, l.inside); has = l.has }
later-row false row l = l

first-row : (any : Bool) (k : ℕ) (line : List ℕ) (rows : List Row) → any ≡ true → LineIs (cond any (record { number = k; said = said_in line } ∷ rows) rows) k
first-row true k line rows e = record { index = 0; inside = omega arith; has = refl }
first-row false k line rows e = absurd (true≢false (sym e))

pub line-is-row : (k : ℕ) (lines : List (List ℕ)) (j : ℕ) → j < length lines → says_any (get_or lines j []) ≡ true → LineIs (rows_from k lines) (k + j)
unfolding rows_from
line-is-row k [] j h e = absurd (omega arith)
line-is-row k (line ∷ lines) zero h e = rw (add-zero k) (first-row (says_any line) k line (rows_from (suc k) lines) e)
line-is-row k (line ∷ lines) (suc j) h e =
    let h' : j < length lines = omega arith in
    rw (add-suc k j, ← suc-add k j) (later-row (says_any line) (record { number = k; said = said_in line }) (line-is-row (suc k) lines j h' e))

rise-step : (any : Bool) (k : ℕ) (line : List ℕ) (lines : List (List ℕ)) → says_any line ≡ any → ((i j : ℕ) → i < j → j < length (rows_from (suc k) lines) → (get_or (rows_from (suc k) lines) i no_row).number < (get_or (rows_from (suc k) lines) j no_row).number)
    → (i j : ℕ) → i < j → j < length (cond any (record { number = k; said = said_in line } ∷ rows_from (suc k) lines) (rows_from (suc k) lines))
    → (get_or (cond any (record { number = k; said = said_in line } ∷ rows_from (suc k) lines) (rows_from (suc k) lines)) i no_row).number
    < (get_or (cond any (record { number = k; said = said_in line } ∷ rows_from (suc k) lines) (rows_from (suc k) lines)) j no_row).number
rise-step true k line lines e f i zero l h = absurd (omega arith)
rise-step true k line lines e f zero (suc j) l h = let h' : j < length (rows_from (suc k) lines) = omega arith in omega (arith, (row_is (suc k) lines j h').numbered)
rise-step true k line lines e f (suc i) (suc j) l h = f i j (omega arith) (omega arith)
rise-step false k line lines e f i j l h = f i j l h

pub rows-rise : (k : ℕ) (lines : List (List ℕ)) (i j : ℕ) → i < j → j < length (rows_from k lines) → (get_or (rows_from k lines) i no_row).number < (get_or (rows_from k lines) j no_row).number
unfolding rows_from
rows-rise k [] i j l h = absurd (omega arith)
rows-rise k (line ∷ lines) i j l h = rise-step (says_any line) k line lines refl (rows-rise (suc k) lines) i j l h

-- A row that says an event, with a head of eight digits.
abbrev WellSaid : Row → Type 0
WellSaid row = (is_event row.said ≡ true) × (has_whole_head row.said ≡ true)

-- Row i of events, of which k stand before the first: it is good where it says so, one of the first 4,000.
abbrev IsGood : ℕ → List Row → ℕ → Type 0
IsGood k rows i = WellSaid (get_or rows i no_row) × (k + i < most_events)

-- What is wrong with row i: it is one more than 4,000; it is no event; or it is one whose head does not have eight digits.
abbrev IsBad : ℕ → List Row → ℕ → Fault → Type 0
IsBad k rows i f =
    ((f ≡ too_many (get_or rows i no_row).number) × (most_events ≤ k + i))
    ⊎ (((f ≡ not_event (get_or rows i no_row).number) × (k + i < most_events) × (is_event (get_or rows i no_row).said ≡ false))
    ⊎ ((f ≡ short_head (get_or rows i no_row).number) × (k + i < most_events) × (is_event (get_or rows i no_row).said ≡ true)
    × (has_whole_head (get_or rows i no_row).said ≡ false)))

-- The first fault: every row before it is good, and it is the line of a row that is not, with the reason.
pub record FirstFault (k : ℕ) (rows : List Row) (f : Fault) : Type 0 where
  pub index : ℕ
  pub inside : index < length rows
  pub earlier : (j : ℕ) → j < index → IsGood k rows j
  pub there : IsBad k rows index f

-- A list of rows has a first fault, or all of them are good.
abbrev Found : ℕ → List Row → Fault → Type 0
Found k rows f = ((f.why ≡ 0 → ⊥) × FirstFault k rows f) ⊎ ((f.why ≡ 0) × ((j : ℕ) → j < length rows → IsGood k rows j))

good-rows : (k n : ℕ) (row : Row) (rows : List Row) → WellSaid row → k < most_events → ((j : ℕ) → j < n → IsGood (suc k) rows j)
    → (j : ℕ) → j < suc n → IsGood k (row ∷ rows) j
good-rows k n row rows e few f zero h = (e, omega arith)
good-rows k n row rows e few f (suc j) h = let h' : j < n = omega arith in ((f j h').0, omega (arith, (f j h').1))

found-later : (k : ℕ) (row : Row) (rows : List Row) (f : Fault) → WellSaid row → k < most_events → Found (suc k) rows f → Found k (row ∷ rows) f
found-later k row rows f e few (inr g) = inr (g.0, good-rows k (length rows) row rows e few g.1)
found-later k row rows f e few (inl b) =
    let at = b.1 in
    let on : suc k + at.index ≡ k + suc at.index = omega arith in
    inl (b.0, record { index = suc at.index; inside = omega (arith, at.inside); earlier = good-rows k at.index row rows e few at.earlier; there = rw on at at.there })

found_first : (k : ℕ) (row : Row) (rows : List Row) (f : Fault) → (f.why ≡ 0 → ⊥) → IsBad k (row ∷ rows) 0 f → Found k (row ∷ rows) f
found_first k row rows f some bad = inl (some, record { index = 0; inside = omega arith; earlier = λ j h. absurd (omega arith); there = bad })

fault-step : (full event whole : Bool) (k : ℕ) (row : Row) (rows : List Row) (f : Fault) → leb most_events k ≡ full → is_event row.said ≡ event → has_whole_head row.said ≡ whole
    → Found (suc k) rows f
    → Found k (row ∷ rows) (cond full (too_many row.number) (cond (not event) (not_event row.number) (cond (not whole) (short_head row.number) f)))
fault-step true event whole k row rows f e v w next = found_first k row rows _ (λ z. omega arith) (inl (refl, omega (arith, leb-true most_events k e)))
fault-step false false whole k row rows f e v w next = found_first k row rows _ (λ z. omega arith) (inr (inl (refl, omega (arith, leb-false most_events k e), v)))
fault-step false true false k row rows f e v w next = found_first k row rows _ (λ z. omega arith) (inr (inr (refl, omega (arith, leb-false most_events k e), v, w)))
fault-step false true true k row rows f e v w next = found-later k row rows f (v, w) (leb-false most_events k e) next

pub fault-is : (k : ℕ) (rows : List Row) → Found k rows (events_fault k rows)
unfolding events_fault
fault-is k [] = inr (refl, (λ j h. absurd (omega arith)))
fault-is k (row ∷ rows) =
    fault-step (leb most_events k) (is_event row.said) (has_whole_head row.said) k row rows (events_fault (suc k) rows) refl refl refl (fault-is (suc k) rows)

-- Before the mark that follows a list without it stands the list, and after it the rest.
pub before-free : (mark : ℕ) {xs : List ℕ} (rest : List ℕ) → Free mark xs → before mark (xs ++ mark ∷ rest) ≡ xs
unfolding before
before-free mark rest empty = rw (eq-eqb mark mark refl)
before-free mark rest (other {byte} h xs) = rw (ne_eqb byte mark h) (ap (λ (l : List ℕ). byte ∷ l) (before-free mark rest xs))

pub after_free : (mark : ℕ) {xs : List ℕ} (rest : List ℕ) → Free mark xs → after mark (xs ++ mark ∷ rest) ≡ rest
unfolding after
after_free mark rest empty = rw (eq-eqb mark mark refl)
after_free mark rest (other {byte} h xs) = rw (ne_eqb byte mark h) (after_free mark rest xs)
