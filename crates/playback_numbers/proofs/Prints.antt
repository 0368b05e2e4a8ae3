-- The player prints of a record what its numbers say.
use Prim.Native.Nat.{ℕ, ◌≤◌}
use native.Mathlib.Omega.{arith}
use mathlib.Core.Bool.{Bool, true, false}
use mathlib.Core.Path.{◌≡◌, refl, sym, ap, ◌∙◌}
use mathlib.Core.List.{List}
use borrow.Author.Tests.{le-leb, eqb-true, eqb-false}
use lib.ListN.{length, take, drop}
use lib.Seq.{take_all}
use Rattle.record.specs.Verdict.{Verdict}
use Rattle.record.specs.Record.{board, most_events, count_of, sources_of, heads_of, values_of}
use Rattle.record.specs.Questions.{arrays_hold, board_verdict}
use Rattle.record.specs.Answers.{all_yes}
use Rattle.record.proofs.Questions.{readable}
use Rattle.record.proofs.Walk.{heads-length, values_length}
use Rattle.handlers.specs.declared.Machine.{Machine}
use Rattle.handlers.specs.Outcome.{Outcome}
use Rattle.claims.specs.Play.{end_of, each_of, answers_of, refusals_of}
use Rattle.claims.proofs.Playing.{each-length}
use Rattle.playback.specs.Print.{print_of, refused_line}
use Rattle.playback.proofs.Printing.{lines-first}
use Rattle.playback.proofs.Reading.{print-done, print-refused}
use Rattle.playback_numbers.specs.Numbers.{Numbers}
use Rattle.playback_numbers.specs.Numbers.{verdict_of, start_of, accepted_with, refused_with, numbers_of, answers_left, refusals_left}
use Rattle.playback_numbers.specs.Prints.{lines_of}
use Rattle.record.proofs.Places.{same-verdict, place-few}

-- The rule, by the verdict.
numbers-yes : (bytes : List ℕ) (a b : ℕ) → all_yes (verdict_of bytes a b) ≡ true
    → numbers_of bytes a b ≡ accepted_with (sources_of bytes) (length (heads_of bytes)) (end_of (start_of bytes) (heads_of bytes) (values_of bytes))
unfolding numbers_of
numbers-yes bytes a b e = rw e

numbers-no : (bytes : List ℕ) (a b : ℕ) → all_yes (verdict_of bytes a b) ≡ false
    → numbers_of bytes a b ≡ refused_with (verdict_of bytes a b).refusal (verdict_of bytes a b).place
unfolding numbers_of
numbers-no bytes a b e = rw e

-- No place is beyond the most events.
pub place-small : (bytes : List ℕ) (a b : ℕ) → (numbers_of bytes a b).place ≤ most_events
place-small bytes a b = by-case (all_yes (verdict_of bytes a b)) refl
  where
    by-case : (t : Bool) → all_yes (verdict_of bytes a b) ≡ t → (numbers_of bytes a b).place ≤ most_events
    by-case true e = rw (numbers-yes bytes a b e) (omega arith)
    by-case false e = rw (numbers-no bytes a b e) (omega (arith, place-few board bytes a b (eqb-false _ _ e)))

-- Arrays that hold the record's n events get the player's verdict.
players : (bytes : List ℕ) (a b : ℕ) → (count_of bytes ≤ most_events → (count_of bytes ≤ a) × (count_of bytes ≤ b)) → verdict_of bytes a b ≡ board_verdict bytes
players bytes a b h = same-verdict board bytes a b most_events most_events same
  where
    same : count_of bytes ≤ most_events → arrays_hold (count_of bytes) a b ≡ arrays_hold (count_of bytes) most_events most_events
    same few = rw (le-leb _ _ (h few).0, le-leb _ _ (h few).1, le-leb (count_of bytes) most_events few)

-- As many answers and refusals as events.
each-many : (out : Outcome → ℕ) (m : Machine) (hs vs : List ℕ) → length vs ≡ length hs → length (each_of out m hs vs) ≡ length hs
each-many out m hs vs e =
    let h : length vs ≤ length hs = omega (arith, e) in
    let g : length hs ≤ length vs = omega (arith, e) in
    ap length (ap (λ (l : List ℕ). each_of out m l vs) (sym (take_all (length hs) hs (omega arith))) ∙ ap (each_of out m (take (length hs) hs)) (sym (take_all (length hs) vs h)))
    ∙ each-length out m (length hs) hs vs (omega arith) g

-- Accepted, the print is made of the numbers, and of the arrays as they are left.
pub accepted-prints : (bytes answers refusals : List ℕ) → (numbers_of bytes (length answers) (length refusals)).refusal ≡ 0
    → print_of bytes ≡ lines_of (numbers_of bytes (length answers) (length refusals)) (heads_of bytes) (answers_left bytes answers refusals) (refusals_left bytes answers refusals)
accepted-prints bytes answers refusals z = by-case (all_yes (verdict_of bytes (length answers) (length refusals))) refl
  where
    by-case : (t : Bool) → all_yes (verdict_of bytes (length answers) (length refusals)) ≡ t
        → print_of bytes ≡ lines_of (numbers_of bytes (length answers) (length refusals)) (heads_of bytes) (answers_left bytes answers refusals) (refusals_left bytes answers refusals)
    by-case false e = absurd (eqb-false _ _ e (ap (λ (q : Numbers). q.refusal) (sym (numbers-no bytes (length answers) (length refusals) e)) ∙ z))
    by-case true e =
        let ok = readable board bytes (length answers) (length refusals) (eqb-true _ _ e) in
        let same = players bytes (length answers) (length refusals) (λ few. (ok.heads_hold, ok.values_hold)) in
        let hl : length (heads_of bytes) ≡ count_of bytes = heads-length bytes (count_of bytes) ok.whole in
        let vl : length (values_of bytes) ≡ length (heads_of bytes) = values_length bytes (count_of bytes) ok.whole ∙ sym hl in
        let xs : List ℕ = answers_of (start_of bytes) (heads_of bytes) (values_of bytes) in
        let rs : List ℕ = refusals_of (start_of bytes) (heads_of bytes) (values_of bytes) in
        let first = lines-first 0 (heads_of bytes) xs rs (drop (length xs) answers) (drop (length rs) refusals) (each-many (λ (o : Outcome). o.answer) (start_of bytes) (heads_of bytes) (values_of bytes) vl) (each-many (λ (o : Outcome). o.refusal) (start_of bytes) (heads_of bytes) (values_of bytes) vl) in
        print-done board bytes (ap all_yes (sym same) ∙ e) ∙ rw (numbers-yes bytes (length answers) (length refusals) e, e, first)

-- Refused, and the arrays have a place for each event of any record: the print is the refusal.
pub refused-prints : (bytes : List ℕ) (a b : ℕ) → most_events ≤ a → most_events ≤ b → ((numbers_of bytes a b).refusal ≡ 0 → ⊥)
    → print_of bytes ≡ refused_line (numbers_of bytes a b).refusal (numbers_of bytes a b).place
refused-prints bytes a b ha hb refuses = by-case (all_yes (verdict_of bytes a b)) refl
  where
    by-case : (t : Bool) → all_yes (verdict_of bytes a b) ≡ t → print_of bytes ≡ refused_line (numbers_of bytes a b).refusal (numbers_of bytes a b).place
    by-case true e = absurd (refuses (ap (λ (q : Numbers). q.refusal) (numbers-yes bytes a b e)))
    by-case false e =
        let same = players bytes a b (λ few. (omega arith, omega arith)) in
        rw (numbers-no bytes a b e)
        (sym (print-refused (record { no = ap all_yes (sym same) ∙ e; refusal = ap (λ (v : Verdict). v.refusal) same; place = ap (λ (v : Verdict). v.place) same })))
