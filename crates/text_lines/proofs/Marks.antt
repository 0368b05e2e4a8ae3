-- The first mark in a text, what stands before it and after it, and the lines of a text.
use mathlib.Core.Path.{◌≡◌, refl, sym, ap, ◌∙◌}
use mathlib.Core.Bool.{Bool, true, false, cond}
use Prim.Native.Nat.{ℕ, zero, suc, ◌+◌, ◌-◌, ◌≤◌, ◌<◌}
use native.Mathlib.Numerals.{add-one}
use native.Mathlib.Omega.{arith}
use mathlib.Core.List.{List, [], ◌∷◌}
use borrow.Author.Tests.{eq-eqb, ne_eqb}
use lib.Dec.{eqb}
use lib.ListN.{length, get_or, take, drop, length-drop, drop_of_length-le}
use lib.Seq.{take_all}
use Rattle.text_lines.specs.Lines.{line_feed, before, after, onto, lines_in}

-- The place of the first mark: none stands before it, and one at it, where it is within the text.
pub first-mark : (mark : ℕ) (text : List ℕ) (n : ℕ) → n ≤ length text → ((k : ℕ) → k < n → get_or text k 0 ≡ mark → ⊥)
    → (n < length text → get_or text n 0 ≡ mark) → n ≡ length (before mark text)
unfolding before
first-mark mark [] n inside none here = omega arith
first-mark mark (byte ∷ text) zero inside none here = rw (eq-eqb byte mark (here (omega arith)))
first-mark mark (byte ∷ text) (suc n) inside none here =
    rw (ne_eqb byte mark (none 0 (omega arith)))
    (ap suc (first-mark mark text n (omega arith) (λ k h. none (suc k) (omega arith)) (λ h. here (omega arith))))

-- What is before the first mark is the text up to it.
take_step : (here : Bool) (byte : ℕ) (text rest : List ℕ) → take (length rest) text ≡ rest
    → take (length (cond here [] (byte ∷ rest))) (byte ∷ text) ≡ cond here [] (byte ∷ rest)
take_step true byte text rest e = refl
take_step false byte text rest e = ap (λ (l : List ℕ). byte ∷ l) e

pub take-before : (mark : ℕ) (text : List ℕ) → take (length (before mark text)) text ≡ before mark text
unfolding before
take-before mark [] = refl
take-before mark (byte ∷ text) = take_step (eqb byte mark) byte text (before mark text) (take-before mark text)

-- What is after it is the text from the place after it on.
drop-step : (here : Bool) (byte : ℕ) (text rest other : List ℕ) → drop (suc (length rest)) text ≡ other
    → drop (suc (length (cond here [] (byte ∷ rest)))) (byte ∷ text) ≡ cond here text other
drop-step true byte text rest other e = refl
drop-step false byte text rest other e = e

drop-after : (mark : ℕ) (text : List ℕ) → drop (suc (length (before mark text))) text ≡ after mark text
unfolding before after
drop-after mark [] = refl
drop-after mark (byte ∷ text) = drop-step (eqb byte mark) byte text (before mark text) (after mark text) (drop-after mark text)

-- What stands up to the mark that was found, and from the place after it on.
module _ (mark : ℕ) (text : List ℕ) {at : ℕ} (e : at ≡ length (before mark text)) where
  pub up_to : take at text ≡ before mark text
  up_to = rw e (take-before mark text)

  pub from_past : drop (at + 1) text ≡ after mark text
  from_past = rw (e, add-one) (drop-after mark text)

  pub none-past : length text ≤ at → drop at text ≡ after mark text
  none-past h = let h' : length text ≤ at + 1 = omega arith in drop_of_length-le text h ∙ sym (drop_of_length-le text h') ∙ from_past

-- It is shorter.
pub after-shorter : (mark : ℕ) (text : List ℕ) → 0 < length text → length (after mark text) < length text
after-shorter mark text h = rw (← drop-after mark text, length-drop) (omega arith)

-- A part that goes to the end.
pub rest_of : (text : List ℕ) (from : ℕ) → take (length text - from) (drop from text) ≡ drop from text
rest_of text from = let l : length (drop from text) ≤ length text - from = simp length-drop (omega arith) in take_all (length text - from) (drop from text) l

-- The first line, and the lines in what comes after it.
lines_step : (here : Bool) (byte : ℕ) (text line rest : List ℕ) (lines : List (List ℕ))
    → lines ≡ lines_in text → onto byte lines ≡ (byte ∷ line) ∷ lines_in rest
    → cond here ([] ∷ lines) (onto byte lines) ≡ cond here [] (byte ∷ line) ∷ lines_in (cond here text rest)
lines_step true byte text line rest lines same e = ap (λ (l : List (List ℕ)). [] ∷ l) same
lines_step false byte text line rest lines same e = e

lines_cons : (byte : ℕ) (text : List ℕ) → lines_in (byte ∷ text) ≡ before line_feed (byte ∷ text) ∷ lines_in (after line_feed (byte ∷ text))
unfolding lines_in before after
lines_cons byte [] = lines_step (eqb byte line_feed) byte [] [] [] [] refl refl
lines_cons byte (next ∷ text) =
    lines_step (eqb byte line_feed) byte (next ∷ text) (before line_feed (next ∷ text)) (after line_feed (next ∷ text)) (lines_in (next ∷ text)) refl
    (ap (onto byte) (lines_cons next text))

pub lines-first : (text : List ℕ) → 0 < length text → lines_in text ≡ before line_feed text ∷ lines_in (after line_feed text)
lines-first [] h = absurd (omega arith)
lines-first (byte ∷ text) h = lines_cons byte text
