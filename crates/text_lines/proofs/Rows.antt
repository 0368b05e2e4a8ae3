-- Blanks around a part, what a line says, and the rows of a text.
use mathlib.Core.Path.{◌≡◌, refl, sym, ap, ◌∙◌}
use mathlib.Core.Bool.{Bool, true, false, cond}
use Prim.Native.Nat.{ℕ, zero, suc, ◌+◌, ◌-◌, ◌≤◌, ◌<◌}
use native.Mathlib.Omega.{arith}
use mathlib.Core.List.{List, [], ◌∷◌}
use borrow.Author.Tests.{leb-true, leb-false}
use Rattle.std.specs.Cmp.Lexicographic.{pointwise}
use lib.Dec.{eqb, leb}
use Rattle.std.specs.Option.{MatchOption, unwrap_or}
use Rattle.std.specs.Prelude.{Option, Some, None}
use denote.Bor.{Bor}
use lib.ListN.{length, get_or, take, drop, drop_of_length-le}
use lib.Seq.{drop-cons, take-take, take-length, length-take-le}
use Rattle.std.proofs.Math.Bool.{and-true}
use Rattle.text_lines.specs.Lines.{before}
use Rattle.text_lines.specs.Rows.{carriage_return, last_of, without_return, comment_sign, said_in, is_blank, without_lead, kept_of}
use Rattle.text_lines.proofs.Marks.{up_to}

-- The blanks at the start: only blanks stand before a place, and none at it, where it is within the text.
pub first-no_blank : (text : List ℕ) (n : ℕ) → n ≤ length text → ((k : ℕ) → k < n → is_blank (get_or text k 0) ≡ true)
    → (n < length text → is_blank (get_or text n 0) ≡ false) → drop n text ≡ without_lead text
unfolding without_lead
first-no_blank [] n inside blanks here = let e : n ≡ 0 = omega arith in rw e
first-no_blank (byte ∷ text) zero inside blanks here = rw (here (omega arith))
first-no_blank (byte ∷ text) (suc n) inside blanks here =
    rw (blanks 0 (omega arith)) (first-no_blank text n (omega arith) (λ k h. blanks (suc k) (omega arith)) (λ h. here (omega arith)))

-- The blanks at the end, likewise: of the first m bytes, only blanks stand from place n on, and none before it.
pub last-no_blank : (text : List ℕ) (m n : ℕ) → n ≤ m → ((k : ℕ) → n ≤ k → k < m → is_blank (get_or text k 0) ≡ true)
    → (0 < n → is_blank (get_or text (n - 1) 0) ≡ false) → n ≡ kept_of text m
unfolding kept_of
last-no_blank text zero n inside blanks here = omega arith
last-no_blank text (suc m) n inside blanks here = by-case (leb n m) refl (λ l. last-no_blank text m n l (λ k h g. blanks k h (omega arith)) here)
  where
    by-case : (less : Bool) → leb n m ≡ less → (n ≤ m → n ≡ kept_of text m) → n ≡ cond (is_blank (get_or text m 0)) (kept_of text m) (suc m)
    by-case true e fewer =
        let l : n ≤ m = leb-true n m e in
        rw (blanks m l (omega arith)) (fewer l)
    by-case false e fewer =
        let l : n ≡ suc m = omega (arith, leb-false n m e) in
        let one : n - 1 ≡ m = omega arith in
        rw (rw one at (here (omega arith))) l

-- A carriage return at the end of a line: the line's last part of one byte is one.
pub ends-in-return : (line : List ℕ) → pointwise eqb (drop (length line - 1) line) (carriage_return ∷ []) ≡ eqb (last_of line) carriage_return
ends-in-return [] = refl
ends-in-return (byte ∷ line) =
    let l : length (byte ∷ line) - 1 < length (byte ∷ line) = omega arith in
    let over : length (byte ∷ line) ≤ suc (length (byte ∷ line) - 1) = omega arith in
    rw (drop-cons (byte ∷ line) (length (byte ∷ line) - 1) 0 l, drop_of_length-le (byte ∷ line) over) (and-true _)

-- A line without it.
module _ (line : List ℕ) where
  abbrev ends : Bool
  ends = pointwise eqb (drop (length line - 1) line) (carriage_return ∷ [])

  pub unreturned-there : (r : Option (Bor (List ℕ))) (whole : Bor (List ℕ)) → whole.now ≡ line
      → MatchOption r (ends ≡ false) (λ x. (ends ≡ true) × (x.now ≡ take (length line - 1) line) × (length x.now + 1 ≡ length line))
      → (unwrap_or r whole).now ≡ without_return line
  unfolding without_return
  unreturned-there None whole e other = rw (← ends-in-return line, other) e
  unreturned-there (Some x) whole e there = rw (← ends-in-return line, there.0) there.1

  -- It is the line, cut.
  pub return-cut : (take (length (without_return line)) line ≡ without_return line) × (length (without_return line) ≤ length line)
  unfolding without_return
  return-cut = go (eqb (last_of line) carriage_return)
    where
      go : (b : Bool) → (take (length (cond b (take (length line - 1) line) line)) line ≡ cond b (take (length line - 1) line) line)
          × (length (cond b (take (length line - 1) line) line) ≤ length line)
      go true = let l : length line - 1 ≤ length line = omega arith in rw (length-take-le (length line - 1) line l) (refl, l)
      go false = (take-length line, omega arith)

-- What a line says: what is left of it up to the comment, and that this is the line's front.
module _ (line : List ℕ) {cut : List ℕ} {to : ℕ} (e : cut ≡ without_return line) (et : to ≡ length (before comment_sign cut)) where
  pub said_there : take to cut ≡ said_in line
  unfolding said_in
  said_there = up_to comment_sign cut et ∙ ap (before comment_sign) e

  pub said_front : to ≤ length cut → take (length (take to cut)) line ≡ said_in line
  said_front few =
      let whole : take (length cut) line ≡ cut = rw e (return-cut line).0 in
      rw (length-take-le to cut few) (sym (take-take to (length cut) line few) ∙ ap (take to) whole ∙ said_there)

  pub said_shorter : to ≤ length cut → length (take to cut) ≤ length line
  said_shorter few = omega (arith, length-take-le to cut few, (return-cut line).1, ap length e)
