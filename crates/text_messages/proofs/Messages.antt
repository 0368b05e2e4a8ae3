-- The pieces of a message, how long it is, and that the buffer holds it.
use Prim.Native.Nat.{ℕ, ◌+◌, ◌≤◌}
use native.Mathlib.Omega.{arith}
use mathlib.Core.Bool.{Bool, true, false, cond}
use mathlib.Core.Path.{◌≡◌, sym, ap, ◌∙◌}
use mathlib.Core.List.{List, [], ◌++◌, append-nil}
use lib.ListN.{length, drop, length-append}
use lib.Seq.{length-take-le}
use lib.Dec.{eqb}
use Rattle.buffers.specs.Filled.{filled, HasFirst}
use Rattle.buffers.proofs.Stores.{sets-filled}
use Rattle.digits.specs.Ascii.{ascii}
use Rattle.digits.proofs.Digits.{number-length}
use Rattle.digits.proofs.Pieces.{Stands}
use Rattle.refusals.specs.Words.{words_of, words_size}
use Rattle.refusals.proofs.Words.{words-most}
use Rattle.text_messages.specs.Messages.{saying, why_words, at_line, too_long, refused_at, refused_with, refused, refused_in, message_size}

why-length : (why : ℕ) → length (why_words why) ≤ words_size
unfolding ascii
why-length why = by-case (eqb why 1) (eqb why 2) (eqb why 5)
  where
    by-case : (a b d : Bool)
        → length (cond a (ascii "not N, one to three decimal digits") (cond b (ascii "not HEAD:VALUE in hexadecimal") (cond d (ascii "the head has fewer than eight digits") (words_of 3))))
        ≤ words_size
    by-case true b d = omega arith
    by-case false true d = omega arith
    by-case false false true = omega arith
    by-case false false false = words-most 3

-- There is room for each message.
pub bad-line-fits : (why line n : ℕ) → message_size ≤ n → 0 + length (at_line line ++ saying (why_words why)) ≤ n
unfolding ascii
bad-line-fits why line n h = simp (length-append) (omega (arith, why-length why, number-length line))

pub too-long-fits : (n : ℕ) → message_size ≤ n → 0 + length too_long ≤ n
unfolding ascii
too-long-fits n h = omega arith

pub refused-fits : (refusal place n : ℕ) → message_size ≤ n → 0 + length (refused refusal place) ≤ n
unfolding ascii
refused-fits refusal place n h = simp (length-append) (omega (arith, words-most refusal, number-length refusal, number-length place))

pub refused-in-fits : (refusal place line n : ℕ) → message_size ≤ n → 0 + length (refused_in refusal place line) ≤ n
unfolding ascii
refused-in-fits refusal place line n h =
    simp (length-append) (omega (arith, words-most refusal, number-length refusal, number-length place, number-length line))

-- Where nothing is said of the line.
pub nothing-said : (refusal place : ℕ) → refused_with refusal place [] ≡ refused refusal place
nothing-said refusal place = ap (λ (t : List ℕ). t ++ saying (words_of refusal)) (append-nil (refused_at refusal place))

-- A message that stands at the start fills it.
pub made : (out message : List ℕ) {d : List ℕ} {r : ℕ} → 0 + length message ≤ length out → Stands out 0 message r d
    → (r ≡ length message) × ((d ≡ filled message out) × HasFirst r d)
made out message {d} {r} h (e, f) =
    let l : r ≡ length message = omega (arith, e) in
    let fit : length message ≤ length out = omega arith in
    let whole : d ≡ filled message out = f ∙ sets-filled out message fit in
    let within : r ≤ length d = rw (whole, length-append message (drop (length message) out)) (omega (arith, l)) in
    (l, (whole, (within, sym (length-take-le r d within))))
