-- Parts of arrays that serve for the lent ones, and the reader's verdict of them.
use Prim.Native.Nat.{ℕ, ◌≤◌}
use native.Mathlib.Omega.{arith}
use mathlib.Core.Path.{◌≡◌}
use mathlib.Core.List.{List}
use lib.ListN.{length, take}
use lib.Seq.{length-take-le}
use Rattle.record.specs.Record.{board, most_events, count_of}
use Rattle.record.specs.Questions.{arrays_hold, read_verdict}
use Rattle.record.proofs.Places.{same-verdict}
use Rattle.playback_numbers.specs.Numbers.{verdict_of, ServesFor}

-- A part holds what the places hold that it serves for.
same-hold : (k p q a b : ℕ) → ServesFor p a → ServesFor q b → k ≤ most_events → arrays_hold k p q ≡ arrays_hold k a b
same-hold k p q a b s t h = rw (s.1 k h, t.1 k h)

pub serves-part : (part n : ℕ) (l : List ℕ) → length l ≡ most_events → ServesFor part n → ServesFor (length (take part l)) n
serves-part part n l e s = let inside : part ≤ length l = omega (arith, e, s.0) in rw (length-take-le part l inside) s

-- Parts that serve for the lent arrays get their verdict.
pub served : (bytes heads values : List ℕ) (a b : ℕ) → ServesFor (length heads) a → ServesFor (length values) b
    → read_verdict board bytes (length heads) (length values) ≡ verdict_of bytes a b
served bytes heads values a b sh sv = same-verdict board bytes (length heads) (length values) a b (same-hold (count_of bytes) (length heads) (length values) a b sh sv)
