-- A list of bytes that is longer than any record is refused, and so is every cut of it that is still longer, alike.
use mathlib.Core.Path.{◌≡◌, refl}
use Prim.Native.Nat.{ℕ, ◌≤◌, ◌<◌}
use native.Mathlib.Omega.{arith}
use mathlib.Core.List.{List}
use borrow.Author.Tests.{ne_eqb}
use lib.ListN.{length, take}
use Rattle.record.specs.Record.{board, record_size, most_events}
use Rattle.record.proofs.TooLong.{read-cut, long-refused}
use Rattle.text_writer.specs.Answers.{to_text_answer, to_text_bytes}

-- The longest record has 32,008 bytes. A longer list of bytes is refused, and where it is cut after more than that the refusal and its place are the same.
pub cut_record : (bytes : List ℕ) (m : ℕ) (text : List ℕ) → record_size < m → m ≤ length bytes
    → (to_text_answer (take m bytes) ≡ to_text_answer bytes) × (to_text_bytes (take m bytes) text ≡ to_text_bytes bytes text)
cut_record bytes m text late inside =
    let long : record_size < length bytes = omega arith in
    rw (read-cut board bytes m most_events most_events late inside, ne_eqb _ 0 (long-refused board bytes most_events most_events long)) (refl, refl)
