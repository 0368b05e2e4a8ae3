-- A text that is too long is refused, and so is every cut of it that is still too long, alike.
use mathlib.Core.Path.{◌≡◌, refl}
use Prim.Native.Nat.{ℕ, ◌≤◌, ◌<◌}
use native.Mathlib.Omega.{arith}
use mathlib.Core.List.{List}
use lib.ListN.{length, take}
use lib.Seq.{length-take-le}
use Rattle.text_reader.specs.Reading.{text_size}
use Rattle.text_reader.specs.Answers.{to_record_answer, to_record_bytes}
use Rattle.text_reader.proofs.Made.{long-text}

-- So a program need read only one byte more than the most that a text may have.
pub cut-answer : (text : List ℕ) (m space : ℕ) (bytes : List ℕ) → text_size < m → m ≤ length text
    → (to_record_answer (take m text) space ≡ to_record_answer text space) × (to_record_bytes (take m text) bytes ≡ to_record_bytes text bytes)
cut-answer text m space bytes late inside =
    let long : text_size < length text = omega arith in
    let cut : text_size < length (take m text) = rw (length-take-le m text inside) late in
    rw (← long-text text long, ← long-text (take m text) cut) (refl, refl)
