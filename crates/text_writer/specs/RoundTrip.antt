-- The text of a record is read back as that very record; that of a record with kind 7 is refused by the writer (document 02, No. 8).
use Rattle.std.specs.Prelude.{ℕ, ◌+◌, ◌≡◌, List, [], ◌∷◌, length}
use Rattle.buffers.specs.Filled.{filled}
use Rattle.record.specs.Record.{heads_of, record_size}
use Rattle.record.specs.Questions.{board_verdict}
use Rattle.record.specs.Answers.{done_with, refused_at}
use Rattle.record.specs.Retired.{NoneRetired, FirstRetired}
use Rattle.text_reader.specs.Answers.{written, to_record_answer, to_record_bytes}

-- A record that is accepted, and the text that was made of it. Where no event is of kind 7, the record made of that text has the length and the bytes of
-- this one. With one, the text is refused with 27 at the first, in the line of that event: line 1 has N, and event 0 is in line 2.
abbrev pub ComesBack : List ℕ → List ℕ → Type 0
ComesBack bytes text =
    (board_verdict bytes).refusal ≡ 0
    → (NoneRetired (heads_of bytes)
    → (to_record_answer text record_size ≡ written (done_with (length bytes ∷ [])) 0)
    × ((back : List ℕ) → length back ≡ record_size → to_record_bytes text back ≡ filled bytes back))
    × ((p : ℕ) → FirstRetired (heads_of bytes) p
    → (to_record_answer text record_size ≡ written (refused_at 27 p) (p + 2))
    × ((back : List ℕ) → length back ≡ record_size → to_record_bytes text back ≡ back))
