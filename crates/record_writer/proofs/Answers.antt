-- What the writer answers and leaves, by its verdict.
use mathlib.Core.Path.{◌≡◌, refl}
use Prim.Native.Nat.{ℕ}
use mathlib.Core.List.{List, [], ◌∷◌}
use borrow.Author.Tests.{eq-eqb, ne_eqb}
use lib.ListN.{length}
use Rattle.buffers.specs.Filled.{filled}
use Rattle.record.specs.Verdict.{Verdict}
use Rattle.record.specs.Record.{record_of, length_of}
use Rattle.record.specs.Questions.{write_verdict}
use Rattle.record.specs.Answers.{done_with, refused_at, write_answer, written_bytes}

-- What is answered and left, refused and accepted.
module _ (sources : ℕ) (heads values bytes : List ℕ) {v : Verdict} (e : v ≡ write_verdict sources heads values (length bytes)) where
  pub write-refused : (v.refusal ≡ 0 → ⊥)
      → (refused_at v.refusal v.place ≡ write_answer sources heads values (length bytes))
      × (bytes ≡ written_bytes sources heads values bytes)
  write-refused z = rw (← e, ne_eqb _ _ z) (refl, refl)

  pub write-accepted : {bs : List ℕ} → v.refusal ≡ 0 → bs ≡ filled (record_of sources heads values) bytes
      → (done_with (length_of (length heads) ∷ []) ≡ write_answer sources heads values (length bytes))
      × (bs ≡ written_bytes sources heads values bytes)
  write-accepted z eb = rw (eb, ← e, eq-eqb _ _ z) (refl, refl)
