-- The two calls of a round trip leave what the rules say, and the round trip holds of them.
use mathlib.Core.Path.{◌≡◌, sym, ◌∙◌}
use Prim.Native.Nat.{ℕ, ◌^◌}
use native.Mathlib.Omega.{arith}
use mathlib.Core.List.{List}
use borrow.Author.Tests.{eq-eqb, ne_eqb}
use lib.ListN.{length, take}
use Rattle.std.specs.Prelude.{Result, Ok, Err}
use Rattle.questions.specs.Numbers.{number_of}
use Rattle.record.specs.declared.Limits.{Limits}
use Rattle.record.specs.declared.Sizes.{Sizes}
use Rattle.record.specs.declared.Refused.{Refused}
use Rattle.record.specs.Record.{board, record_of, length_of}
use Rattle.record.specs.Questions.{write_verdict}
use Rattle.record.specs.Answers.{Answer, refused_at, read_numbers, read_answer, read_heads, read_values, write_numbers, write_answer, written_bytes}
use Rattle.record_round_trip.specs.RoundTrip.{write_read_answer, write_read_heads, write_read_values, ReadsBack, read_write_answer, read_write_bytes, WritesBack}
use Rattle.record.proofs.Words.{Below}
use Rattle.record.proofs.Questions.{writable}
use Rattle.record.proofs.Answers.{write_done, write-not, read-not}
use Rattle.record.proofs.Parts.{stored-part, read-parts}
use Rattle.record_round_trip.proofs.RoundTrip.{word-sized, length-written, reads-back, writes-back}

-- Written, then read: what the two calls leave.
module _ (sources : ℕ) (heads values : List ℕ) (hh : Below (2 ^ 32) heads) (hv : Below (2 ^ 32) values) (bytes heads_back values_back : List ℕ) where
  -- What was written is a record.
  pub part-written : {l : ℕ} {d : List ℕ} → (write_verdict sources heads values (length bytes)).refusal ≡ 0 → l ≡ length_of (length heads)
      → d ≡ written_bytes sources heads values bytes → take l d ≡ record_of sources heads values
  part-written {l} {d} z el ed =
      let w = writable sources heads values (length bytes) z in
      let long = length-written sources heads values w.same (word-sized w.few) (word-sized (omega (arith, w.most))) hh hv in
      stored-part (write_verdict sources heads values (length bytes)) (record_of sources heads values) bytes l z (long ∙ sym el) ed

  module _ {r : Result ℕ Refused} {d : List ℕ}
      (e : write_numbers r ≡ write_answer sources heads values (length bytes)) (ed : d ≡ written_bytes sources heads values bytes) where
    pub written_read : {l : ℕ} {a : Answer} {hs vs : List ℕ} → r ≡ Ok l
        → a ≡ read_answer board (take l d) (length heads_back) (length values_back)
        → hs ≡ read_heads board (take l d) heads_back values_back
        → vs ≡ read_values board (take l d) heads_back values_back
        → (a ≡ write_read_answer board sources heads values (length bytes) (length heads_back) (length values_back))
        × ((d ≡ written_bytes sources heads values bytes)
        × ((hs ≡ write_read_heads board sources heads values (length bytes) heads_back values_back)
        × ((vs ≡ write_read_values board sources heads values (length bytes) heads_back values_back)
        × ReadsBack sources heads values (length bytes) heads_back values_back a hs vs)))
    written_read {l} er ea eh ev =
        let done = write_done sources heads values (length bytes) e er in
        let part = part-written done.0 done.1 ed in
        let ea' = rw part at ea in
        let eh' = rw part at eh in
        let ev' = rw part at ev in (
          rw (eq-eqb _ _ done.0) ea',
          (ed, (rw (eq-eqb _ _ done.0) eh', (rw (eq-eqb _ _ done.0) ev', (λ z lh lv. let w = writable sources heads values (length bytes) z in let b = reads-back board sources heads values hh hv (length bytes) heads_back values_back w.most w.few z lh lv in (ea' ∙ b.0, eh' ∙ b.1, ev' ∙ b.2))))),
        )

    pub not_written : {x : Refused} → r ≡ Err x
        → (refused_at (number_of x.refusal) x.place ≡ write_read_answer board sources heads values (length bytes) (length heads_back) (length values_back))
        × ((d ≡ written_bytes sources heads values bytes)
        × ((heads_back ≡ write_read_heads board sources heads values (length bytes) heads_back values_back)
        × ((values_back ≡ write_read_values board sources heads values (length bytes) heads_back values_back)
        × ReadsBack sources heads values (length bytes) heads_back values_back (refused_at (number_of x.refusal) x.place) heads_back values_back)))
    not_written er =
        let no = write-not sources heads values (length bytes) e er in (
          rw (no.1, no.2, ne_eqb _ _ no.0),
          (ed, (rw (ne_eqb _ _ no.0), (rw (ne_eqb _ _ no.0), (λ z lh lv. absurd (no.0 z))))),
        )

-- Read, then written: what the two calls leave.
module _ (limits : Limits) (bytes : List ℕ) (byte : Below 256 bytes) (heads values back : List ℕ) where
  module _ {r : Result Sizes Refused} {hs vs : List ℕ} (e : read_numbers r ≡ read_answer limits bytes (length heads) (length values))
      (eh : hs ≡ read_heads limits bytes heads values) (ev : vs ≡ read_values limits bytes heads values) where
    pub read-written : {x : Sizes} {a : Answer} {d : List ℕ} → r ≡ Ok x
        → a ≡ write_answer x.sources (take x.events hs) (take x.events vs) (length back)
        → d ≡ written_bytes x.sources (take x.events hs) (take x.events vs) back
        → (a ≡ read_write_answer limits bytes (length heads) (length values) (length back))
        × ((hs ≡ read_heads limits bytes heads values)
        × ((vs ≡ read_values limits bytes heads values)
        × ((d ≡ read_write_bytes limits bytes (length heads) (length values) back)
        × WritesBack limits bytes (length heads) (length values) back a d)))
    read-written er ea ed =
        let parts = read-parts limits bytes heads values e eh ev er in
        let ea' = rw (parts.heads, parts.values, parts.sources) at ea in
        let ed' = rw (parts.heads, parts.values, parts.sources) at ed in (
          rw (eq-eqb _ _ parts.yes) ea',
          (eh, (ev, (rw (eq-eqb _ _ parts.yes) ed', rw (ea', ed') (writes-back limits bytes byte (length heads) (length values) back)))),
        )

    pub not-read : {x : Refused} → r ≡ Err x
        → (refused_at (number_of x.refusal) x.place ≡ read_write_answer limits bytes (length heads) (length values) (length back))
        × ((hs ≡ read_heads limits bytes heads values)
        × ((vs ≡ read_values limits bytes heads values)
        × ((back ≡ read_write_bytes limits bytes (length heads) (length values) back)
        × WritesBack limits bytes (length heads) (length values) back (refused_at (number_of x.refusal) x.place) back)))
    not-read er =
        let no = read-not limits bytes (length heads) (length values) e er in (
          rw (no.1, no.2, ne_eqb _ _ no.0),
          (eh, (ev, (rw (ne_eqb _ _ no.0), (λ z l. absurd (no.0 z))))),
        )
