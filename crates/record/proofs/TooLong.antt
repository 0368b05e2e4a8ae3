-- A list of bytes that is longer than any record that a reader takes, and a cut of it that is longer too, get the same verdict.
use mathlib.Core.Path.{◌≡◌, refl, sym, ap, ◌∙◌}
use mathlib.Core.Bool.{Bool, true, false}
use Prim.Native.Nat.{ℕ, ◌+◌, ◌*◌, ◌≤◌, ◌<◌}
use native.Mathlib.Omega.{arith}
use mathlib.Core.List.{List}
use borrow.Author.Tests.{leb-true, le-leb, ne_eqb}
use lib.Dec.{eqb}
use lib.ListN.{length, get_or, take}
use lib.Seq.{get_or-take, length-take-le}
use Rattle.source_count.specs.Count.{is_count}
use Rattle.record.specs.declared.Limits.{Limits}
use Rattle.record.specs.Verdict.{Verdict}
use Rattle.record.specs.Words.{words_of}
use Rattle.record.specs.Record.{count_of, sources_of, length_of}
use Rattle.record.specs.Questions.{verdict, question, sources_taken, count_in_range, count_taken, read_verdict}
use Rattle.record.proofs.Words.{word_at}
use Rattle.record.proofs.Questions.{sizes_then, readable}

-- A word that lies in front of the cut.
word_cut : (bytes : List ℕ) (k m : ℕ) → 4 * k + 4 ≤ m → m ≤ length bytes → get_or (words_of (take m bytes)) k 0 ≡ get_or (words_of bytes) k 0
word_cut bytes k m h l =
    let cut : 4 * k + 4 ≤ length (take m bytes) = rw (length-take-le m bytes l) h in
    let all : 4 * k + 4 ≤ length bytes = omega arith in
    sym (word_at (take m bytes) k cut)
    ∙ rw (
      get_or-take m bytes (4 * k) 0 (omega arith),
      get_or-take m bytes (4 * k + 1) 0 (omega arith),
      get_or-take m bytes (4 * k + 2) 0 (omega arith),
      get_or-take m bytes (4 * k + 3) 0 (omega arith),
    ) (word_at bytes k all)

-- Questions 23 and 4 of bytes that are more than any record has that the reader takes.
too_many-found : (limits : Limits) (n l : ℕ) (next : Verdict) → length_of limits.events < l
    → question 23 (count_taken limits n) (question 4 (eqb l (length_of n)) next) ≡ question 23 (count_taken limits n) (verdict 4 0)
too_many-found limits n l next h = by-case (count_taken limits n) refl
  where
    by-case : (t : Bool) → count_taken limits n ≡ t → question 23 t (question 4 (eqb l (length_of n)) next) ≡ question 23 t (verdict 4 0)
    by-case false e = refl
    by-case true e =
        let few : n ≤ limits.events = leb-true n limits.events e in
        let other : l ≡ length_of n → ⊥ = λ z. omega arith in
        rw (ne_eqb l (length_of n) other)

-- All of them: 1 is answered yes, and where those of N and n are, 4 is answered no.
too_long-found : (limits : Limits) (bytes : List ℕ) (hp vp : ℕ) → length_of limits.events < length bytes
    → read_verdict limits bytes hp vp ≡ sizes_then limits (sources_of bytes) (count_of bytes) (verdict 4 0)
unfolding read_verdict
too_long-found limits bytes hp vp h =
    let eight : 8 ≤ length bytes = omega arith in
    let s : ℕ = sources_of bytes in
    let n : ℕ = count_of bytes in
    rw (le-leb 8 (length bytes) eight)
    (ap (λ (v : Verdict). question 2 (is_count s) (question 22 (sources_taken limits s) (question 3 (count_in_range n) v))) (too_many-found limits n (length bytes) _ h))

-- So a program that reads more bytes than any such record has needs to read no further.
pub read-cut : (limits : Limits) (bytes : List ℕ) (m head_places value_places : ℕ) → length_of limits.events < m → m ≤ length bytes
    → read_verdict limits (take m bytes) head_places value_places ≡ read_verdict limits bytes head_places value_places
read-cut limits bytes m hp vp late inside =
    let cut : length_of limits.events < length (take m bytes) = rw (length-take-le m bytes inside) late in
    let all : length_of limits.events < length bytes = omega arith in
    too_long-found limits (take m bytes) hp vp cut
    ∙ (rw (word_cut bytes 0 m (omega arith) inside, word_cut bytes 1 m (omega arith) inside) (sym (too_long-found limits bytes hp vp all)))

-- It is refused.
pub long-refused : (limits : Limits) (bytes : List ℕ) (head_places value_places : ℕ) → length_of limits.events < length bytes
    → (read_verdict limits bytes head_places value_places).refusal ≡ 0 → ⊥
long-refused limits bytes hp vp h z = let r = readable limits bytes hp vp z in omega (arith, r.whole, r.short)
