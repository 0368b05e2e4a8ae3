-- The answer and the verdict: what a reader leaves is what the rules say, and what an answer tells of the verdict.
use mathlib.Core.Bool.{cond}
use mathlib.Core.Path.{◌≡◌, refl, sym, ap, ◌∙◌}
use Prim.Native.Nat.{ℕ, zero, suc, ◌+◌}
use native.Mathlib.Nat.{suc-ne-zero}
use mathlib.Core.List.{List, [], ◌∷◌}
use borrow.Author.Tests.{eq-eqb, ne_eqb}
use lib.Dec.{eqb}
use lib.ListN.{length}
use Rattle.std.specs.Prelude.{Result, Ok, Err}
use Rattle.questions.specs.Numbers.{number_of}
use Rattle.buffers.specs.Filled.{filled}
use Rattle.record.specs.declared.Limits.{Limits}
use Rattle.record.specs.Verdict.{Verdict}
use Rattle.record.specs.declared.Sizes.{Sizes}
use Rattle.record.specs.declared.Refused.{Refused}
use Rattle.record.specs.Record.{count_of, sources_of, words_from, length_of}
use Rattle.record.specs.Questions.{read_verdict, write_verdict}
use Rattle.record.specs.Answers.{Answer, done_with, refused_at, read_numbers, read_answer, read_heads, read_values, write_numbers, write_answer}

module _ (limits : Limits) (bytes heads values : List ℕ) {v : Verdict} (e : v ≡ read_verdict limits bytes (length heads) (length values)) where
  pub read-refused : (v.refusal ≡ 0 → ⊥)
      → (refused_at v.refusal v.place ≡ read_answer limits bytes (length heads) (length values))
      × ((heads ≡ read_heads limits bytes heads values) × (values ≡ read_values limits bytes heads values))
  read-refused z = rw (← e, ne_eqb _ _ z) (refl, (refl, refl))

  pub read-accepted : {n s : ℕ} {hs vs : List ℕ} → v.refusal ≡ 0
      → n ≡ count_of bytes → s ≡ sources_of bytes → hs ≡ filled (words_from bytes 2 n) heads → vs ≡ filled (words_from bytes (2 + n) n) values
      → (done_with (n ∷ s ∷ []) ≡ read_answer limits bytes (length heads) (length values))
      × ((hs ≡ read_heads limits bytes heads values) × (vs ≡ read_values limits bytes heads values))
  read-accepted z en es eh ev = rw (eh, ev, en, es, ← e, eq-eqb _ _ z) (refl, (refl, refl))

-- An answer of values: every question was answered yes.
yes-back : (q at : ℕ) (xs ys : List ℕ) → done_with ys ≡ cond (eqb q 0) (done_with xs) (refused_at q at) → (q ≡ 0) × (ys ≡ xs)
yes-back zero at xs ys e = (refl, ap (λ (a : Answer). a.values) e)
yes-back (suc q) at xs ys e =
    absurd (suc-ne-zero q (sym (ap (λ (a : Answer). a.refusal) (rw (ne_eqb (suc q) 0 (suc-ne-zero q)) at e))))

-- An answer of a number and a place: they are those of the question that was answered no.
no-back : (q at number place x : ℕ) (xs : List ℕ) → refused_at number place ≡ cond (eqb q 0) (done_with (x ∷ xs)) (refused_at q at)
    → (q ≡ 0 → ⊥) × (number ≡ q) × (place ≡ at)
no-back zero at number place x xs e = absurd (suc-ne-zero (length xs) (sym (ap (λ (a : Answer). length a.values) e)))
no-back (suc q) at number place x xs e =
    let e' : refused_at number place ≡ refused_at (suc q) at = rw (ne_eqb (suc q) 0 (suc-ne-zero q)) at e in
    (suc-ne-zero q, ap (λ (a : Answer). a.refusal) e', ap (λ (a : Answer). a.place) e')

-- What the answer of a writing tells.
module _ (sources : ℕ) (heads values : List ℕ) (space : ℕ) {r : Result ℕ Refused}
    (e : write_numbers r ≡ write_answer sources heads values space) where
  pub write_done : {l : ℕ} → r ≡ Ok l → ((write_verdict sources heads values space).refusal ≡ 0) × (l ≡ length_of (length heads))
  write_done d =
      let f = yes-back _ (write_verdict sources heads values space).place _ _ (ap write_numbers (sym d) ∙ e) in
      (f.0, cc)

  pub write-not : {x : Refused} → r ≡ Err x
      → ((write_verdict sources heads values space).refusal ≡ 0 → ⊥)
      × (number_of x.refusal ≡ (write_verdict sources heads values space).refusal) × (x.place ≡ (write_verdict sources heads values space).place)
  write-not d = no-back _ _ _ _ _ _ (ap write_numbers (sym d) ∙ e)

-- What the answer of a reading tells.
module _ (limits : Limits) (bytes : List ℕ) (head_places value_places : ℕ) {r : Result Sizes Refused}
    (e : read_numbers r ≡ read_answer limits bytes head_places value_places) where
  pub read_done : {x : Sizes} → r ≡ Ok x
      → ((read_verdict limits bytes head_places value_places).refusal ≡ 0) × (x.events ≡ count_of bytes) × (x.sources ≡ sources_of bytes)
  read_done d =
      let f = yes-back _ (read_verdict limits bytes head_places value_places).place _ _ (ap read_numbers (sym d) ∙ e) in
      (f.0, cc, cc)

  pub read-not : {x : Refused} → r ≡ Err x
      → ((read_verdict limits bytes head_places value_places).refusal ≡ 0 → ⊥)
      × (number_of x.refusal ≡ (read_verdict limits bytes head_places value_places).refusal) × (x.place ≡ (read_verdict limits bytes head_places value_places).place)
  read-not d = no-back _ _ _ _ _ _ (ap read_numbers (sym d) ∙ e)
