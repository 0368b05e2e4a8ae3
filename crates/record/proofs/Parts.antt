-- What an accepted reading leaves, as the caller finds it; and that the words of a record are numbers of 32 bits.
use mathlib.Core.Path.{◌≡◌, sym, ◌∙◌}
use Prim.Native.Nat.{ℕ, zero, suc, ◌+◌, ◌^◌, ◌<◌}
use native.Mathlib.Omega.{arith}
use mathlib.Core.List.{List, [], ◌∷◌}
use borrow.Author.Tests.{eq-eqb}
use lib.Dec.{lit<}
use lib.ListN.{length, take, drop}
use lib.Seq.{take_at}
use Rattle.std.specs.Prelude.{Result, Ok}
use Rattle.record.specs.declared.Limits.{Limits}
use Rattle.record.specs.Verdict.{Verdict}
use Rattle.record.specs.declared.Sizes.{Sizes}
use Rattle.record.specs.declared.Refused.{Refused}
use Rattle.record.specs.Words.{words_of}
use Rattle.record.specs.Record.{count_of, sources_of, heads_of, values_of}
use Rattle.record.specs.Questions.{read_verdict}
use Rattle.record.specs.Answers.{stored, read_numbers, read_answer, read_heads, read_values}
use Rattle.record.proofs.Words.{Below}
use Rattle.record.proofs.Walk.{heads-length, values_length}
use Rattle.record.proofs.Questions.{Readable, readable}
use Rattle.record.proofs.Answers.{read_done}

-- What is stored is read out again.
pub stored-part : (v : Verdict) (new old : List ℕ) (n : ℕ) {d : List ℕ} → v.refusal ≡ 0 → length new ≡ n → d ≡ stored v new old → take n d ≡ new
stored-part v new old n z l e = rw (e, eq-eqb _ _ z) (take_at new (drop (length new) old) n l)

-- An accepted reading: N, and in the first n places of the arrays the heads and values of the record.
pub record Parts (limits : Limits) (bytes : List ℕ) (head_places value_places n s : ℕ) (hs vs : List ℕ) : Type 0 where
  pub yes : (read_verdict limits bytes head_places value_places).refusal ≡ 0
  pub accepts : Readable limits bytes head_places value_places
  pub count : n ≡ count_of bytes
  pub sources : s ≡ sources_of bytes
  pub heads : take n hs ≡ heads_of bytes
  pub values : take n vs ≡ values_of bytes

pub read-parts : (limits : Limits) (bytes heads values : List ℕ) {r : Result Sizes Refused} {hs vs : List ℕ} {x : Sizes} → read_numbers r ≡ read_answer limits bytes (length heads) (length values)
    → hs ≡ read_heads limits bytes heads values → vs ≡ read_values limits bytes heads values → r ≡ Ok x
    → Parts limits bytes (length heads) (length values) x.events x.sources hs vs
read-parts limits bytes heads values {r} {hs} {vs} {x} e eh ev er =
    let done = read_done limits bytes (length heads) (length values) e er in
    let ok = readable limits bytes (length heads) (length values) done.0 in
    let v = read_verdict limits bytes (length heads) (length values) in
    record {
      yes = done.0;
      accepts = ok;
      count = done.1;
      sources = done.2;
      heads = stored-part v (heads_of bytes) heads x.events done.0 (heads-length bytes (count_of bytes) ok.whole ∙ sym done.1) eh;
      values = stored-part v (values_of bytes) values x.events done.0 (values_length bytes (count_of bytes) ok.whole ∙ sym done.1) ev;
    }

below-take : (b n : ℕ) (l : List ℕ) → 0 < b → Below b l → Below b (take n l)
below-take b zero l h e i = h
below-take b (suc n) [] h e i = h
below-take b (suc n) (x ∷ l) h e zero = e 0
below-take b (suc n) (x ∷ l) h e (suc i) = below-take b n l h (λ j. e (suc j)) i

below-drop : (b n : ℕ) (l : List ℕ) → Below b l → Below b (drop n l)
below-drop b zero l e = e
below-drop b (suc n) [] e = e
below-drop b (suc n) (x ∷ l) e = below-drop b n l (λ j. e (suc j))

-- The words of bytes.
pub words-below : (bytes : List ℕ) → Below 256 bytes → Below (2 ^ 32) (words_of bytes)
unfolding words_of
words-below [] h i = lit< tt
words-below (a ∷ []) h i = lit< tt
words-below (a ∷ b ∷ []) h i = lit< tt
words-below (a ∷ b ∷ c ∷ []) h i = lit< tt
words-below (a ∷ b ∷ c ∷ d ∷ rest) h zero =
    let ha : a < 256 = h 0 in
    let hb : b < 256 = h 1 in
    let hc : c < 256 = h 2 in
    let hd : d < 256 = h 3 in
    omega arith
words-below (a ∷ b ∷ c ∷ d ∷ rest) h (suc i) = words-below rest (λ j. h (suc (suc (suc (suc j))))) i

part-below : (bytes : List ℕ) (k n : ℕ) → Below 256 bytes → Below (2 ^ 32) (take n (drop k (words_of bytes)))
part-below bytes k n h = below-take (2 ^ 32) n (drop k (words_of bytes)) (lit< tt) (below-drop (2 ^ 32) k (words_of bytes) (words-below bytes h))

pub heads-below : (bytes : List ℕ) → Below 256 bytes → Below (2 ^ 32) (heads_of bytes)
heads-below bytes = part-below bytes 2 (count_of bytes)

pub values-below : (bytes : List ℕ) → Below 256 bytes → Below (2 ^ 32) (values_of bytes)
values-below bytes = part-below bytes (2 + count_of bytes) (count_of bytes)
