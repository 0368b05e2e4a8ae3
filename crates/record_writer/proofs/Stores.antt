-- Words stored as bytes, one after the other.
use mathlib.Core.Path.{◌≡◌, refl, sym, ap, ◌∙◌}
use Prim.Native.Nat.{ℕ, ◌+◌, ◌*◌, ◌≤◌, ◌<◌}
use native.Mathlib.Numerals.{add-one}
use native.Mathlib.Omega.{arith}
use mathlib.Core.List.{List, [], ◌∷◌, ◌++◌}
use lib.ListN.{length, get_or, take, length-append}
use lib.Seq.{sets, take-suc, length-take-le}
use Rattle.buffers.proofs.Stores.{sets-append, sets_then, sets-filled}
use Rattle.buffers.specs.Filled.{filled}
use Rattle.record.specs.Words.{bytes_of, bytes_of_words}
use Rattle.record.specs.Record.{record_of}
use Rattle.record.proofs.Words.{length-bytes}

bytes-append : (xs ys : List ℕ) → bytes_of_words (xs ++ ys) ≡ bytes_of_words xs ++ bytes_of_words ys
unfolding bytes_of_words
bytes-append [] ys = refl
bytes-append (x ∷ xs) ys = ap (λ (l : List ℕ). bytes_of x ++ l) (bytes-append xs ys)

-- A turn of the loop that stores words as bytes.
pub bytes-turn : (ws d₀ : List ℕ) (k i : ℕ) {d : List ℕ} → i < length ws → d ≡ sets d₀ (4 * k) (bytes_of_words (take i ws))
    → sets d (4 * (k + i)) (bytes_of (get_or ws i 0)) ≡ sets d₀ (4 * k) (bytes_of_words (take (i + 1) ws))
unfolding bytes_of_words
bytes-turn ws d₀ k i {d} h e =
    let lt : length (take i ws) ≡ i = length-take-le i ws (omega arith) in
    let m : 4 * (k + i) ≡ 4 * k + length (bytes_of_words (take i ws)) = omega (arith, length-bytes (take i ws)) in
    rw (e, add-one, take-suc ws i 0, bytes-append) (sets_then d₀ (4 * k) (bytes_of_words (take i ws)) (bytes_of (get_or ws i 0)) (4 * (k + i)) m)

-- The four stores of a writer make a record.
pub record-stored : (sources : ℕ) (heads values d : List ℕ) {d₁ d₂ d₃ d₄ : List ℕ} → 8 + 4 * (length heads + length values) ≤ length d
    → d₁ ≡ sets d 0 (bytes_of (length heads)) → d₂ ≡ sets d₁ 4 (bytes_of sources)
    → d₃ ≡ sets d₂ 8 (bytes_of_words heads) → d₄ ≡ sets d₃ (4 * (2 + length heads)) (bytes_of_words values)
    → d₄ ≡ filled (record_of sources heads values) d
unfolding bytes_of_words
record-stored sources heads values d fits e₁ e₂ e₃ e₄ =
    let sizes : List ℕ = bytes_of (length heads) ++ bytes_of sources in
    let m : 4 * (2 + length heads) ≡ 0 + length (sizes ++ bytes_of_words heads) = omega (arith, length-bytes heads) in
    let l : length (record_of sources heads values) ≤ length d = omega (arith, length-bytes (length heads ∷ sources ∷ heads ++ values), length-append heads values) in
    rw (e₄, e₃, e₂, e₁)
    (ap (λ (x : List ℕ). sets x (4 * (2 + length heads)) (bytes_of_words values)) (sets-append d 0 sizes (bytes_of_words heads))
    ∙ sets_then d 0 (sizes ++ bytes_of_words heads) (bytes_of_words values) (4 * (2 + length heads)) m
    ∙ ap (λ (x : List ℕ). sets d 0 (sizes ++ x)) (sym (bytes-append heads values))
    ∙ sets-filled d (record_of sources heads values) l)
