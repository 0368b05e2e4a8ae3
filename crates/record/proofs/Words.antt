-- Words and bytes: each way back, word k, lengths, and the loop that stores words.
use mathlib.Core.Path.{◌≡◌, refl, ap, ◌∙◌}
use Prim.Native.Nat.{ℕ, zero, suc, ◌+◌, ◌*◌, ◌/◌, ◌%◌, ◌^◌, ◌≤◌, ◌<◌}
use native.Mathlib.Nat.{div-div-eq-div-mul}
use native.Mathlib.Numerals.{add-one}
use native.Mathlib.Omega.{arith}
use mathlib.Core.List.{List, [], ◌∷◌, ◌++◌}
use lib.ListN.{length, get_or, set, take, drop, length-drop, drop_of_length-le}
use lib.Seq.{sets, take-suc, length-take-le, get_or-take, get_or-drop}
use Rattle.std.proofs.lemmas.List.{append-nil}
use Rattle.buffers.proofs.Stores.{sets_then, sets-filled}
use Rattle.buffers.specs.Filled.{filled}
use Rattle.record.specs.Words.{word_of, words_of, bytes_of, bytes_of_words}

-- Every number of the list is below b.
abbrev pub Below : ℕ → List ℕ → Type 0
Below b l = (i : ℕ) → get_or l i 0 < b

-- A word of four bytes has those bytes.
pub bytes-of-word : (a b c d : ℕ) → a < 256 → b < 256 → c < 256 → d < 256 → bytes_of (word_of a b c d) ≡ a ∷ b ∷ c ∷ d ∷ []
bytes-of-word a b c d ha hb hc hd =
    let w : ℕ = word_of a b c d in
    let q1 : w / 256 ≡ b + 256 * c + 65536 * d = omega arith in
    let q2 : w / 65536 ≡ c + 256 * d = omega arith in
    let q3 : w / 16777216 ≡ d = omega arith in
    let e0 : w % 256 ≡ a = omega arith in
    let e1 : (b + 256 * c + 65536 * d) % 256 ≡ b = omega arith in
    let e2 : (c + 256 * d) % 256 ≡ c = omega arith in
    let e3 : d % 256 ≡ d = omega arith in
    rw (e0, q1, q2, q3, e1, e2, e3)

digit : (x : ℕ) → x ≡ x % 256 + 256 * (x / 256)
digit x = omega arith

digits : (w a b c d p q : ℕ) → w ≡ a + 256 * p → p ≡ b + 256 * q → q ≡ c + 256 * d → word_of a b c d ≡ w
digits w a b c d p q ew ep eq = omega arith

-- The bytes of a word of 32 bits make that word.
pub word-of-bytes : (w : ℕ) → w < 2 ^ 32 → word_of (w % 256) (w / 256 % 256) (w / 65536 % 256) (w / 16777216 % 256) ≡ w
word-of-bytes w h =
    let top : w / 16777216 % 256 ≡ w / 16777216 = omega arith in
    rw top
    (digits w _ _ _ _ _ _
    (digit w)
    (rw (div-div-eq-div-mul w 256 256) at (digit (w / 256)))
    (rw (div-div-eq-div-mul w 65536 256) at (digit (w / 65536))))

pub length-bytes : (ws : List ℕ) → length (bytes_of_words ws) ≡ 4 * length ws
unfolding bytes_of_words
length-bytes [] = refl
length-bytes (w ∷ ws) = let ih : length (bytes_of_words ws) ≡ 4 * length ws = length-bytes ws in omega arith

pub length-words : (bytes : List ℕ) → length (words_of bytes) ≡ length bytes / 4
unfolding words_of
length-words [] = refl
length-words (a ∷ []) = refl
length-words (a ∷ b ∷ []) = refl
length-words (a ∷ b ∷ c ∷ []) = refl
length-words (a ∷ b ∷ c ∷ d ∷ rest) = let ih : length (words_of rest) ≡ length rest / 4 = length-words rest in omega arith

-- Word k is made of the four bytes from 4 × k on.
pub word_at : (bytes : List ℕ) (k : ℕ) → 4 * k + 4 ≤ length bytes
    → word_of (get_or bytes (4 * k) 0) (get_or bytes (4 * k + 1) 0) (get_or bytes (4 * k + 2) 0) (get_or bytes (4 * k + 3) 0)
    ≡ get_or (words_of bytes) k 0
unfolding words_of
word_at [] k h = absurd (omega arith)
word_at (a ∷ []) k h = absurd (omega arith)
word_at (a ∷ b ∷ []) k h = absurd (omega arith)
word_at (a ∷ b ∷ c ∷ []) k h = absurd (omega arith)
word_at (a ∷ b ∷ c ∷ d ∷ rest) zero h = refl
word_at (a ∷ b ∷ c ∷ d ∷ rest) (suc k) h =
    let e0 : 4 * suc k ≡ suc (suc (suc (suc (4 * k)))) = omega arith in
    let e1 : 4 * suc k + 1 ≡ suc (suc (suc (suc (4 * k + 1)))) = omega arith in
    let e2 : 4 * suc k + 2 ≡ suc (suc (suc (suc (4 * k + 2)))) = omega arith in
    let e3 : 4 * suc k + 3 ≡ suc (suc (suc (suc (4 * k + 3)))) = omega arith in
    let h' : 4 * k + 4 ≤ length rest = omega arith in
    let at : ℕ → ℕ = λ i. get_or (a ∷ b ∷ c ∷ d ∷ rest) i 0 in
    (λ j. word_of (at (e0 j)) (at (e1 j)) (at (e2 j)) (at (e3 j))) ∙ word_at rest k h'

-- The words of the bytes of words.
pub words-of-bytes : (ws : List ℕ) → Below (2 ^ 32) ws → words_of (bytes_of_words ws) ≡ ws
unfolding words_of bytes_of_words
words-of-bytes [] h = refl
words-of-bytes (w ∷ ws) h = rw (word-of-bytes w (h 0), words-of-bytes ws (λ i. h (suc i)))

-- The bytes of the words of bytes, where these are whole words.
pub bytes-of-words : (bytes : List ℕ) → Below 256 bytes → length bytes % 4 ≡ 0 → bytes_of_words (words_of bytes) ≡ bytes
unfolding words_of bytes_of_words
bytes-of-words [] h e = refl
bytes-of-words (a ∷ []) h e = absurd (omega arith)
bytes-of-words (a ∷ b ∷ []) h e = absurd (omega arith)
bytes-of-words (a ∷ b ∷ c ∷ []) h e = absurd (omega arith)
bytes-of-words (a ∷ b ∷ c ∷ d ∷ rest) h e =
    let e' : length rest % 4 ≡ 0 = omega arith in
    rw (bytes-of-words rest (λ i. h (suc (suc (suc (suc i))))) e')
    (ap (λ (l : List ℕ). l ++ rest) (bytes-of-word a b c d (h 0) (h 1) (h 2) (h 3)))

-- Bytes enough for n words from word k on have them.
pub length-words-from : (bytes : List ℕ) (k n : ℕ) → 4 * (k + n) ≤ length bytes → n ≤ length (drop k (words_of bytes))
length-words-from bytes k n h = simp (length-drop, length-words) (omega arith)

-- The loop that stores n words, from word k on, as numbers: a turn, and its end.
module _ (bytes : List ℕ) (k n : ℕ) (d₀ : List ℕ) (long : 4 * (k + n) ≤ length bytes) (i : ℕ) {d : List ℕ} (e : d ≡ sets d₀ 0 (take i (drop k (words_of bytes)))) where
  abbrev ws : List ℕ
  ws = drop k (words_of bytes)

  pub words-turn : {w : ℕ} → i < n → w ≡ get_or (words_of bytes) (k + i) 0 → set d i w ≡ sets d₀ 0 (take (i + 1) ws)
  words-turn {w} h ew =
      let l : i < length ws = omega (arith, length-words-from bytes k n long) in
      let m : i ≡ 0 + length (take i ws) = simp (length-take-le i ws (omega arith)) (omega arith) in
      rw (e, ew, ← get_or-drop k (words_of bytes) i 0, add-one, take-suc ws i 0 l) (sets_then d₀ 0 (take i ws) (get_or ws i 0 ∷ []) i m)

  pub words-end : n ≡ length d₀ → n ≤ i → i ≤ n → d ≡ take n ws
  words-end all a b =
      let same : i ≡ n = omega arith in
      let len : length (take n ws) ≡ n = length-take-le n ws (length-words-from bytes k n long) in
      let l : length (take n ws) ≤ length d₀ = omega arith in
      let past : length d₀ ≤ length (take n ws) = omega arith in
      rw (e, same) (sets-filled d₀ (take n ws) l ∙ rw (drop_of_length-le d₀ past) (append-nil (take n ws)))

-- The list of n words from word k on: its length, and word i of it.
pub length_from : (bytes : List ℕ) (k n : ℕ) → 4 * (k + n) ≤ length bytes → length (take n (drop k (words_of bytes))) ≡ n
length_from bytes k n h = length-take-le n _ (length-words-from bytes k n h)

-- These words, stored in the first places of a list.
pub words-filled : (bytes : List ℕ) (k n : ℕ) (old : List ℕ) {new : List ℕ} → 4 * (k + n) ≤ length bytes → n ≤ length old
    → new ≡ take (length (take n old)) (drop k (words_of bytes)) → new ++ drop n old ≡ filled (take n (drop k (words_of bytes))) old
words-filled bytes k n old long holds e = rw (e, length-take-le n old holds, length_from bytes k n long) refl

pub word-from : (bytes : List ℕ) (k n i : ℕ) → i < n → get_or (take n (drop k (words_of bytes))) i 0 ≡ get_or (words_of bytes) (k + i) 0
word-from bytes k n i h = get_or-take n _ i 0 h ∙ get_or-drop k (words_of bytes) i 0
