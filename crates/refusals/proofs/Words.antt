-- The words of the rows of a table, and the text that has them line by line.
use Prim.Native.Nat.{ℕ, zero, suc, ◌+◌, ◌≤◌}
use Prim.Native.String.{String}
use native.Mathlib.Omega.{arith}
use borrow.Author.Tests.{leb-true, eq-eqb, ne_eqb, eqb-true}
use mathlib.Core.Bool.{Bool, true, false, ◌&&◌, cond, true≢false}
use mathlib.Core.Path.{◌≡◌, refl, sym, ◌∙◌}
use mathlib.Core.List.{List, [], ◌∷◌, ◌++◌}
use lib.ListN.{length, drop}
use lib.Dec.{leb, eqb}
use Rattle.std.proofs.lemmas.Bool.{and_parts}
use Rattle.digits.specs.Ascii.{ascii}
use Rattle.refusals.specs.Lines.{start_of, first_line, line_at}
use Rattle.refusals.specs.Words.{refusal_rows, words_in, words_of, words_size}
use Rattle.refusals.proofs.Lines.{start_none}

-- The words of each row have at most so many bytes.
abbrev short : ℕ → List (ℕ × String) → Bool
short most [] = true
short most ((number, words) ∷ rows) = leb (length (ascii words)) most && short most rows

most-in : (most : ℕ) (rows : List (ℕ × String)) → short most rows ≡ true → (n : ℕ) → length (words_in rows n) ≤ most
unfolding words_in
most-in most [] e n = omega arith
most-in most ((number, words) ∷ rows) e n =
    let (first, rest) = and_parts (leb (length (ascii words)) most) (short most rows) e in
    by-case (eqb n number) (leb-true (length (ascii words)) most first) (most-in most rows rest n)
  where
    by-case : (b : Bool) → length (ascii words) ≤ most → length (words_in rows n) ≤ most → length (cond b (ascii words) (words_in rows n)) ≤ most
    by-case true h l = h
    by-case false h l = l

pub words-most : (n : ℕ) → length (words_of n) ≤ words_size
unfolding refusal_rows ascii
words-most = most-in words_size refusal_rows refl

-- The words of the rows, a line feed after each.
abbrev pub lines : List (ℕ × String) → List ℕ
lines [] = []
lines ((number, words) ∷ rows) = ascii words ++ (10 ∷ lines rows)

-- No line feed stands in a text.
abbrev one_line : List ℕ → Bool
one_line [] = true
one_line (c ∷ text) = cond (eqb c 10) false (one_line text)

-- The rows are numbered from k on, and each has words of one line.
abbrev numbered : ℕ → List (ℕ × String) → Bool
numbered k [] = true
numbered k ((number, words) ∷ rows) = eqb number k && (one_line (ascii words) && numbered (suc k) rows)

-- Such a text is the first line of what it begins, and the next line starts after it.
line_first : (text rest : List ℕ) → one_line text ≡ true → first_line (text ++ (10 ∷ rest)) ≡ text
unfolding first_line
line_first [] rest e = refl
line_first (c ∷ text) rest e = by-case (eqb c 10) (line_first text rest) e
  where
    by-case : (b : Bool) → (one_line text ≡ true → first_line (text ++ (10 ∷ rest)) ≡ text) → cond b false (one_line text) ≡ true
        → cond b [] (c ∷ first_line (text ++ (10 ∷ rest))) ≡ c ∷ text
    by-case true ih e = absurd (true≢false (sym e))
    by-case false ih e = rw (ih e)

line-next : (text rest : List ℕ) (n : ℕ) → one_line text ≡ true → line_at (text ++ (10 ∷ rest)) (suc n) ≡ line_at rest n
unfolding start_of
line-next [] rest n e = refl
line-next (c ∷ text) rest n e = by-case (eqb c 10) (line-next text rest n) e
  where
    by-case : (b : Bool) → (one_line text ≡ true → line_at (text ++ (10 ∷ rest)) (suc n) ≡ line_at rest n) → cond b false (one_line text) ≡ true
        → first_line (drop (start_of (text ++ (10 ∷ rest)) (cond b n (suc n))) (text ++ (10 ∷ rest))) ≡ line_at rest n
    by-case true ih e = absurd (true≢false (sym e))
    by-case false ih e = ih e

-- So line n has the words of the row that is n further.
line-in : (k : ℕ) (rows : List (ℕ × String)) → numbered k rows ≡ true → (n j : ℕ) → j ≡ n + k → line_at (lines rows) n ≡ words_in rows j
unfolding words_in start_of first_line
line-in k [] e n j h = refl
line-in k ((number, words) ∷ rows) e n j h =
    let (here, more) = and_parts (eqb number k) (one_line (ascii words) && numbered (suc k) rows) e in
    let (one, rest) = and_parts (one_line (ascii words)) (numbered (suc k) rows) more in
    by-case n (eqb-true number k here) one h (line-in (suc k) rows rest)
  where
    by-case : (n : ℕ) → number ≡ k → one_line (ascii words) ≡ true → j ≡ n + k → ((m j : ℕ) → j ≡ m + suc k → line_at (lines rows) m ≡ words_in rows j)
        → line_at (ascii words ++ (10 ∷ lines rows)) n ≡ cond (eqb j number) (ascii words) (words_in rows j)
    by-case zero same one h ih = rw (eq-eqb j number (omega arith), start_none (ascii words ++ (10 ∷ lines rows))) (line_first (ascii words) (lines rows) one)
    by-case (suc n) same one h ih = rw (ne_eqb j number (λ e. omega arith)) (line-next (ascii words) (lines rows) n one ∙ ih n j (omega arith))

pub line-words : (n : ℕ) → line_at (10 ∷ lines refusal_rows) n ≡ words_of n
unfolding start_of first_line words_in refusal_rows ascii
line-words zero = refl
line-words (suc n) = line-in 1 refusal_rows refl n (suc n) (omega arith)
