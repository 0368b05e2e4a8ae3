-- What each refusal says in words.
use Rattle.std.specs.Prelude.{ℕ, cond, List, [], ◌∷◌, eqb}
use Prim.Native.String.{String}
use Rattle.digits.specs.Ascii.{ascii}

-- Each number is that of the question of document 01 or 02 that was answered no.
unfoldable pub refusal_rows : List (ℕ × String)
refusal_rows =
    (1, "fewer than 8 bytes")
    ∷ (2, "N is not 2 to 255")
    ∷ (3, "more than 4,000 events")
    ∷ (4, "the length is not 8 + 8 x n, or heads and values are not equally many")
    ∷ (5, "the arrays or bytes lent do not hold it all")
    ∷ (6, "the kind is not 0 to 13")
    ∷ (7, "an address or a value that the kind does not use is not 0")
    ∷ (8, "the machine handed in is not sound")
    ∷ (9, "the word number is above 7")
    ∷ (10, "the offset is 0x8000 or more")
    ∷ (11, "the offset is not a multiple of 4")
    ∷ (12, "the address is none of the fifteen CSRs")
    ∷ (13, "meihap cannot be written")
    ∷ (14, "meicurpl is written while a handler is open")
    ∷ (15, "interrupts are off")
    ∷ (16, "no source is above both threshold and current rank")
    ∷ (17, "no handler is open")
    ∷ (18, "the uppermost handler is opened already")
    ∷ (19, "interrupts are on")
    ∷ (20, "the value is not 0 or 1")
    ∷ (21, "interrupts on, while the uppermost handler is not opened")
    ∷ (22, "N is above 63, the compact player's most")
    ∷ (23, "more than 500 events, the compact player's most")
    ∷ (24, "priord is switched while a handler is open")
    ∷ (25, "the error counter's number is above 2")
    ∷ (26, "the committed number is 0 or is not what a look would answer")
    ∷ (27, "kind 7 is no longer written: chain by look and commit, 12 and 13")
    ∷ []

-- The words of the first row with this number; none where no row has it.
unfoldable pub words_in : List (ℕ × String) → ℕ → List ℕ
words_in [] n = []
words_in ((number, words) ∷ rows) n = cond (eqb n number) (ascii words) (words_in rows n)

-- The words of a refusal.
abbrev pub words_of : ℕ → List ℕ
words_of = words_in refusal_rows

-- No refusal has more bytes of words.
abbrev pub words_size : ℕ
words_size = 80
