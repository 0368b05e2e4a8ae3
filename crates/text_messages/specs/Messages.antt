-- What the converters of texts say on standard error. Numbers are decimal, in the fewest digits, and a message ends in a line feed.
use Rattle.std.specs.Prelude.{ℕ, ◌+◌, Bool, cond, ◌||◌, List, ◌++◌, eqb}
use Rattle.digits.specs.Ascii.{ascii}
use Rattle.digits.specs.Digits.{decimal, within}
use Rattle.refusals.specs.Words.{words_of, words_size}
use Rattle.text_reader.specs.Reading.{why_not_sources, why_not_event, why_too_many, why_short_head}

-- Behind a place: a colon, the words, and the end of the line.
abbrev pub saying : List ℕ → List ℕ
saying words = ascii ": " ++ words ++ ascii "\n"

-- Why a line is bad, by the reader's number: it is not N; it is no event; its head is too short; or it is that of an event too many, as refusal 3 says.
abbrev pub why_words : ℕ → List ℕ
why_words why =
    cond (eqb why why_not_sources) (ascii "not N, one to three decimal digits")
    (cond (eqb why why_not_event) (ascii "not HEAD:VALUE in hexadecimal")
    (cond (eqb why why_short_head) (ascii "the head has fewer than eight digits")
    (words_of 3)))

-- The numbers of a bad line.
abbrev pub is_of_line : ℕ → Bool
is_of_line why = within why_not_sources why_too_many why || eqb why why_short_head

-- The place of a bad line: `refused at line 3`.
abbrev pub at_line : ℕ → List ℕ
at_line line = ascii "refused at line " ++ decimal line

-- A text that is too long, which is not about a line.
abbrev pub too_long : List ℕ
too_long = ascii "refused: the text has more than 1,048,576 bytes\n"

-- A text that is bad: why, and the line. Any number but those of a bad line is that of a text that is too long.
abbrev pub bad_text : ℕ → ℕ → List ℕ
bad_text why line = cond (is_of_line why) (at_line line ++ saying (why_words why)) too_long

-- A refusal and its place: `refused 6 at 1`.
abbrev pub refused_at : ℕ → ℕ → List ℕ
refused_at refusal place = ascii "refused " ++ decimal refusal ++ ascii " at " ++ decimal place

-- A record that is refused: `refused 1 at 0: fewer than 8 bytes`.
abbrev pub refused : ℕ → ℕ → List ℕ
refused refusal place = refused_at refusal place ++ saying (words_of refusal)

-- The same with what is said of the line between the two.
abbrev pub refused_with : ℕ → ℕ → List ℕ → List ℕ
refused_with refusal place line = refused_at refusal place ++ line ++ saying (words_of refusal)

-- The line of the text that a refusal is about: ` (line 3)`.
abbrev pub in_line : ℕ → List ℕ
in_line line = ascii " (line " ++ decimal line ++ ascii ")"

-- A text whose record is refused: `refused 6 at 1 (line 3): the kind is not 0 to 13`.
abbrev pub refused_in : ℕ → ℕ → ℕ → List ℕ
refused_in refusal place line = refused_at refusal place ++ in_line line ++ saying (words_of refusal)

-- Enough for each: the last with its texts, numbers of at most 20 digits and the words.
abbrev pub message_size : ℕ
message_size = 8 + 20 + 4 + 20 + 7 + 20 + 1 + 2 + words_size + 1
