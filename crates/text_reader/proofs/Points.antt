-- The listing of document 01 as text, what it says, and texts that are dressed up or refused, computed by the rules.
use mathlib.Core.Path.{◌≡◌, refl}
use Prim.Native.Nat.{ℕ}
use mathlib.Core.List.{List, [], ◌∷◌}
use Rattle.event.specs.Event.{shape_of}
use Rattle.event.specs.Listing.{listing_sources, listing_heads, listing_values}
use Rattle.record.specs.Record.{record_size}
use Rattle.record.specs.Questions.{write_shape_of, walk_from, write_verdict}
use Rattle.record.specs.Answers.{done_with, refused_at}
use Rattle.digits.specs.Ascii.{ascii}
use Rattle.digits.specs.Digits.{digit_of, number_after}
use Rattle.text_lines.specs.Lines.{before, after, lines_in}
use Rattle.text_lines.specs.Rows.{without_return, said_in, without_lead, kept_of, trimmed, says_any, rows_from}
use Rattle.text_lines.specs.Numbers.{all_digits}
use Rattle.text_reader.specs.Reading.{not_sources, not_event, short_head, events_fault, text_fault, sources_of_text, heads_of_text, values_of_text}
use Rattle.text_reader.specs.Answers.{LinesAnswer, faulty, written, to_record_answer}

-- To unfold this is to unfold every rule of a text.
rules : Unit {0}
unfolding text_fault events_fault rows_from says_any said_in without_return without_lead kept_of trimmed before after lines_in all_digits number_after digit_of write_verdict walk_from write_shape_of shape_of ascii
rules = tt

-- N 4 and ten events.
abbrev pub listing : List ℕ
listing = ascii "4\n00022008:1\n00020008:5\n00000000:4\n00050000:0\n00090000:1\n00050000:0\n00060000:0\n00080000:0\n00090000:0\n00080000:0\n"

-- What it says.
pub listing-sources : sources_of_text listing ≡ listing_sources
unfolding rules
listing-sources = refl

pub listing-heads : heads_of_text listing ≡ listing_heads
unfolding rules
listing-heads = refl

pub listing-values : values_of_text listing ≡ listing_values
unfolding rules
listing-values = refl

-- What is answered to a text.
abbrev answer : List ℕ → LinesAnswer
answer text = to_record_answer text record_size

-- A record of so many bytes.
abbrev made : ℕ → LinesAnswer
made bytes = written (done_with (bytes ∷ [])) 0

pub listing-made : answer listing ≡ made 88
unfolding rules
listing-made = refl

-- N alone, with no line feed: a record of no event.
pub no-events : answer (ascii "4") ≡ made 8
unfolding rules
no-events = refl

-- Digits in upper case, and a last line without its line feed.
pub upper-case : answer (ascii "4\n0002FFFC:ABCdef09") ≡ made 16
unfolding rules
upper-case = refl

-- Comments, blank lines, blanks and tabs around the parts, and a carriage return at the end of each line.
pub dressed-up : answer (ascii "# a bench\r\n\t4 \r\n\r\n  00050000 :\t0\t# take\r\n#") ≡ made 16
unfolding rules
dressed-up = refl

-- No line says anything: N is missed in the line after the last.
pub no_text : answer (ascii "") ≡ faulty (not_sources 1)
unfolding rules
no_text = refl

pub no_row : answer (ascii "# nothing\n \t\n") ≡ faulty (not_sources 3)
unfolding rules
no_row = refl

-- Four digits for N; two numbers in its line.
pub four-digits : answer (ascii "\n0004\n") ≡ faulty (not_sources 2)
unfolding rules
four-digits = refl

pub two-numbers : answer (ascii "4 4\n") ≡ faulty (not_sources 1)
unfolding rules
two-numbers = refl

-- A second carriage return, and one that is not at the end of its line.
pub two-returns : answer (ascii "4\r\r\n") ≡ faulty (not_sources 1)
unfolding rules
two-returns = refl

pub return-inside : answer (ascii "4\n00050000\r:0\n") ≡ faulty (not_event 2)
unfolding rules
return-inside = refl

-- A head of nine digits; of two bad lines the first.
pub nine-digits : answer (ascii "4\n000050000:0\nz\n") ≡ faulty (not_event 2)
unfolding rules
nine-digits = refl

-- A head of seven digits, which would be of another kind, and one of five; of two bad lines the first.
pub seven-digits : answer (ascii "4\n000b7f0:0\n") ≡ faulty (short_head 2)
unfolding rules
seven-digits = refl

pub five-digits : answer (ascii "4\n00050000:0\n # take\n 50000 : 0\nz\n") ≡ faulty (short_head 4)
unfolding rules
five-digits = refl

-- A short head in a line that is no HEAD:VALUE, and one after such a line.
pub short-and-no-value : answer (ascii "4\n50000:\n") ≡ faulty (not_event 2)
unfolding rules
short-and-no-value = refl

pub short-after-bad : answer (ascii "4\nz\n50000:0\n") ≡ faulty (not_event 2)
unfolding rules
short-after-bad = refl

-- No colon, two colons, and a blank within a number.
pub no-colon : answer (ascii "4\n00050000:0\n00050000\n") ≡ faulty (not_event 3)
unfolding rules
no-colon = refl

pub two-colons : answer (ascii "4\n00050000:0:0\n") ≡ faulty (not_event 2)
unfolding rules
two-colons = refl

pub blank-inside : answer (ascii "4\n0005 0000:0\n") ≡ faulty (not_event 2)
unfolding rules
blank-inside = refl

-- A comment cuts the value off.
pub cut_off : answer (ascii "4\n00050000:#0\n") ≡ faulty (not_event 2)
unfolding rules
cut_off = refl

-- N is 1, in line 2: question 2.
pub one-source : answer (ascii "\n1\n00050000:0\n") ≡ written (refused_at 2 0) 2
unfolding rules
one-source = refl

-- The second event is of no kind, in line 5: question 6 at place 1.
pub line_of_no_kind : answer (ascii "4\n00050000:0\n\n# no kind\n000e0000:0\n") ≡ written (refused_at 6 1) 5
unfolding rules
line_of_no_kind = refl

-- A take with a value: question 7 at place 0.
pub unused : answer (ascii "4\n00050000:1\n") ≡ written (refused_at 7 0) 2
unfolding rules
unused = refl

-- Kind 7, with an address, in the second event; kind 7 after an event with an unused part, and before one; heads that have a 7 elsewhere.
pub retired : answer (ascii "4\n00050000:0\n# chain\n00070001:0") ≡ written (refused_at 27 1) 4
unfolding rules
retired = refl

pub retired-after-7 : answer (ascii "4\n00050000:1\n00070000:0") ≡ written (refused_at 7 0) 2
unfolding rules
retired-after-7 = refl

pub retired-before-7 : answer (ascii "4\n00070000:0\n00050000:1") ≡ written (refused_at 27 0) 2
unfolding rules
retired-before-7 = refl

pub sevens-elsewhere : answer (ascii "4\n00000007:7\n00017000:0\n000d0007:0\n") ≡ made 32
unfolding rules
sevens-elsewhere = refl
