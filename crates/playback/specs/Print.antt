-- Document 01, "The player": the print of a record, whole, by a player that takes every record or, document 02, No. 3, short ones.
use Rattle.std.specs.Prelude.{ℕ, suc, ◌<◌, Bool, cond, List, [], ◌∷◌, ◌++◌, length, get_or, take, leb, pos, nat_abs}
use Rattle.std.specs.Int.Signed.{lt_z}
use Rattle.buffers.specs.Filled.{filled}
use Rattle.digits.specs.Digits.{decimal}
use Rattle.event.specs.Event.{kind_of, kinds}
use Rattle.record.specs.declared.Limits.{Limits}
use Rattle.record.specs.Verdict.{Verdict}
use Rattle.record.specs.Record.{board, compact, sources_of, heads_of, values_of}
use Rattle.record.specs.Questions.{verdict_within}
use Rattle.record.specs.Answers.{all_yes}
use Rattle.pic.specs.Calls.{current_rank}
use Rattle.handlers.specs.declared.Machine.{Machine}
use Rattle.handlers.specs.Machines.{power_on_of}
use Rattle.handlers.specs.Calls.{margin_answer}
use Rattle.buffers.specs.Least.{least}
use Rattle.claims.specs.Play.{end_of, answers_of, refusals_of}
use Rattle.digits.specs.Ascii.{ascii}
use Rattle.playback.specs.Text.{signed}
use Rattle.playback.specs.Size.{first_line_size, print_room, lines_room}

-- The first line: `sources 4 events 10`.
abbrev pub first_line : ℕ → ℕ → List ℕ
first_line sources events = ascii "sources " ++ decimal sources ++ ascii " events " ++ decimal events ++ ascii "\n"

-- Per event it prints index, kind, answer, refusal (0 if accepted).
abbrev pub event_line : ℕ → ℕ → ℕ → ℕ → List ℕ
event_line index kind answer refusal =
    decimal index ++ ascii " " ++ decimal kind ++ ascii " " ++ decimal answer ++ ascii " " ++ decimal refusal ++ ascii "\n"

-- The lines of events, the first of them with this index: heads, answers and refusals beside one another.
unfoldable pub event_lines : ℕ → List ℕ → List ℕ → List ℕ → List ℕ
event_lines index [] answers refusals = []
event_lines index (head ∷ heads) [] refusals = []
event_lines index (head ∷ heads) (answer ∷ answers) [] = []
event_lines index (head ∷ heads) (answer ∷ answers) (refusal ∷ refusals) =
    event_line index (kind_of head) answer refusal ++ event_lines (suc index) heads answers refusals

-- The last line: `end open 0 level 0 margin 5`. The margin has a sign: whether it is below 0, and how far it is from 0.
abbrev pub last_line : ℕ → ℕ → Bool → ℕ → List ℕ
last_line depth level below size =
    ascii "end open " ++ decimal depth ++ ascii " level " ++ decimal level ++ ascii " margin " ++ signed below size ++ ascii "\n"

-- Open, as a number, is how many handlers are on the stack; level is current's rank.
abbrev pub end_line : Machine → List ℕ
end_line m =
    last_line m.service.depth (current_rank m.controller).0 (lt_z (margin_answer m).margin (pos 0)) (nat_abs (margin_answer m).margin)

-- A bad record prints only, say, `refused 4 at 0`.
abbrev pub refused_line : ℕ → ℕ → List ℕ
refused_line refusal place = ascii "refused " ++ decimal refusal ++ ascii " at " ++ decimal place ++ ascii "\n"

-- The lines of a list that was played: heads, answers and refusals beside one another, and the machine at its end.
abbrev pub lines_of : ℕ → List ℕ → List ℕ → List ℕ → Machine → List ℕ
lines_of sources heads answers refusals m = first_line sources (length heads) ++ event_lines 0 heads answers refusals ++ end_line m

-- The events of a record, played from power-on.
abbrev pub played_lines : ℕ → List ℕ → List ℕ → List ℕ
played_lines sources heads values =
    lines_of
    sources
    heads
    (answers_of (power_on_of sources).machine heads values)
    (refusals_of (power_on_of sources).machine heads values)
    (end_of (power_on_of sources).machine heads values)

-- The whole print, by the reader's verdict.
abbrev pub print_by : Verdict → List ℕ → List ℕ
print_by v bytes =
    cond (all_yes v) (played_lines (sources_of bytes) (heads_of bytes) (values_of bytes)) (refused_line v.refusal v.place)

-- One rule for the players: each prints by the verdict of its own reader.
unfoldable pub print_within : Limits → List ℕ → List ℕ
print_within limits bytes = print_by (verdict_within limits bytes) bytes

-- The player, which takes every record,
abbrev pub print_of : List ℕ → List ℕ
print_of = print_within board

-- and the compact player, which takes short ones.
abbrev pub compact_print_of : List ℕ → List ℕ
compact_print_of = print_within compact

-- The heads of an accepted record, by question 6: each is of a kind that there is.
abbrev pub KnownKinds : List ℕ → Type 0
KnownKinds heads = (j : ℕ) → j < length heads → kind_of (get_or heads j 0) < length kinds

-- The room that a record's print may need: n lines of events where the reader accepts it with n events, none where it is refused.
unfoldable pub room_for : Limits → List ℕ → ℕ
room_for limits bytes = print_room (cond (all_yes (verdict_within limits bytes)) (length (heads_of bytes)) 0)

-- A text for which a call asks so much room fills the first bytes of a buffer, and the answer is how many. A buffer with less room stays as it was, and the
-- answer is 0.
abbrev pub length_put : ℕ → List ℕ → ℕ → ℕ
length_put room text space = cond (leb room space) (length text) 0

abbrev pub put_into : ℕ → List ℕ → List ℕ → List ℕ
put_into room text buffer = cond (leb room (length buffer)) (filled text buffer) buffer

-- So it is with the print of a record,
abbrev pub printed_length : Limits → List ℕ → ℕ → ℕ
printed_length limits bytes space = length_put (room_for limits bytes) (print_within limits bytes) space

abbrev pub printed_into : Limits → List ℕ → List ℕ → List ℕ
printed_into limits bytes buffer = put_into (room_for limits bytes) (print_within limits bytes) buffer

-- with the lines of a list, of as many events as heads, answers and refusals all have,
abbrev pub events_given : List ℕ → List ℕ → List ℕ → ℕ
events_given heads answers refusals = least (length heads) (least (length answers) (length refusals))

abbrev pub given_lines : ℕ → List ℕ → List ℕ → List ℕ → Machine → List ℕ
given_lines sources heads answers refusals m = lines_of sources (take (events_given heads answers refusals) heads) answers refusals m

abbrev pub lines_length : ℕ → List ℕ → List ℕ → List ℕ → Machine → ℕ → ℕ
lines_length sources heads answers refusals m space =
    length_put (lines_room (events_given heads answers refusals)) (given_lines sources heads answers refusals m) space

abbrev pub lines_into : ℕ → List ℕ → List ℕ → List ℕ → Machine → List ℕ → List ℕ
lines_into sources heads answers refusals m buffer =
    put_into (lines_room (events_given heads answers refusals)) (given_lines sources heads answers refusals m) buffer

-- and with the line of a record that is refused, which is no longer than a first line.
abbrev pub refused_length : ℕ → ℕ → ℕ → ℕ
refused_length refusal place space = length_put first_line_size (refused_line refusal place) space

abbrev pub refused_into : ℕ → ℕ → List ℕ → List ℕ
refused_into refusal place buffer = put_into first_line_size (refused_line refusal place) buffer
