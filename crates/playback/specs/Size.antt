-- Bytes that are enough for a print: a first line, a line for each event and a last line, each as long as it can be.
use Rattle.std.specs.Prelude.{ℕ, ◌+◌, ◌*◌}

-- The first line: two texts of 8 bytes, two numbers of at most 20 digits each, and the end of the line.
abbrev pub first_line_size : ℕ
first_line_size = 8 + 20 + 8 + 20 + 1

-- The line of an event: index, kind, answer and refusal of at most 4, 2, 10 and 3 digits, three spaces, and the end of the line.
abbrev pub event_line_size : ℕ
event_line_size = 4 + 1 + 2 + 1 + 10 + 1 + 3 + 1

-- The line of any event: an index of at most 20 digits, and a kind of 5, since a kind has 16 bits.
abbrev pub any_line_size : ℕ
any_line_size = 20 + 1 + 5 + 1 + 10 + 1 + 3 + 1

-- The last line: texts of 9, 7 and 8 bytes, three numbers of at most 20 digits each, the margin's sign, and the end of the line.
abbrev pub last_line_size : ℕ
last_line_size = 9 + 20 + 7 + 20 + 8 + 1 + 20 + 1

-- Enough for the print of a record with so many events.
abbrev pub print_room : ℕ → ℕ
print_room events = first_line_size + events * event_line_size + last_line_size

-- Enough for the lines of any so many events.
abbrev pub lines_room : ℕ → ℕ
lines_room events = first_line_size + events * any_line_size + last_line_size
