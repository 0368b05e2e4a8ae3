-- Document 01, "The player": its print, made of the numbers of a record.
use Rattle.std.specs.Prelude.{ℕ, List, ◌++◌, pos, nat_abs}
use Rattle.std.specs.Int.Signed.{lt_z}
use Rattle.playback.specs.Print.{first_line, event_lines, last_line}
use Rattle.playback_numbers.specs.Numbers.{Numbers}

-- The lines of a record that is accepted, from its heads, the numbers and the two arrays.
abbrev pub lines_of : Numbers → List ℕ → List ℕ → List ℕ → List ℕ
lines_of q heads answers refusals =
    first_line q.sources q.events
    ++ event_lines 0 heads answers refusals
    ++ last_line q.depth q.level (lt_z q.margin (pos 0)) (nat_abs q.margin)
