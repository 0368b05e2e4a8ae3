-- Document 01, "Lines, latches, winner": what is said of one source, by its values.
use Rattle.std.specs.Prelude.{ℕ, Bool, cond, not, ◌&&◌, leb, eqb}

-- Sources are 1..N.
abbrev pub is_source : ℕ → ℕ → Bool
is_source n s = leb 1 s && leb s n

-- A line is active when line differs from polarity (polarity 0 active high, 1 active low).
abbrev pub is_active : ℕ → ℕ → Bool
is_active line polarity = not (eqb line polarity)

-- After each accepted event, a latch is set if its line is active, or if it was set and this event didn't clear it. An event that clears a latch
-- makes it 0 first.
abbrev pub latch_after : ℕ → ℕ → ℕ → ℕ
latch_after line polarity latch = cond (is_active line polarity) 1 latch

-- A source is pending: type 0 (level) when active, type 1 (edge) when its latch is set.
unfoldable pub is_pending : ℕ → ℕ → ℕ → ℕ → Bool
is_pending trigger polarity line latch = cond (eqb trigger 0) (is_active line polarity) (eqb latch 1)

-- Enabled and pending: eligible, if its rank is 1 or more.
abbrev pub is_waiting : ℕ → ℕ → ℕ → ℕ → ℕ → Bool
is_waiting enable trigger polarity line latch = eqb enable 1 && is_pending trigger polarity line latch
