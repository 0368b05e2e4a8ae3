-- Document 01, "What a machine holds": N, the number of sources; and question 2, which reader, writer and power-on ask.
use Rattle.std.specs.Prelude.{ℕ, Bool, ◌&&◌, leb}

-- "N, the number of sources, 2..255."
abbrev pub most_sources : ℕ
most_sources = 255

-- 2. Is N in 2..255?
abbrev pub is_count : ℕ → Bool
is_count n = leb 2 n && leb n most_sources
