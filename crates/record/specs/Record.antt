-- Document 01, "The record": its bytes, its limits and its length; document 02, No. 3: the limits of a reader.
use Rattle.std.specs.Prelude.{ℕ, ◌+◌, ◌*◌, List, ◌∷◌, ◌++◌, length, get_or, take, drop}
use Rattle.source_count.specs.Count.{most_sources}
use Rattle.record.specs.declared.Limits.{Limits}
use Rattle.record.specs.Words.{words_of, bytes_of_words}

-- n at most 4,000.
abbrev pub most_events : ℕ
most_events = 4000

-- What a reader takes at most. "The big player keeps 255 and 4,000": it takes every record.
abbrev pub board : Limits
board = record { sources = most_sources; events = most_events }

-- The compact reader takes short records: "N up to 63 and n up to 500".
abbrev pub compact_sources : ℕ
compact_sources = 63

abbrev pub compact_events : ℕ
compact_events = 500

abbrev pub compact : Limits
compact = record { sources = compact_sources; events = compact_events }

-- The length of a record of n events: 8 + 8 × n.
abbrev pub length_of : ℕ → ℕ
length_of n = 8 + 8 * n

-- The longest record has 32,008 bytes.
abbrev pub record_size : ℕ
record_size = length_of most_events

-- Sizes, then two arrays, all 32-bit little-endian: event count n, N, n heads, n values.
abbrev pub record_of : ℕ → List ℕ → List ℕ → List ℕ
record_of sources heads values = bytes_of_words (length heads ∷ sources ∷ heads ++ values)

-- The event count n of a record: its first word.
abbrev pub count_of : List ℕ → ℕ
count_of bytes = get_or (words_of bytes) 0 0

-- N: its second word.
abbrev pub sources_of : List ℕ → ℕ
sources_of bytes = get_or (words_of bytes) 1 0

-- n words from word k on.
abbrev pub words_from : List ℕ → ℕ → ℕ → List ℕ
words_from bytes k n = take n (drop k (words_of bytes))

-- n heads: the words after the sizes.
abbrev pub heads_of : List ℕ → List ℕ
heads_of bytes = words_from bytes 2 (count_of bytes)

-- n values: the words after the heads.
abbrev pub values_of : List ℕ → List ℕ
values_of bytes = words_from bytes (2 + count_of bytes) (count_of bytes)
