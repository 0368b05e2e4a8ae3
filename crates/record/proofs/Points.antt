-- The listing of document 01: N 4 and ten events, as bytes and back, computed by the rules.
use mathlib.Core.Path.{◌≡◌, refl}
use Prim.Native.Nat.{ℕ}
use mathlib.Core.List.{List, [], ◌∷◌}
use lib.ListN.{length}
use Rattle.event.specs.Event.{shape_of}
use Rattle.event.specs.Listing.{listing_sources, listing_heads, listing_values}
use Rattle.record.specs.Words.{words_of, bytes_of_words}
use Rattle.record.specs.Record.{board, compact, record_of, count_of, sources_of, heads_of, values_of}
use Rattle.record.specs.Questions.{write_shape_of, walk_from, read_verdict, write_verdict}
use Rattle.record.specs.Answers.{done_with, refused_at, read_answer, write_answer}

-- The 88 bytes: n and N, ten heads, ten values; a word to a line.
abbrev bytes : List ℕ
bytes =
    0x0a ∷ 0x00 ∷ 0x00 ∷ 0x00
    ∷ 0x04 ∷ 0x00 ∷ 0x00 ∷ 0x00
    ∷ 0x08 ∷ 0x20 ∷ 0x02 ∷ 0x00
    ∷ 0x08 ∷ 0x00 ∷ 0x02 ∷ 0x00
    ∷ 0x00 ∷ 0x00 ∷ 0x00 ∷ 0x00
    ∷ 0x00 ∷ 0x00 ∷ 0x05 ∷ 0x00
    ∷ 0x00 ∷ 0x00 ∷ 0x09 ∷ 0x00
    ∷ 0x00 ∷ 0x00 ∷ 0x05 ∷ 0x00
    ∷ 0x00 ∷ 0x00 ∷ 0x06 ∷ 0x00
    ∷ 0x00 ∷ 0x00 ∷ 0x08 ∷ 0x00
    ∷ 0x00 ∷ 0x00 ∷ 0x09 ∷ 0x00
    ∷ 0x00 ∷ 0x00 ∷ 0x08 ∷ 0x00
    ∷ 0x01 ∷ 0x00 ∷ 0x00 ∷ 0x00
    ∷ 0x05 ∷ 0x00 ∷ 0x00 ∷ 0x00
    ∷ 0x04 ∷ 0x00 ∷ 0x00 ∷ 0x00
    ∷ 0x00 ∷ 0x00 ∷ 0x00 ∷ 0x00
    ∷ 0x01 ∷ 0x00 ∷ 0x00 ∷ 0x00
    ∷ 0x00 ∷ 0x00 ∷ 0x00 ∷ 0x00
    ∷ 0x00 ∷ 0x00 ∷ 0x00 ∷ 0x00
    ∷ 0x00 ∷ 0x00 ∷ 0x00 ∷ 0x00
    ∷ 0x00 ∷ 0x00 ∷ 0x00 ∷ 0x00
    ∷ 0x00 ∷ 0x00 ∷ 0x00 ∷ 0x00
    ∷ []

pub eighty-eight : length bytes ≡ 88
eighty-eight = refl

pub listing-bytes : record_of listing_sources listing_heads listing_values ≡ bytes
unfolding bytes_of_words
listing-bytes = refl

pub listing-count : count_of bytes ≡ length listing_heads
unfolding words_of
listing-count = refl

pub listing-sources : sources_of bytes ≡ listing_sources
unfolding words_of
listing-sources = refl

pub listing-heads : heads_of bytes ≡ listing_heads
unfolding words_of
listing-heads = refl

pub listing-values : values_of bytes ≡ listing_values
unfolding words_of
listing-values = refl

-- Written into 88 bytes.
pub listing-written : write_answer listing_sources listing_heads listing_values 88 ≡ done_with (88 ∷ [])
unfolding write_verdict walk_from write_shape_of shape_of
listing-written = refl

-- Read into arrays of ten places.
pub listing-read : read_answer board bytes 10 10 ≡ done_with (10 ∷ 4 ∷ [])
unfolding read_verdict words_of walk_from shape_of
listing-read = refl

-- Refusals of reading, one for each question. Of several that fail the first decides: the second has N and n both too large.
pub refused-1 : read_answer board (0 ∷ 0 ∷ 0 ∷ 0 ∷ 4 ∷ 0 ∷ 0 ∷ []) 9 9 ≡ refused_at 1 0
unfolding read_verdict words_of walk_from shape_of
refused-1 = refl

pub refused-2 : read_answer board (255 ∷ 255 ∷ 255 ∷ 255 ∷ 255 ∷ 255 ∷ 255 ∷ 255 ∷ []) 9 9 ≡ refused_at 2 0
unfolding read_verdict words_of walk_from shape_of
refused-2 = refl

pub refused-3 : read_answer board (255 ∷ 255 ∷ 255 ∷ 255 ∷ 4 ∷ 0 ∷ 0 ∷ 0 ∷ []) 9 9 ≡ refused_at 3 0
unfolding read_verdict words_of walk_from shape_of
refused-3 = refl

pub refused-4 : read_answer board (1 ∷ 0 ∷ 0 ∷ 0 ∷ 4 ∷ 0 ∷ 0 ∷ 0 ∷ []) 9 9 ≡ refused_at 4 0
unfolding read_verdict words_of walk_from shape_of
refused-4 = refl

pub refused-5 : read_answer board bytes 10 9 ≡ refused_at 5 0
unfolding read_verdict words_of walk_from shape_of
refused-5 = refl

-- Two events of which the second is of no kind; and the same with an address in the first, a take.
pub refused-6 : read_answer board (record_of 4 (0x50000 ∷ 0xe0000 ∷ []) (0 ∷ 0 ∷ [])) 9 9 ≡ refused_at 6 1
unfolding read_verdict words_of bytes_of_words walk_from shape_of
refused-6 = refl

pub refused-7 : read_answer board (record_of 4 (0x50001 ∷ 0xe0000 ∷ []) (0 ∷ 0 ∷ [])) 9 9 ≡ refused_at 7 0
unfolding read_verdict words_of bytes_of_words walk_from shape_of
refused-7 = refl

-- The compact reader: N 64 with n too large too, and n 501 with a length that is wrong too.
pub refused-22 : read_answer compact (255 ∷ 255 ∷ 255 ∷ 255 ∷ 64 ∷ 0 ∷ 0 ∷ 0 ∷ []) 9 9 ≡ refused_at 22 0
unfolding read_verdict words_of walk_from shape_of
refused-22 = refl

pub refused-23 : read_answer compact (245 ∷ 1 ∷ 0 ∷ 0 ∷ 63 ∷ 0 ∷ 0 ∷ 0 ∷ []) 9 9 ≡ refused_at 23 0
unfolding read_verdict words_of walk_from shape_of
refused-23 = refl
