-- The listing of document 01: the text that is made of its record, and that of an old record, computed by the rules.
use mathlib.Core.Path.{◌≡◌, refl}
use mathlib.Core.List.{[], ◌∷◌}
use Rattle.event.specs.Event.{shape_of}
use Rattle.event.specs.Listing.{listing_sources, listing_heads, listing_values}
use Rattle.digits.specs.Ascii.{ascii}
use Rattle.digits.specs.Digits.{digits_to}
use Rattle.record.specs.Words.{words_of, bytes_of_words}
use Rattle.record.specs.Record.{record_of}
use Rattle.record.specs.Questions.{read_verdict, walk_from}
use Rattle.record.specs.Answers.{done_with}
use Rattle.text_reader.proofs.Points.{listing}
use Rattle.text_writer.specs.Writing.{events_text, text_of}
use Rattle.text_writer.specs.Answers.{to_text_answer}

pub listing-text : text_of (record_of listing_sources listing_heads listing_values) ≡ listing
unfolding events_text digits_to words_of bytes_of_words ascii
listing-text = refl

pub listing-length : to_text_answer (record_of listing_sources listing_heads listing_values) ≡ done_with (112 ∷ [])
unfolding events_text digits_to words_of bytes_of_words read_verdict walk_from shape_of
listing-length = refl

-- A record with kind 7 is still told.
pub old-text : text_of (record_of 4 (0x50000 ∷ 0x70000 ∷ []) (0 ∷ 0 ∷ [])) ≡ ascii "4\n00050000:0\n00070000:0\n"
unfolding events_text digits_to words_of bytes_of_words ascii
old-text = refl

pub old-length : to_text_answer (record_of 4 (0x50000 ∷ 0x70000 ∷ []) (0 ∷ 0 ∷ [])) ≡ done_with (24 ∷ [])
unfolding events_text digits_to words_of bytes_of_words read_verdict walk_from shape_of
old-length = refl
