-- Document 01, of 32 sources at a time: the values of each are a bit of each word, and what 01 says of a source is said of every bit.
use Rattle.std.specs.Prelude.{ℕ, Bool, cond, ◌&&◌, eqb}
use Rattle.pic_source.specs.Sources.{is_source, latch_after, is_pending, is_waiting}
use Rattle.pic_bits.specs.Bits.{bit_of, has_bit, word_of_bits, source_of}
use Rattle.pic_words.specs.declared.Word.{Word}

-- The values of one source.
pub record Source : Type 0 where
  pub enable : ℕ
  pub trigger : ℕ
  pub polarity : ℕ
  pub line : ℕ
  pub latch : ℕ

-- The source of bit y.
abbrev pub source_at : Word → ℕ → Source
source_at w y =
    record {
      enable = bit_of w.enable y;
      trigger = bit_of w.trigger y;
      polarity = bit_of w.polarity y;
      line = bit_of w.line y;
      latch = bit_of w.latch y;
    }

-- The word of 32 sources. `SourceOfWord` says that the source of bit y is the one that is asked for.
unfoldable pub word_of : (ℕ → Source) → Word
word_of s =
    record {
      enable = word_of_bits (λ (y : ℕ). eqb (s y).enable 1);
      trigger = word_of_bits (λ (y : ℕ). eqb (s y).trigger 1);
      polarity = word_of_bits (λ (y : ℕ). eqb (s y).polarity 1);
      line = word_of_bits (λ (y : ℕ). eqb (s y).line 1);
      latch = word_of_bits (λ (y : ℕ). eqb (s y).latch 1);
    }

-- The sources of these bits are changed, and all others are as they were. `ChangedAt` says so.
abbrev pub changed_at : Word → (ℕ → Bool) → (ℕ → Source → Source) → ℕ → Source
changed_at w at change y = cond (at y) (change y (source_at w y)) (source_at w y)

unfoldable pub changed : Word → (ℕ → Bool) → (ℕ → Source → Source) → Word
changed w at change = word_of (changed_at w at change)

-- After an event, the latch is set if the line is active, or if it was set and the event did not clear it.
abbrev pub settled : Source → Source
settled s =
    record {
      enable = s.enable;
      trigger = s.trigger;
      polarity = s.polarity;
      line = s.line;
      latch = latch_after s.line s.polarity s.latch;
    }

-- A sample: the line is b.
abbrev pub sampled_source : Source → ℕ → Source
sampled_source s b =
    settled (record { enable = s.enable; trigger = s.trigger; polarity = s.polarity; line = b; latch = s.latch })

-- A store to meie.
abbrev pub enabled_source : Source → ℕ → Source
enabled_source s v =
    record { enable = v; trigger = s.trigger; polarity = s.polarity; line = s.line; latch = s.latch }

-- A store to meigwctrl: type t, polarity p.
abbrev pub gateway_source : Source → ℕ → ℕ → Source
gateway_source s t p =
    settled (record { enable = s.enable; trigger = t; polarity = p; line = s.line; latch = s.latch })

-- A store to meigwclr: the latch is 0 first.
abbrev pub cleared_source : Source → Source
cleared_source s =
    settled (record { enable = s.enable; trigger = s.trigger; polarity = s.polarity; line = s.line; latch = 0 })

-- Of the sources in has, those that are pending, and those that are enabled and pending. `PendingBit` and `ReadyBit` say so.
abbrev pub pending_source : Source → Bool
pending_source s = is_pending s.trigger s.polarity s.line s.latch

abbrev pub waiting_source : Source → Bool
waiting_source s = is_waiting s.enable s.trigger s.polarity s.line s.latch

unfoldable pub pending_of : Word → ℕ → ℕ
pending_of w has = word_of_bits (λ (y : ℕ). has_bit has y && pending_source (source_at w y))

unfoldable pub ready_of : Word → ℕ → ℕ
ready_of w has = word_of_bits (λ (y : ℕ). has_bit has y && waiting_source (source_at w y))

-- The bits of the sources 1 to n in word x. `SourceBit` says so.
unfoldable pub source_bits : ℕ → ℕ → ℕ
source_bits n x = word_of_bits (λ (y : ℕ). is_source n (source_of x y))

-- The bit of word x that is below all sources: bit 0 of word 0.
abbrev pub low_of : ℕ → ℕ
low_of x = cond (eqb x 0) 1 0

-- A word of which the bits at these places become v.
unfoldable pub bits_put : (ℕ → Bool) → (ℕ → ℕ) → ℕ → ℕ
bits_put at v w = word_of_bits (λ (y : ℕ). eqb (cond (at y) (v y) (bit_of w y)) 1)

-- Latches of the sources at these places, settled by words of lines, polarities and latches.
abbrev pub latches_after : (ℕ → Bool) → ℕ → ℕ → ℕ → ℕ
latches_after at line polarity latch = bits_put at (λ (y : ℕ). latch_after (bit_of line y) (bit_of polarity y) (bit_of latch y)) latch
