-- What is proved of words of sources, for the layers above.
use Rattle.std.specs.Prelude.{ℕ, ◌<◌, ◌≡◌, Bool, cond, ◌&&◌}
use Rattle.pic_source.specs.Sources.{is_source}
use Rattle.pic_bits.specs.Bits.{has_bit, source_of}
use Rattle.pic_words.specs.declared.Word.{Word}
use Rattle.pic_words.specs.Words.{Source, source_at, word_of, changed, pending_source, waiting_source, pending_of, ready_of, source_bits}

-- The values of a source are 0 or 1.
pub record Binary (s : Source) : Type 0 where
  pub enable : s.enable < 2
  pub trigger : s.trigger < 2
  pub polarity : s.polarity < 2
  pub line : s.line < 2
  pub latch : s.latch < 2

-- The source of bit y of a word of sources is the one that is asked for.
abbrev pub SourceOfWord : Type 0
SourceOfWord = (s : ℕ → Source) (y : ℕ) → y < 32 → Binary (s y) → source_at (word_of s) y ≡ s y

-- Of a word of which some sources are changed, each of these is as the change leaves it, and every other as it was.
abbrev pub ChangedAt : Type 0
ChangedAt = (w : Word) (at : ℕ → Bool) (change : ℕ → Source → Source) (y : ℕ) → y < 32
    → ((s : Source) → Binary s → Binary (change y s))
    → source_at (changed w at change) y ≡ cond (at y) (change y (source_at w y)) (source_at w y)

-- Bit y is set where source y is one of them and is pending; enabled and pending; a source.
abbrev pub PendingBit : Type 0
PendingBit = (w : Word) (has y : ℕ) → y < 32 → has_bit (pending_of w has) y ≡ (has_bit has y && pending_source (source_at w y))

abbrev pub ReadyBit : Type 0
ReadyBit = (w : Word) (has y : ℕ) → y < 32 → has_bit (ready_of w has) y ≡ (has_bit has y && waiting_source (source_at w y))

abbrev pub SourceBit : Type 0
SourceBit = (n x y : ℕ) → y < 32 → has_bit (source_bits n x) y ≡ is_source n (source_of x y)
