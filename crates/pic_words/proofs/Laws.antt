-- The sources of a word of sources, and of a word of which some are changed; the bits of what is pending, ready, a source.
use Prim.Native.Nat.{ℕ, ◌<◌}
use mathlib.Core.Path.{◌≡◌}
use mathlib.Core.Bool.{Bool, true, false, cond, not, ◌&&◌}
use native.Mathlib.Omega.{arith}
use lib.Dec.{eqb}
use Rattle.pic_source.specs.Sources.{is_source, latch_after}
use Rattle.pic_bits.specs.Bits.{has_bit, source_of}
use Rattle.pic_bits.proofs.Bits.{bit-lt}
use Rattle.pic_bits.proofs.Words.{bit-of-bits, has_word}
use Rattle.pic_words.specs.declared.Word.{Word}
use Rattle.pic_words.specs.Words.{Source, source_at, word_of, changed, changed_at, settled, sampled_source, enabled_source, gateway_source, cleared_source, pending_source, waiting_source, pending_of, ready_of, source_bits}
use Rattle.pic_words.specs.Laws.{Binary, SourceOfWord, ChangedAt, PendingBit, ReadyBit, SourceBit}

-- A source is its five values.
source-same : (s t : Source) → s.enable ≡ t.enable → s.trigger ≡ t.trigger → s.polarity ≡ t.polarity → s.line ≡ t.line → s.latch ≡ t.latch → s ≡ t
source-same s t e r p l k = λ i. record { enable = e i; trigger = r i; polarity = p i; line = l i; latch = k i }

pub source-of-word : SourceOfWord
unfolding word_of
source-of-word s y l b =
    source-same (source_at (word_of s) y) (s y)
    (bit-of-bits (λ (z : ℕ). (s z).enable) 32 y l b.enable)
    (bit-of-bits (λ (z : ℕ). (s z).trigger) 32 y l b.trigger)
    (bit-of-bits (λ (z : ℕ). (s z).polarity) 32 y l b.polarity)
    (bit-of-bits (λ (z : ℕ). (s z).line) 32 y l b.line)
    (bit-of-bits (λ (z : ℕ). (s z).latch) 32 y l b.latch)

-- The values of a source of a word are bits.
pub source-binary : (w : Word) (y : ℕ) → Binary (source_at w y)
source-binary w y =
    record {
      enable = bit-lt w.enable y;
      trigger = bit-lt w.trigger y;
      polarity = bit-lt w.polarity y;
      line = bit-lt w.line y;
      latch = bit-lt w.latch y;
    }

pub changed-at : ChangedAt
unfolding changed
changed-at w at change y l k = source-of-word (changed_at w at change) y l (go (at y))
  where
    go : (t : Bool) → Binary (cond t (change y (source_at w y)) (source_at w y))
    go true = k (source_at w y) (source-binary w y)
    go false = source-binary w y

-- The changes of a source keep its values 0 or 1.
pub latch-binary : (line polarity latch : ℕ) → latch < 2 → latch_after line polarity latch < 2
latch-binary line polarity latch h = go (not (eqb line polarity))
  where
    go : (t : Bool) → cond t 1 latch < 2
    go true = omega arith
    go false = h

pub settled-binary : (s : Source) → Binary s → Binary (settled s)
settled-binary s b =
    record {
      enable = b.enable;
      trigger = b.trigger;
      polarity = b.polarity;
      line = b.line;
      latch = latch-binary s.line s.polarity s.latch b.latch;
    }

pub sampled-binary : (s : Source) (v : ℕ) → Binary s → v < 2 → Binary (sampled_source s v)
sampled-binary s v b h =
    settled-binary _ (record { enable = b.enable; trigger = b.trigger; polarity = b.polarity; line = h; latch = b.latch })

pub enabled-binary : (s : Source) (v : ℕ) → Binary s → v < 2 → Binary (enabled_source s v)
enabled-binary s v b h = record { enable = h; trigger = b.trigger; polarity = b.polarity; line = b.line; latch = b.latch }

pub gateway-binary : (s : Source) (t p : ℕ) → Binary s → t < 2 → p < 2 → Binary (gateway_source s t p)
gateway-binary s t p b h k =
    settled-binary _ (record { enable = b.enable; trigger = h; polarity = k; line = b.line; latch = b.latch })

pub cleared-binary : (s : Source) → Binary s → Binary (cleared_source s)
cleared-binary s b =
    settled-binary _ (record { enable = b.enable; trigger = b.trigger; polarity = b.polarity; line = b.line; latch = omega arith })

-- The bits of what is pending, ready, a source.
pub pending-bit : PendingBit
unfolding pending_of
pending-bit w has y l = has_word (λ (z : ℕ). has_bit has z && pending_source (source_at w z)) 32 y l

pub ready-bit : ReadyBit
unfolding ready_of
ready-bit w has y l = has_word (λ (z : ℕ). has_bit has z && waiting_source (source_at w z)) 32 y l

pub source-bit : SourceBit
unfolding source_bits
source-bit n x y l = has_word (λ (z : ℕ). is_source n (source_of x z)) 32 y l
