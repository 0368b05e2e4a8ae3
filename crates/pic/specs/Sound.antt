-- Document 01, "What a machine holds", the controller's part: power-on, and when a controller is sound.
use Rattle.std.specs.Prelude.{ℕ, zero, suc, ◌%◌, ◌^◌, Bool, true, ◌&&◌, ◌||◌, List, [], ◌∷◌, length, replicate, ◌==◌, nat_le, nat_lt}
use Rattle.pic.specs.declared.Controller.{Controller}
use Rattle.pic_source.specs.declared.Field.{Field}
use Rattle.pic_source.specs.Ranks.{field}
use Rattle.pic_source.specs.Tests.{all_hold}
use Rattle.pic.specs.Sources.{field_at, enable_at, trigger_at, polarity_at, line_at, latch_at}

-- Power-on with N sets all else to 0.
abbrev pub initial : ℕ → Controller
initial n =
    record {
      sources = n;
      field = replicate 256 0;
      enable = replicate 256 0;
      trigger = replicate 256 0;
      polarity = replicate 256 0;
      line = replicate 256 0;
      latch = replicate 256 0;
      scalars = record { priord = 0; base = 0; claim = 0; threshold = field 0; claimed = field 0; current = field 0 };
    }

-- Field, enable, type, polarity, line and latch for every source: each array has a place for it.
abbrev pub place_tests : Controller → List Bool
place_tests c =
    nat_lt c.sources (length c.field)
    ∷ nat_lt c.sources (length c.enable)
    ∷ nat_lt c.sources (length c.trigger)
    ∷ nat_lt c.sources (length c.polarity)
    ∷ nat_lt c.sources (length c.line)
    ∷ nat_lt c.sources (length c.latch)
    ∷ []

-- The values of a source are in range, and its latch is set if its line is active.
abbrev pub source_tests : Field → ℕ → ℕ → ℕ → ℕ → ℕ → List Bool
source_tests f enable trigger polarity line latch =
    nat_le f.0 15
    ∷ nat_le enable 1
    ∷ nat_le trigger 1
    ∷ nat_le polarity 1
    ∷ nat_le line 1
    ∷ nat_le latch 1
    ∷ (line == polarity || latch == 1)
    ∷ []

unfoldable pub source_sound : Field → ℕ → ℕ → ℕ → ℕ → ℕ → Bool
source_sound f enable trigger polarity line latch = all_hold (source_tests f enable trigger polarity line latch)

abbrev pub source_sound_at : Controller → ℕ → Bool
source_sound_at c s = source_sound (field_at c s) (enable_at c s) (trigger_at c s) (polarity_at c s) (line_at c s) (latch_at c s)

-- So for the sources 1 to n.
unfoldable pub sources_sound : Controller → ℕ → Bool
sources_sound c zero = true
sources_sound c (suc n) = sources_sound c n && source_sound_at c (suc n)

-- A controller is sound (01's word) when the values are in range, every field is 0..15, as then every rank is; a latch is set wherever its line is active. Base is a
-- multiple of 1,024 below 2^32; claim is a source number or 0.
abbrev pub sound_tests : Controller → List Bool
sound_tests c =
    all_hold (place_tests c)
    ∷ nat_le c.sources 255
    ∷ nat_lt c.scalars.base (2 ^ 32)
    ∷ nat_le 2 c.sources
    ∷ nat_le c.scalars.priord 1
    ∷ (c.scalars.base % 1024 == 0)
    ∷ nat_le c.scalars.claim c.sources
    ∷ nat_le c.scalars.threshold.0 15
    ∷ nat_le c.scalars.claimed.0 15
    ∷ nat_le c.scalars.current.0 15
    ∷ sources_sound c c.sources
    ∷ []

unfoldable pub sound_of : Controller → Bool
sound_of c = all_hold (sound_tests c)
