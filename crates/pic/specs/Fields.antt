-- A setter for each field of a controller and of its scalars: the same with that field changed.
use Rattle.std.specs.Prelude.{ℕ, List}
use Rattle.pic.specs.declared.Controller.{Controller}
use Rattle.pic.specs.declared.Scalars.{Scalars}
use Rattle.pic_source.specs.declared.Field.{Field}

abbrev pub with_field : Controller → List ℕ → Controller
with_field m v =
    record {
      sources = m.sources;
      field = v;
      enable = m.enable;
      trigger = m.trigger;
      polarity = m.polarity;
      line = m.line;
      latch = m.latch;
      scalars = m.scalars;
    }

abbrev pub with_enable : Controller → List ℕ → Controller
with_enable m v =
    record {
      sources = m.sources;
      field = m.field;
      enable = v;
      trigger = m.trigger;
      polarity = m.polarity;
      line = m.line;
      latch = m.latch;
      scalars = m.scalars;
    }

abbrev pub with_trigger : Controller → List ℕ → Controller
with_trigger m v =
    record {
      sources = m.sources;
      field = m.field;
      enable = m.enable;
      trigger = v;
      polarity = m.polarity;
      line = m.line;
      latch = m.latch;
      scalars = m.scalars;
    }

abbrev pub with_polarity : Controller → List ℕ → Controller
with_polarity m v =
    record {
      sources = m.sources;
      field = m.field;
      enable = m.enable;
      trigger = m.trigger;
      polarity = v;
      line = m.line;
      latch = m.latch;
      scalars = m.scalars;
    }

abbrev pub with_line : Controller → List ℕ → Controller
with_line m v =
    record {
      sources = m.sources;
      field = m.field;
      enable = m.enable;
      trigger = m.trigger;
      polarity = m.polarity;
      line = v;
      latch = m.latch;
      scalars = m.scalars;
    }

abbrev pub with_latch : Controller → List ℕ → Controller
with_latch m v =
    record {
      sources = m.sources;
      field = m.field;
      enable = m.enable;
      trigger = m.trigger;
      polarity = m.polarity;
      line = m.line;
      latch = v;
      scalars = m.scalars;
    }

abbrev pub with_scalars : Controller → Scalars → Controller
with_scalars m v =
    record {
      sources = m.sources;
      field = m.field;
      enable = m.enable;
      trigger = m.trigger;
      polarity = m.polarity;
      line = m.line;
      latch = m.latch;
      scalars = v;
    }

abbrev pub with_priord : Scalars → ℕ → Scalars
with_priord s v =
    record {
      priord = v;
      base = s.base;
      claim = s.claim;
      threshold = s.threshold;
      claimed = s.claimed;
      current = s.current;
    }

abbrev pub with_base : Scalars → ℕ → Scalars
with_base s v =
    record {
      priord = s.priord;
      base = v;
      claim = s.claim;
      threshold = s.threshold;
      claimed = s.claimed;
      current = s.current;
    }

abbrev pub with_claim : Scalars → ℕ → Scalars
with_claim s v =
    record {
      priord = s.priord;
      base = s.base;
      claim = v;
      threshold = s.threshold;
      claimed = s.claimed;
      current = s.current;
    }

abbrev pub with_threshold : Scalars → Field → Scalars
with_threshold s v =
    record {
      priord = s.priord;
      base = s.base;
      claim = s.claim;
      threshold = v;
      claimed = s.claimed;
      current = s.current;
    }

abbrev pub with_claimed : Scalars → Field → Scalars
with_claimed s v =
    record {
      priord = s.priord;
      base = s.base;
      claim = s.claim;
      threshold = s.threshold;
      claimed = v;
      current = s.current;
    }

abbrev pub with_current : Scalars → Field → Scalars
with_current s v =
    record {
      priord = s.priord;
      base = s.base;
      claim = s.claim;
      threshold = s.threshold;
      claimed = s.claimed;
      current = v;
    }
