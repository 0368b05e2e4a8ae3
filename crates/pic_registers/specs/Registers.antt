-- Document 01, "Events and registers": the samples, what a register reads, and what a store changes.
use Rattle.std.specs.Prelude.{ℕ, ◌+◌, ◌*◌, ◌/◌, ◌%◌, Bool, false, ◌&&◌, set, eqb, Option, Some, None}
use Rattle.pic_source.specs.Sources.{is_source, latch_after}
use Rattle.pic_registers.specs.declared.Register.{Register}
use Rattle.pic_registers.specs.declared.Register.TheVariants.{Meipl, Meip, Meie, Mpiccfg, Meigwctrl, Meigwclr}
use Rattle.pic.specs.declared.Controller.{Controller}
use Rattle.pic.specs.Fields.{with_field, with_enable, with_trigger, with_polarity, with_line, with_latch, with_scalars, with_priord}
use Rattle.pic.specs.Sources.{field_at, enable_at, trigger_at, polarity_at, latch_at, pending_at, settle_at}
use Rattle.pic_bits.specs.Bits.{bit_of, word_of_bits, source_of}
use Rattle.pic_registers.specs.Words.{places_of_word}

-- Sample: the lines of word x take the bits of v, and each of their latches is set if its line is active then.
abbrev pub latch_sampled : Controller → ℕ → ℕ → ℕ → ℕ
latch_sampled c x v y = latch_after (bit_of v y) (polarity_at c (source_of x y)) (latch_at c (source_of x y))

abbrev pub sampled : Controller → ℕ → ℕ → Controller
sampled c x v =
    with_latch (with_line c (places_of_word c.sources c.line x (bit_of v))) (places_of_word c.sources c.latch x (latch_sampled c x v))

-- meipX, pending bits: bit Y is set where source 32 × X + Y is pending.
abbrev pub pending_bit : Controller → ℕ → ℕ → Bool
pending_bit c x y = is_source c.sources (source_of x y) && pending_at c (source_of x y)

abbrev pub pending_word : Controller → ℕ → ℕ
pending_word c x = word_of_bits (pending_bit c x)

-- What a register reads: meiplS the field that it holds, bits 3:0; meipX pending bits; meieS bit 0; mpiccfg, bit 0 priord; meigwctrlS, bit 1 type, bit 0 polarity;
-- meigwclrS reads 0. Other bits read 0. Other offsets read 0.
unfoldable pub read_of : Controller → Option Register → ℕ
read_of c (Some (Meipl s)) = (field_at c s).0
read_of c (Some (Meip x)) = pending_word c x
read_of c (Some (Meie s)) = enable_at c s
read_of c (Some Mpiccfg) = c.scalars.priord
read_of c (Some (Meigwctrl s)) = 2 * trigger_at c s + polarity_at c s
read_of c (Some (Meigwclr s)) = 0
read_of c None = 0

-- What a store changes: meiplS takes the field, bits 3:0; meipX, writes dropped; mpiccfg, bit 0 priord, and no field; meigwclrS, a store of any value clears the latch. Other bits are dropped. Other offsets, stores dropped. A latch whose line
-- is active stays set or is set.
unfoldable pub written_of : Controller → Option Register → ℕ → Controller
written_of c (Some (Meipl s)) v = with_field c (set c.field s (v % 16))
written_of c (Some (Meip x)) v = c
written_of c (Some (Meie s)) v = with_enable c (set c.enable s (v % 2))
written_of c (Some Mpiccfg) v = with_scalars c (with_priord c.scalars (v % 2))
written_of c (Some (Meigwctrl s)) v = settle_at (with_polarity (with_trigger c (set c.trigger s (v / 2 % 2))) (set c.polarity s (v % 2))) s
written_of c (Some (Meigwclr s)) v = settle_at (with_latch c (set c.latch s 0)) s
written_of c None v = c

-- meigwclrS, a store of any value clears the latch: whether a store to a register clears that of source s.
abbrev pub clears : Option Register → ℕ → Bool
clears (Some (Meipl t)) s = false
clears (Some (Meip x)) s = false
clears (Some (Meie t)) s = false
clears (Some Mpiccfg) s = false
clears (Some (Meigwctrl t)) s = false
clears (Some (Meigwclr t)) s = eqb t s
clears None s = false
