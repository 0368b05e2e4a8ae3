-- Document 01, "Events and registers": what a CSR reads, and what a write changes.
use Rattle.std.specs.Prelude.{ℕ, ◌*◌, ◌/◌, ◌%◌, Option, Some, None}
use Rattle.pic_source.specs.Ranks.{field}
use Rattle.pic_csrs.specs.declared.Csr.{Csr}
use Rattle.pic_csrs.specs.declared.Csr.TheVariants.{Meivt, Meipt, Meicpct, Meicidpl, Meicurpl, Meihap}
use Rattle.pic.specs.declared.Scalars.{Scalars}
use Rattle.pic.specs.Fields.{with_base, with_threshold, with_claimed, with_current}
use Rattle.pic.specs.Calls.{meihap_of}

-- What a CSR reads: meivt, bits 31:10 base; rank fields in bits 3:0, as they are held, other bits read 0; meicpct reads 0; meihap = base + 4 × claim.
unfoldable pub csr_value : Scalars → Option Csr → ℕ
csr_value s (Some Meivt) = s.base
csr_value s (Some Meipt) = s.threshold.0
csr_value s (Some Meicpct) = 0
csr_value s (Some Meicidpl) = s.claimed.0
csr_value s (Some Meicurpl) = s.current.0
csr_value s (Some Meihap) = meihap_of s.base s.claim
csr_value s None = 0

-- What a CSR write changes: other bits are dropped; meihap is read only. A write of meicpct captures, which `csr_write_of` says.
unfoldable pub csr_written : Scalars → Option Csr → ℕ → Scalars
csr_written s (Some Meivt) v = with_base s (v / 1024 * 1024)
csr_written s (Some Meipt) v = with_threshold s (field (v % 16))
csr_written s (Some Meicpct) v = s
csr_written s (Some Meicidpl) v = with_claimed s (field (v % 16))
csr_written s (Some Meicurpl) v = with_current s (field (v % 16))
csr_written s (Some Meihap) v = s
csr_written s None v = s
