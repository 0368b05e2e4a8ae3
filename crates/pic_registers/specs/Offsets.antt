-- Document 01, "Events and registers": the offsets.
use Rattle.std.specs.Prelude.{ℕ, ◌+◌, ◌*◌, ◌/◌, ◌%◌, Bool, true, cond, ltb, eqb, Option, Some, None}
use Rattle.pic_source.specs.Sources.{is_source}
use Rattle.pic_registers.specs.declared.Register.{Register}
use Rattle.pic_registers.specs.declared.Register.TheVariants.{Meipl, Meip, Meie, Mpiccfg, Meigwctrl, Meigwclr}

-- Offsets (S in 1..N): 4 × S meiplS; 0x1000 + 4 × X (X 0..7) meipX; 0x2000 + 4 × S meieS; 0x3000 mpiccfg; 0x4000 + 4 × S meigwctrlS;
-- 0x5000 + 4 × S meigwclrS. Other offsets hold no register.
abbrev pub offset_of : Register → ℕ
offset_of (Meipl s) = 4 * s
offset_of (Meip x) = 0x1000 + 4 * x
offset_of (Meie s) = 0x2000 + 4 * s
offset_of Mpiccfg = 0x3000
offset_of (Meigwctrl s) = 0x4000 + 4 * s
offset_of (Meigwclr s) = 0x5000 + 4 * s

-- Whether a controller of n sources can have it: S in 1..N, X 0..7.
abbrev pub is_register : ℕ → Option Register → Bool
is_register n (Some (Meipl s)) = is_source n s
is_register n (Some (Meip x)) = ltb x 8
is_register n (Some (Meie s)) = is_source n s
is_register n (Some Mpiccfg) = true
is_register n (Some (Meigwctrl s)) = is_source n s
is_register n (Some (Meigwclr s)) = is_source n s
is_register n None = true

-- The register at an offset, by its page of 4,096 bytes and its word i in that page. `offset-register` and `register-offset` of the laws say that it
-- is the one whose offset it is.
unfoldable pub source_register : ℕ → ℕ → Option Register
source_register page s =
    cond (eqb page 0) (Some (Meipl s))
    (cond (eqb page 2) (Some (Meie s))
    (cond (eqb page 4) (Some (Meigwctrl s))
    (cond (eqb page 5) (Some (Meigwclr s))
    None)))

unfoldable pub page_register : ℕ → ℕ → ℕ → Option Register
page_register n page i =
    cond (eqb page 1) (cond (ltb i 8) (Some (Meip i)) None)
    (cond (eqb page 3) (cond (eqb i 0) (Some Mpiccfg) None)
    (cond (is_source n i) (source_register page i) None))

abbrev pub register_at : ℕ → ℕ → Option Register
register_at n offset = page_register n (offset / 4096) (offset % 4096 / 4)

-- 10. Is the offset below 0x8000? 11. Is it a multiple of 4? The number of the first no, else 0.
unfoldable pub offset_refusal : ℕ → ℕ
offset_refusal offset = cond (ltb offset 0x8000) (cond (eqb (offset % 4) 0) 0 11) 10
