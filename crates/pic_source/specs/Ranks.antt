-- Document 01: ranks and register fields.
use Rattle.std.specs.Prelude.{ℕ, ◌-◌, cond, eqb}
use Rattle.pic_source.specs.declared.Rank.{Rank}
use Rattle.pic_source.specs.declared.Field.{Field}

-- A rank (01's word): how urgent a source is, 0..15, the highest served first.
abbrev pub rank : ℕ → Rank
rank n = record { 0 = n }

-- A field: what bits 3:0 of a priority register hold.
abbrev pub field : ℕ → Field
field n = record { 0 = n }

-- The mirror: a number as it is when priord is 0, 15 less it when priord is 1.
unfoldable pub mirror : ℕ → ℕ → ℕ
mirror priord n = cond (eqb priord 0) n (15 - n)

-- Field = rank when priord is 0, field = 15 − rank when it is 1.
abbrev pub field_of : ℕ → Rank → Field
field_of priord r = field (mirror priord r.0)

-- The rank whose field it is.
abbrev pub rank_of : ℕ → Field → Rank
rank_of priord f = rank (mirror priord f.0)
