-- Document 02, No. 2: the mirror without a branch.
use Rattle.std.specs.Prelude.{ℕ, ◌≤◌, ◌≡◌, cond, eqb, ℤ, pos, ◌+ℤ◌, ◌-ℤ◌, ◌*ℤ◌}
use Rattle.pic_source.specs.Ranks.{mirror}

-- "Work it out as field + priord × (15 − 2 × field) over signed numbers."
unfoldable pub closed_form : ℤ → ℤ → ℤ
closed_form priord field = field +ℤ priord *ℤ (pos 15 -ℤ pos 2 *ℤ field)

-- Priord 0 or 1; a higher one, which no sound controller has, stands for 1.
unfoldable pub order_of : ℕ → ℕ
order_of priord = cond (eqb priord 0) 0 1

-- 01's choice over the integers, where 15 − field does not stop at 0.
abbrev pub choice_of : ℕ → ℤ → ℤ
choice_of priord field = cond (eqb priord 0) field (pos 15 -ℤ field)

-- What is said of it for one priord.
pub record ClosedFor (priord : ℕ) : Type 0 where
  -- "For priord 0 or 1 and fields 0 to 15 that is 01's choice": for every integer that of the integers,
  pub choice : (field : ℤ) → closed_form (pos priord) field ≡ choice_of priord field
  -- and for a field the very number of 01's rule;
  pub same : (n : ℕ) → n ≤ 15 → closed_form (pos priord) (pos n) ≡ pos (mirror priord n)
  -- "and done twice it gives the field back", whatever integer it is.
  pub twice : (field : ℤ) → closed_form (pos priord) (closed_form (pos priord) field) ≡ field

abbrev pub Closed : Type 0
Closed = (priord : ℕ) → priord ≤ 1 → ClosedFor priord
