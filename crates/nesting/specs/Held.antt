-- A stack held in the first places of an array, the lowest handler first.
use Rattle.std.specs.Prelude.{ℕ, List, map, take}

-- The first `depth` of the array's elements, each seen through `view`.
abbrev pub held : {A B : Type 0} → (A → B) → List A → ℕ → List B
held view l depth = map view (take depth l)
