-- Tests of values.
use Rattle.std.specs.Prelude.{Bool, true, ◌&&◌, List, [], ◌∷◌}

-- All tests of a list hold.
abbrev pub all_from : Bool → List Bool → Bool
all_from a [] = a
all_from a (b ∷ bs) = all_from (a && b) bs

abbrev pub all_hold : List Bool → Bool
all_hold [] = true
all_hold (b ∷ bs) = all_from b bs
