-- Text put into a lent buffer, one piece after the other.
use Rattle.std.specs.Prelude.{ℕ, ◌+◌, Bool, cond, List, length, leb}
use Rattle.std.proofs.lemmas.List.Edits.{sets}

-- Whether the buffer holds the text from a place on.
abbrev pub fits : List ℕ → ℕ → List ℕ → Bool
fits buffer at text = leb (at + length text) (length buffer)

-- The buffer with the text from that place on; where it does not hold it, as it was.
abbrev pub put_at : List ℕ → ℕ → List ℕ → List ℕ
put_at buffer at text = cond (fits buffer at text) (sets buffer at text) buffer

-- The place after the text; where the buffer does not hold it, the same place.
abbrev pub place_after : List ℕ → ℕ → List ℕ → ℕ
place_after buffer at text = cond (fits buffer at text) (at + length text) at
