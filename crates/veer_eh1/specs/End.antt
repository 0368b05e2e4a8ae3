-- The numbers of a record, as C has them.
use Rattle.std.specs.Prelude.{List, [], ◌∷◌, ℤ, pos}
use Rattle.playback_numbers.specs.Numbers.{Numbers}

-- Seven numbers with a sign: refusal, place, sources, events, open, level, margin.
abbrev pub seven_of : Numbers → List ℤ
seven_of q = pos q.refusal ∷ pos q.place ∷ pos q.sources ∷ pos q.events ∷ pos q.depth ∷ pos q.level ∷ q.margin ∷ []
