-- The seven numbers, and what the call leaves.
use mathlib.Core.Path.{◌≡◌, ap}
use mathlib.Core.List.{[], ◌∷◌}
use lib.IntN.{ℤ, pos}
use Rattle.playback_numbers.specs.Numbers.{Numbers}
use Rattle.veer_eh1.specs.End.{seven_of}

pub seven_is : {q q' : Numbers} {a b c d e f z : ℤ} → q ≡ q' → a ≡ pos q.refusal → b ≡ pos q.place → c ≡ pos q.sources → d ≡ pos q.events
    → e ≡ pos q.depth → f ≡ pos q.level → z ≡ q.margin → (a ∷ b ∷ c ∷ d ∷ e ∷ f ∷ z ∷ []) ≡ seven_of q'
seven_is {q} {q'} h ea eb ec ed ee ef ez = rw (ea, eb, ec, ed, ee, ef, ez) (ap seven_of h)
