-- What power-on answers.
use Rattle.std.proofs.Common.{◌≡◌, refl, true, false, cond, ℕ, Bool}
use Rattle.pic.specs.Sound.{initial}
use Rattle.pic.specs.Calls.{accepts, power_on_of, refuses}
use Rattle.source_count.specs.Count.{is_count}

-- Power-on answers 0, accepted or refused.
pub power_on_answers_0 : (n : ℕ) → (power_on_of n).answer ≡ 0
unfolding power_on_of
power_on_answers_0 n = go (is_count n)
  where
    go : (yes : Bool) → (cond yes (accepts (initial n) 0) (refuses (initial 2) 2)).answer ≡ 0
    go true = refl
    go false = refl
