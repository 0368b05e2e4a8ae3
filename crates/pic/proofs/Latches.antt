-- One latch after an event.
use Rattle.std.proofs.Common.{◌≡◌, ℕ, ◌≤◌, Bool, true, false, cond, refl, arith}
use Rattle.pic_source.specs.Sources.{is_active, latch_after}

-- A latch that was settled stays so.
pub after-after : (line polarity latch : ℕ) → latch_after line polarity (latch_after line polarity latch) ≡ latch_after line polarity latch
after-after line polarity latch = go (is_active line polarity)
  where
    go : (t : Bool) → cond t 1 (cond t 1 latch) ≡ cond t 1 latch
    go true = refl
    go false = refl

-- It is 0 or 1, where it was.
pub after_small : (line polarity latch : ℕ) → latch ≤ 1 → latch_after line polarity latch ≤ 1
after_small line polarity latch h = go (is_active line polarity)
  where
    go : (t : Bool) → cond t 1 latch ≤ 1
    go true = omega arith
    go false = h
