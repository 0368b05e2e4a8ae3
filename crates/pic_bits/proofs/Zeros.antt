-- The number of zeros below is the lowest set bit.
use Prim.Native.Nat.{ℕ, zero, suc, ◌/◌, ◌%◌, ◌^◌, ◌<◌}
use mathlib.Core.Path.{◌≡◌, refl, ◌∙◌}
use native.Mathlib.Omega.{arith}
use lib.Count.{count_trailing_zeros, under}
use Rattle.pic_bits.specs.Bits.{bit_of, Lowest, LowestIs}
use Rattle.pic_bits.proofs.Bits.{bit-half, bit-zero, half-less}

half-some : (w : ℕ) → 0 < w → w % 2 ≡ 0 → 0 < w / 2
half-some w h e = omega arith

below_half : (w t : ℕ) → w % 2 ≡ 0 → ((y : ℕ) → y < t → bit_of (w / 2) y ≡ 0) → (y : ℕ) → y < suc t → bit_of w y ≡ 0
below_half w t e h zero l = bit-zero w ∙ e
below_half w t e h (suc y) l = bit-half w y ∙ h y (omega arith)

zeros-below : (k w : ℕ) → 0 < w → w < 2 ^ k → Lowest k w (count_trailing_zeros k w)
unfolding count_trailing_zeros
zeros-below zero w p h = absurd (omega arith)
zeros-below (suc k) w p h = go (w % 2) refl (λ e. zeros-below k (w / 2) (half-some w p e) (half-less k w h))
  where
    go : (r : ℕ) → w % 2 ≡ r → (w % 2 ≡ 0 → Lowest k (w / 2) (count_trailing_zeros k (w / 2))) → Lowest (suc k) w (under r (count_trailing_zeros k (w / 2)))
    go zero e ih =
        let t = count_trailing_zeros k (w / 2) in
        let l = ih e in
        record { within = omega (arith, l.within); on = bit-half w t ∙ l.on; below = below_half w t e l.below }
    go (suc r) e ih = record { within = omega arith; on = bit-zero w ∙ omega arith; below = λ y l. absurd (omega arith) }

pub lowest-is : LowestIs
lowest-is w p h = zeros-below 32 w p h
