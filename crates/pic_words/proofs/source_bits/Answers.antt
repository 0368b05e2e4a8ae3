use Prim.Native.Nat.{◌+◌, ◌-◌, ◌*◌, ◌%◌, ◌^◌, ◌≤◌}
use native.Mathlib.Omega.{arith}
use Rattle.pic_words.proofs.SourceBits.{bits_none, bits-all, bits-some, bits_fit}
use Rattle.pic_words.proofs.source_bits.Goals as goal

abbrev Last : Type 0
Last = goal.Else-first-end

-- The bits of the last word of sources, from the lowest source on.
fits : (c : Last) → 1 + c.low_bit-low.result ≤ 1 * 2 ^ (c.args.n + 1 - 32 * c.args.x) % 2 ^ 32
fits c =
    let b = c.before.before in
    bits_fit b.args.n b.args.x _ b.low_bit-low.ensures (omega (arith, c.if-end-first.false)) (omega (arith, c.if-first-end.false))

pub returns-then-end-first : goal.returns-then-end-first
returns-then-end-first c = let a = c.args in bits_none a.n a.x (omega (arith, c.if-end-first.true))

pub returns-then-first-end : goal.returns-then-first-end
returns-then-first-end c = let b = c.before.before in bits-all b.args.n b.args.x _ b.low_bit-low.ensures (omega (arith, c.if-first-end.true))

pub overflow_sub-result-4 : goal.overflow_sub-result-4
overflow_sub-result-4 c = omega (arith, fits c)

pub returns : goal.returns
returns c = let b = c.before.before in bits-some _ _ _ b.low_bit-low.ensures (omega (arith, c.if-end-first.false)) (omega (arith, c.if-first-end.false))
