use mir.Syntax.{w32}
use mir.Val.{Fits}
use Prim.Native.Nat.{ℕ, ◌+◌, ◌^◌, ◌<◌}
use mathlib.Core.Path.{◌≡◌}
use native.Mathlib.Omega.{arith}
use Rattle.pic_bits.specs.Bits.{Lowest, lowest_bit}
use Rattle.pic_bits.proofs.Bits.{bit_le, one_shifted}
use Rattle.pic_bits.proofs.Zeros.{lowest-is}
use Rattle.pic_sets.proofs.Steps.{begun, turned, ended}
use borrow.Author.Rules.{rules}
use Rattle.pic_sets.proofs.flips.flip_word.Goals as goal

-- The bit of a turn is the lowest that is left.
lowest : (left y : ℕ) → y ≡ lowest_bit left → 0 < left → left < 2 ^ 32 → Lowest 32 left y
lowest left y e more f = rw e (lowest-is left more f)

pub loop-left-init : goal.loop-left-init
loop-left-init c = (let f : Fits w32 c.args.changed = search rules in f.fits, 0, begun _ _ _ _)

pub overflow_sub-left : goal.overflow_sub-left
overflow_sub-left c =
    let l = lowest _ _ c.lowest_bit-y.ensures (omega arith) c.loop-left.invariant.0 in
    rw (one_shifted c.lowest_bit-y.result l.within) (bit_le c.lowest_bit-y.result c.loop-left.left l.on)

pub loop-left-preserved : goal.loop-left-preserved
loop-left-preserved c =
    let l = lowest _ _ c.lowest_bit-y.ensures (omega arith) c.loop-left.invariant.0 in
    let y = c.lowest_bit-y.result in
    let i = c.loop-left.invariant in
    (omega (arith, i.0), y + 1, rw (one_shifted y l.within, c.flip.ensures, c.to_rank.ensures) (turned _ _ _ _ _ i.1 y _ i.2 l))

pub returns : goal.returns
returns c =
    let i = c.loop-left.invariant in
    let z : c.loop-left.left ≡ 0 = search rules in
    ended _ _ _ _ i.1 _ (rw z at i.2)
