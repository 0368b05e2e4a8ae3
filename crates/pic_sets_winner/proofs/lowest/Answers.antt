use Prim.Native.Nat.{◌<◌}
use mathlib.Core.Path.{◌≡◌, ◌∙◌, ap}
use native.Mathlib.Omega.{arith}
use mir.Val.{Fits}
use mir.Syntax.{w32}
use lib.ListN.{get_or}
use borrow.Author.Rules.{rules}
use Rattle.pic_bits.specs.Bits.{Lowest}
use Rattle.pic_bits.proofs.Zeros.{lowest-is}
use Rattle.pic_sets_winner.specs.Highest.{number_or_256}
use Rattle.pic_sets_winner.proofs.Firsts.{Empty, found_at, found_none}
use Rattle.pic_sets_winner.proofs.lowest.Goals as goal

pub returns-in_err-x : goal.returns-in_err-x
returns-in_err-x c =
    let h : Empty c.args.set 8 = search rules in
    ap number_or_256 c.from_residual.ensures ∙ found_none c.args.set h

-- The first word that is not 0 has a lowest bit.
pub returns : goal.returns
returns c =
    let x = c.in_ok-x.x in
    let w = get_or c.args.set x 0 in
    let within : x < 8 = search rules in
    let before : Empty c.args.set x = search rules in
    let some : w ≡ 0 → ⊥ = search rules in
    let f : Fits w32 w = search rules in
    let low : Lowest 32 w c.lowest_bit.result = rw c.lowest_bit.ensures (lowest-is w (omega (arith, some)) f.fits) in
    found_at c.args.set x c.lowest_bit.result within before low
