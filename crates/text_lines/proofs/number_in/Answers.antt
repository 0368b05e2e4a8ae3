use mathlib.Core.Path.{refl}
use Prim.Native.Nat.{◌<◌, ◌+◌, ◌*◌, ◌^◌}
use lib.ListN.{get_or}
use Rattle.std.proofs.Common.{rules}
use Rattle.text_lines.proofs.Digits.{digit-below, digit-none, found_turn, found-stop, found-end, one_more-fits, digit-fits}
use Rattle.text_lines.proofs.number_in.Goals as goal
use Rattle.text_lines.proofs.number_in.Goals.{In_ok-digit}

pub returns-in_err-digit : goal.returns-in_err-digit
returns-in_err-digit c =
    let inv = c.loop-byte.invariant in
    let byte = get_or c.args.text.now c.loop-byte.byte-index 0 in
    rw c.from_residual.ensures (found-stop _ _ _ _ c.loop-byte-test.true refl (digit-none c.args.base byte inv.base c.in_err-digit.ensures.value) inv.found)

-- One more digit fits.
fits : (c : In_ok-digit) → c.loop-byte.value * c.args.base + c.in_ok-digit.digit < 2 ^ 32
fits c =
    let inv = c.loop-byte.invariant in
    let byte = get_or c.args.text.now c.loop-byte.byte-index 0 in
    let told = c.in_ok-digit.ensures.value in
    let few : c.loop-byte.byte-index < 8 = search rules in
    digit-fits c.args.base _ _ _ inv.base inv.fits (digit-below c.args.base byte inv.base told.0 told.1).1 few

pub overflow_mul-value : goal.overflow_mul-value
overflow_mul-value c = let h = fits c in search rules

pub overflow_add-value : goal.overflow_add-value
overflow_add-value c = record { fits = fits c }

pub loop-byte-preserved : goal.loop-byte-preserved
loop-byte-preserved c =
    let inv = c.loop-byte.invariant in
    let byte = get_or c.args.text.now c.loop-byte.byte-index 0 in
    let told = c.in_ok-digit.ensures.value in
    let digit = digit-below c.args.base byte inv.base told.0 told.1 in
    record {
      base = inv.base;
      few = inv.few;
      fits = one_more-fits _ _ _ _ inv.base inv.fits digit.1;
      found = found_turn _ _ _ _ c.loop-byte-test.true digit.0 digit.1 inv.found;
    }

pub returns : goal.returns
returns c = found-end _ _ _ _ c.loop-byte-test.false c.loop-byte.invariant.found
