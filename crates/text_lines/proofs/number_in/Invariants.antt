use Prim.Native.Nat.{◌≤◌, ◌<◌, ◌^◌}
use mathlib.Core.Path.{◌≡◌}
use lib.ListN.{length, drop}
use Rattle.text_lines.specs.Numbers.{number_in}
use Rattle.text_lines.proofs.Digits.{found_from}
use Rattle.text_lines.proofs.number_in.Given as goal

abbrev pub invariant-loop-byte : goal.invariant-loop-byte
invariant-loop-byte l = record {
  base : l.base ≤ 16;
  few : length l.text ≤ 8;
  fits : l.value < 16 ^ l.byte-index;
  found : number_in l.base l.most l.text ≡ found_from l.base l.value (drop l.byte-index l.text);
}
