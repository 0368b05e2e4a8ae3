use Prim.Native.Nat.{◌≤◌, ◌<◌, ◌+◌, ◌*◌}
use mathlib.Core.Path.{◌≡◌}
use lib.ListN.{length, take}
use lib.Seq.{sets}
use Rattle.text_writer.specs.Writing.{listing_of}
use Rattle.text_writer.proofs.put_listing.Given as goal

abbrev pub invariant-loop-head : goal.invariant-loop-head
invariant-loop-head l = record {
  small : l.sources < 1000;
  room : 4 + 18 * length l.heads ≤ length l.fn.text;
  place : l.at ≡ 0 + length (listing_of l.sources (take (length l.yielded) l.heads) (take (length l.yielded) l.values));
  put : l.text ≡ sets l.fn.text 0 (listing_of l.sources (take (length l.yielded) l.heads) (take (length l.yielded) l.values));
}
