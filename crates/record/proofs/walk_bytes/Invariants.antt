use Prim.Native.Nat.{◌≤◌, ◌-◌, ◌+◌}
use mathlib.Core.Path.{◌≡◌}
use lib.ListN.{length, drop}
use Rattle.event.specs.Event.{shape_of}
use Rattle.record.specs.Record.{words_from, length_of}
use Rattle.record.specs.Questions.{walk, walk_from}
use Rattle.record.proofs.walk_bytes.Given as goal

abbrev pub invariant-loop-i : goal.invariant-loop-i
invariant-loop-i l =
    (length l.bytes ≡ length_of l.n)
    × (l.i ≤ l.n)
    × (walk shape_of (words_from l.bytes 2 l.n) (words_from l.bytes (2 + l.n) l.n) ≡ walk_from shape_of l.i (drop l.i (words_from l.bytes 2 l.n)) (drop l.i (words_from l.bytes (2 + l.n) l.n)))

abbrev pub decreases-loop-i : goal.decreases-loop-i
decreases-loop-i l = l.n - l.i
