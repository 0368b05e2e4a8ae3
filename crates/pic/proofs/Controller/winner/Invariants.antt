use Rattle.std.proofs.Common.{◌≡◌, ◌+◌, ◌-◌, ◌≤◌}
use Rattle.pic.specs.Sources.{winner_to}
use Rattle.pic.proofs.Controller.winner.Given as goal

abbrev pub invariant-loop-s : goal.invariant-loop-s
invariant-loop-s l = (l.s ≤ l.self.sources + 1) × (l.w ≡ winner_to l.self (l.s - 1))
