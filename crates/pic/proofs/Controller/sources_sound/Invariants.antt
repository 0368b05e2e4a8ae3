use Rattle.std.proofs.Common.{◌≡◌, ◌+◌, ◌-◌, ◌≤◌}
use Rattle.pic.specs.Sound.{sources_sound}
use Rattle.pic.proofs.Controller.sources_sound.Given as goal

abbrev pub invariant-loop-s : goal.invariant-loop-s
invariant-loop-s l = (l.s ≤ l.self.sources + 1) × (l.ok ≡ sources_sound l.self (l.s - 1))
