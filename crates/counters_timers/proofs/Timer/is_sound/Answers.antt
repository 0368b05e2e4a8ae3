use Rattle.counters_timers.proofs.Testing.{timer-tested}
use borrow.Author.Rules.{rules}
use Rattle.counters_timers.proofs.Timer.is_sound.Goals as goal

pub returns : goal.returns
returns c = timer-tested _ (search rules) (search rules)
