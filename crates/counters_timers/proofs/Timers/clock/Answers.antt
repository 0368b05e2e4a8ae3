use Rattle.counters_timers.specs.Timers.{clock_of}
use Rattle.counters_timers.proofs.Testing.{signal-small}
use borrow.Author.Rules.{rules}
use Rattle.counters_timers.proofs.Timers.clock.Goals as goal

pub overflow_mul-result : goal.overflow_mul-result
overflow_mul-result c =
    let b = signal-small c.args.self.timer1 c.signal-b.ensures in
    search rules

pub overflow_add-result : goal.overflow_add-result
overflow_add-result c =
    let a = signal-small c.args.self.timer0 c.signal-a.ensures in
    let b = signal-small c.args.self.timer1 c.signal-b.ensures in
    search rules

pub returns : goal.returns
unfolding clock_of
returns c = rw (c.clock-self-2.ensures, c.clock-self.ensures, c.signal-b.ensures, c.signal-a.ensures)
