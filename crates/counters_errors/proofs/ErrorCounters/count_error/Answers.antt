use borrow.Author.Tests.{le-leb, lt-leb}
use Rattle.counters_errors.specs.Errors.{error_of}
use Rattle.counters_errors.proofs.ErrorCounters.count_error.Goals as goal

pub returns-then-address-gt2 : goal.returns-then-address-gt2
unfolding error_of
returns-then-address-gt2 c = rw (lt-leb _ 2 c.if-address-gt2.true, c.refuse_for.ensures)

pub returns : goal.returns
unfolding error_of
returns c = rw (le-leb _ 2 c.if-address-gt2.false, c.accept.ensures, c.selected_bit.ensures, c.with_counter.ensures, c.counted-next.ensures, c.counter-e.ensures)
