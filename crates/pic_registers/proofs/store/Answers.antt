use Rattle.questions.specs.Numbers.{number_in}
use Rattle.questions.proofs.Numbers.{never_0}
use Rattle.pic_registers.specs.Registers.{written_of}
use Rattle.pic_registers.specs.Calls.{store_of}
use Rattle.pic_registers.proofs.store.Goals as goal

pub returns-in-Err : goal.returns-in-Err
unfolding store_of number_in
returns-in-Err c = rw (← c.in-Err.ensures, never_0 c.in-Err.q) c.refuse_for.ensures

pub returns-in-Some : goal.returns-in-Some
unfolding store_of number_in
returns-in-Some c = rw (← c.in_default.ensures, ← c.in-Some.ensures, c.accept.ensures, c.write.ensures)

pub returns-in-None : goal.returns-in-None
unfolding store_of number_in written_of
returns-in-None c = rw (← c.in_default.ensures, ← c.in-None.ensures) c.accept-in-None.ensures
