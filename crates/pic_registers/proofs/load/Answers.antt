use Rattle.std.proofs.Common.{◌≡◌, true, Option, sym, subst}
use Rattle.questions.specs.Numbers.{number_in}
use Rattle.questions.proofs.Numbers.{never_0}
use Rattle.pic_registers.specs.declared.Register.{Register}
use Rattle.pic_registers.specs.Offsets.{is_register}
use Rattle.pic_registers.specs.Registers.{read_of}
use Rattle.pic_registers.specs.Calls.{load_of}
use Rattle.pic_registers.proofs.Offsets.{register-valid}
use Rattle.pic_registers.proofs.load.Goals as goal
use Rattle.pic_registers.proofs.load.Goals.{in-Some, in-None}

pub returns-in-Err : goal.returns-in-Err
unfolding load_of number_in
returns-in-Err c = rw (← c.in-Err.ensures, never_0 c.in-Err.q) c.refuse_for.ensures

pub read-a-requires : goal.read-a-requires
read-a-requires c =
    subst (λ (r : Option Register). is_register c.args.c.sources r ≡ true) (sym c.in-Some.ensures) (register-valid _ _)

pub returns : goal.returns
unfolding load_of number_in read_of
returns c =
    rw (← c.in_default.ensures, c.accept.ensures)
    (elim c.match-register_at.branch [
      | in-Some w ↦ rw (w.a-is, ← w.in-Some.ensures, w.read-a.ensures)
      | in-None w ↦ rw (w.a-is, ← w.in-None.ensures)
    ])
