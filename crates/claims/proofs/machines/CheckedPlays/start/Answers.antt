use mathlib.Core.Path.{◌≡◌}
use Rattle.handlers.specs.Machines.{power_on_of}
use Rattle.handlers_laws.proofs.Kept.{power-on-sound}
use Rattle.handlers_laws.proofs.Checks.{start-machine, start-refusal}
use Rattle.claims.proofs.machines.CheckedPlays.start.Goals as goal

pub returns-clause-machine : goal.returns-clause-machine
returns-clause-machine c = rw c.start.ensures (start-machine c.args.n)

pub returns-clause-ready : goal.returns-clause-ready
returns-clause-ready c =
    let e : c.start.result.machine.machine ≡ (power_on_of c.args.n).machine = rw c.start.ensures (start-machine c.args.n) in
    rw e (power-on-sound c.args.n)

pub returns-clause-refusal : goal.returns-clause-refusal
returns-clause-refusal c = rw c.start.ensures (start-refusal c.args.n)
