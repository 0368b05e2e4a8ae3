use mathlib.Core.Path.{◌≡◌}
use lib.ListN.{length, take}
use Rattle.buffers.specs.Filled.{filled}
use Rattle.handlers.specs.Machines.{power_on_of}
use Rattle.claims.specs.Play.{end_of, answers_of, refusals_of}
use Rattle.claims.proofs.Playing.{Fits}
use Rattle.claims.proofs.play_on.Given as goal

-- The machine and the two arrays are what i events leave.
abbrev pub invariant-loop-i : goal.invariant-loop-i
invariant-loop-i g l =
    Fits l.k (length l.heads) (length l.values) (length l.initial.answers) (length l.initial.refusals)
    × (length l.answers ≡ length l.initial.answers)
    × (length l.refusals ≡ length l.initial.refusals)
    × (g.P.Plays.machine l.m ≡ end_of (power_on_of l.n).machine (take l.i l.heads) (take l.i l.values))
    × (l.answers ≡ filled (answers_of (power_on_of l.n).machine (take l.i l.heads) (take l.i l.values)) l.initial.answers)
    × (l.refusals ≡ filled (refusals_of (power_on_of l.n).machine (take l.i l.heads) (take l.i l.values)) l.initial.refusals)
    × g.P.Plays.Ready l.m
