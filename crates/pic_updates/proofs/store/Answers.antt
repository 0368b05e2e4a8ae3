use Prim.Native.Nat.{◌≤◌}
use mathlib.Core.Path.{ap}
use Rattle.pic.specs.Outcome.{Outcome}
use Rattle.pic_updates.proofs.Follow.{store-follows, store-reverses}
use borrow.Author.Rules.{rules}
use Rattle.pic_updates.proofs.store.Goals as goal

pub returns-then-c-d : goal.returns-then-c-d
returns-then-c-d c =
    let a = c.args in
    let e = c.store-out.ensures in
    let l : a.c.sources ≤ 255 = search rules in
    record { value = e; sets_after = store-follows a.c a.sets.now a.offset a.v (ap (λ (r : Outcome). r.machine) e) l c.if-c-d.true c.follow_source.ensures }

pub returns-else-c-d : goal.returns-else-c-d
returns-else-c-d c =
    let a = c.args in
    let e = c.store-out.ensures in
    record { value = e; sets_after = store-reverses a.c a.sets.now a.offset a.v (ap (λ (r : Outcome). r.machine) e) c.if-c-d.false c.reverse.ensures }
