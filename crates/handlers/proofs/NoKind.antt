-- A kind that there is not, by the rule of an event by its kind.
use Prim.Native.Nat.{ℕ, ◌<◌}
use mathlib.Core.Path.{◌≡◌, refl}
use mathlib.Core.Bool.{false}
use native.Mathlib.Omega.{arith}
use borrow.Author.Tests.{ne_eqb, ltb-false}
use lib.Dec.{eqb}
use Rattle.event.specs.Event.{is_kind, no_kind}
use Rattle.handlers.specs.declared.Machine.{Machine}
use Rattle.handlers.specs.Service.{refused, event_of}

-- It is refused with 6 there too.
pub no-kind-refused : (m : Machine) (k address value : ℕ) → is_kind k ≡ false → event_of m k address value ≡ refused m 6
unfolding event_of
no-kind-refused m k address value e =
    let no : (i : ℕ) → i < no_kind → eqb k i ≡ false = λ i small. ne_eqb k i (λ same. omega (arith, same, small, ltb-false k no_kind e)) in
    rw (
      no 0 (omega arith),
      no 1 (omega arith),
      no 2 (omega arith),
      no 3 (omega arith),
      no 4 (omega arith),
      no 5 (omega arith),
      no 6 (omega arith),
      no 7 (omega arith),
      no 8 (omega arith),
      no 9 (omega arith),
      no 10 (omega arith),
      no 11 (omega arith),
      no 12 (omega arith),
      no 13 (omega arith),
    )
    refl
