-- What the code's questions show, in the words of the rules.
use Prim.Native.Nat.{ℕ, ◌≤◌, ◌<◌}
use mathlib.Core.Path.{◌≡◌}
use mathlib.Core.Bool.{true, ◌&&◌}
use lib.Dec.{leb, ltb}
use borrow.Author.Tests.{leb-true, ltb-true}
use Rattle.std.proofs.lemmas.Bool.{and_parts}

-- An address from one number up to another.
pub in-range : (l a h : ℕ) → leb l a && ltb a h ≡ true → (l ≤ a) × (a < h)
in-range l a h e = let p = and_parts (leb l a) (ltb a h) e in (leb-true l a p.0, ltb-true a h p.1)
