-- The numbers of sources.
use Prim.Native.Nat.{ℕ, ◌≤◌}
use mathlib.Core.Path.{◌≡◌}
use mathlib.Core.Bool.{true}
use lib.Dec.{leb}
use borrow.Author.Tests.{leb-true}
use Rattle.pic_source.specs.Sources.{is_source}
use Rattle.std.proofs.lemmas.Bool.{and_parts}

-- What the test for a source says.
pub source-range : (n s : ℕ) → is_source n s ≡ true → (1 ≤ s) × (s ≤ n)
source-range n s e = let p = and_parts (leb 1 s) (leb s n) e in (leb-true 1 s p.0, leb-true s n p.1)
