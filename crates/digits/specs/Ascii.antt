-- Words as bytes.
use Rattle.std.specs.Prelude.{ℕ, List}
use Prim.Native.String.{String, [], ◌∷◌}
use Prim.Native.Char.{code}
use mathlib.Core.List as list

-- The bytes of a text in ASCII.
unfoldable pub ascii : String → List ℕ
ascii [] = list.[]
ascii (c ∷ text) = list.◌∷◌ (code c) (ascii text)
