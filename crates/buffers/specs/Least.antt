-- How many places two buffers both have.
use Rattle.std.specs.Prelude.{ℕ, cond, ltb}

-- The lesser of two numbers.
unfoldable pub least : ℕ → ℕ → ℕ
least a b = cond (ltb b a) b a
