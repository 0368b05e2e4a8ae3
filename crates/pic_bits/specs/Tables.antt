-- Arrays by what stands at each place, and what the type of an array of arrays says.
use Rattle.std.specs.Prelude.{ℕ, zero, suc, ◌^◌, ◌<◌, ◌≡◌, List, [], ◌∷◌, length, get_or}

-- The array of n places with f i at place i. `TableAt` says so.
unfoldable pub table_of : {A : Type 0} → ℕ → (ℕ → A) → List A
table_of zero f = []
table_of (suc n) f = f 0 ∷ table_of n (λ (i : ℕ). f (suc i))

abbrev pub TableAt : Type 1
TableAt = (A : Type 0) (d : A) (n : ℕ) (f : ℕ → A) (i : ℕ) → i < n → get_or (table_of n f) i d ≡ f i

-- m rows of eight words.
pub record Shaped (m : ℕ) (b : List (List ℕ)) : Type 0 where
  pub many : length b ≡ m
  pub rows : (i : ℕ) → i < m → length (get_or b i []) ≡ 8
  pub words : (i k : ℕ) → get_or (get_or b i []) k 0 < 2 ^ 32
