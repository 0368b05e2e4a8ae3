-- Document 01, "Four duties of every published call": places beyond what is stored stay as they were.
use Rattle.std.specs.Prelude.{ℕ, ◌≤◌, ◌≡◌, List, ◌++◌, length, take, drop}

-- What is lent is filled from its start; the places beyond stay as they were.
abbrev pub filled : List ℕ → List ℕ → List ℕ
filled new old = new ++ drop (length new) old

-- The buffer has n first bytes: what a caller that goes on with them needs to know.
abbrev pub HasFirst : ℕ → List ℕ → Type 0
HasFirst n buffer = (n ≤ length buffer) × (n ≡ length (take n buffer))
