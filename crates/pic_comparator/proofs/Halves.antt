-- The balanced tree: its leaves, its sides, its comparators and its levels.
use Prim.Native.Nat.{ℕ, zero, suc, ◌+◌, ◌-◌, ◌*◌, ◌/◌, ◌^◌, ◌≤◌}
use mathlib.Core.Path.{◌≡◌, refl, sym}
use mathlib.Core.Bool.{Bool, true, false, cond}
use native.Mathlib.Nat.{pow-suc}
use native.Mathlib.Omega.{arith}
use lib.Dec.{ltb}
use lib.ListN.{length}
use Rattle.pic_comparator.specs.declared.Winner.{Winner}
use Rattle.pic_comparator.specs.Comparator.{no_winner, better_of}
use Rattle.pic_comparator.specs.Trees.{Tree, node, leaves, passing, numbers, halves_to, halves_of, Balanced, nothing, alone, both, comparators, levels, BalancedTree}
use Rattle.pic_comparator.proofs.Counting.{numbers-are, numbers-parts}

-- What is said of the balanced tree of the n sources from s on.
record Halves (s n : ℕ) (t : Tree) : Type 0 where
  over : leaves t ≡ numbers s n
  balanced : Balanced t
  comparators : comparators t ≡ n - 1
  levels : (k : ℕ) → n ≤ 2 ^ k → levels t ≤ k

-- Two such trees side by side, of m and of n sources.
module _ (s m n : ℕ) (l r : Tree) (p : 1 ≤ m) (q : 1 ≤ n) (c : m ≤ n + 1) (d : n ≤ m + 1) (hl : Halves s m l) (hr : Halves (s + m) n r) where
  count_left : length (leaves l) ≡ m
  count_left = rw hl.over (numbers-are s m).count

  count-right : length (leaves r) ≡ n
  count-right = rw hr.over (numbers-are (s + m) n).count

  deepest : (k : ℕ) → m + n ≤ 2 ^ k → levels (node l r) ≤ k
  unfolding levels
  deepest zero h = absurd (omega arith)
  deepest (suc j) h =
      let e : 2 ^ suc j ≡ 2 ^ j * 2 = pow-suc 2 j in
      go (ltb (levels l) (levels r)) (hl.levels j (omega (arith, e))) (hr.levels j (omega (arith, e)))
    where
      go : (x : Bool) → levels l ≤ j → levels r ≤ j → 1 + cond x (levels r) (levels l) ≤ suc j
      go true a b = omega arith
      go false a b = omega arith

  beside : Halves s (m + n) (node l r)
  unfolding leaves comparators
  beside =
      record {
        over = rw (hl.over, hr.over) (sym (numbers-parts s m n));
        balanced = both {l = l} {r = r} (rw (count_left, count-right) c) (rw (count_left, count-right) d) hl.balanced hr.balanced;
        comparators = omega (arith, hl.comparators, hr.comparators);
        levels = deepest;
      }

halves_are : (k s n : ℕ) → n ≤ k → Halves s n (halves_to k s n)
unfolding halves_to leaves numbers comparators levels
halves_are zero s zero h = record { over = refl; balanced = nothing; comparators = refl; levels = λ k i. omega arith }
halves_are zero s (suc n) h = absurd (omega arith)
halves_are (suc k) s zero h = record { over = refl; balanced = nothing; comparators = refl; levels = λ k i. omega arith }
halves_are (suc k) s (suc zero) h = record { over = refl; balanced = alone; comparators = refl; levels = λ k i. omega arith }
halves_are (suc k) s (suc (suc n)) h =
    split _ _ (omega arith) (omega arith) (omega arith) (omega arith) (omega arith) (halves_are k s _ (omega arith)) (halves_are k _ _ (omega arith))
  where
    split : (a b : ℕ) → a + b ≡ suc (suc n) → 1 ≤ a → 1 ≤ b → a ≤ b + 1 → b ≤ a + 1 → Halves s a (halves_to k s a) → Halves (s + a) b (halves_to k (s + a) b)
        → Halves s (suc (suc n)) (node (halves_to k s a) (halves_to k (s + a) b))
    split a b e p q c d hl hr = rw (← e) (beside s a b _ _ p q c d hl hr)

-- Any bound that is not below n gives the same tree.
enough : (j k s n : ℕ) → n ≤ j → n ≤ k → halves_to j s n ≡ halves_to k s n
unfolding halves_to
enough zero zero s zero h i = refl
enough zero (suc k) s zero h i = refl
enough (suc j) zero s zero h i = refl
enough (suc j) (suc k) s zero h i = refl
enough (suc j) (suc k) s (suc zero) h i = refl
enough (suc j) (suc k) s (suc (suc n)) h i =
    rw (enough j k s (suc (suc n) / 2) (omega arith) (omega arith), enough j k (s + suc (suc n) / 2) (suc (suc n) - suc (suc n) / 2) (omega arith) (omega arith))
enough zero k s (suc n) h i = absurd (omega arith)
enough (suc j) zero s (suc n) h i = absurd (omega arith)

-- One half beside the other.
pub halved : (s n : ℕ) → 2 ≤ n → halves_of s n ≡ node (halves_of s (n / 2)) (halves_of (s + n / 2) (n - n / 2))
unfolding halves_to
halved s zero h = absurd (omega arith)
halved s (suc zero) h = absurd (omega arith)
halved s (suc (suc n)) h =
    rw (
      enough (suc n) (suc (suc n) / 2) s (suc (suc n) / 2) (omega arith) (omega arith),
      enough (suc n) (suc (suc n) - suc (suc n) / 2) (s + suc (suc n) / 2) (suc (suc n) - suc (suc n) / 2) (omega arith) (omega arith),
    )

pub balanced-tree : (n : ℕ) → BalancedTree n
balanced-tree n =
    let h = halves_are n 1 n (omega arith) in record { over = h.over; balanced = h.balanced; comparators = h.comparators; levels = h.levels }

-- What passes at the root of it, by its number of sources.
module _ (enters : ℕ → Winner) (s n : ℕ) where
  pub passing-none : n ≡ 0 → no_winner ≡ passing enters (halves_of s n)
  unfolding passing halves_to
  passing-none e = rw e

  pub passing-one : n ≡ 1 → enters s ≡ passing enters (halves_of s n)
  unfolding passing halves_to
  passing-one e = rw e

  pub passing-two : 2 ≤ n → {a b w : Winner} → a ≡ passing enters (halves_of s (n / 2)) → b ≡ passing enters (halves_of (s + n / 2) (n - n / 2))
      → w ≡ better_of a b → w ≡ passing enters (halves_of s n)
  unfolding passing
  passing-two h ea eb ew = rw (halved s n h, ew, ea, eb)
