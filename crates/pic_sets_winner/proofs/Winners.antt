-- One turn of the loop over the sets, and the sentence about the highest set.
use Prim.Native.Nat.{ℕ, zero, suc, ◌-◌, ◌<◌, ◌≤◌}
use mathlib.Core.Path.{◌≡◌, refl, ap, ◌∙◌}
use mathlib.Core.Bool.{Bool, true, false, cond}
use mathlib.Core.List.{List, []}
use mathlib.Core.Logic.{◌⊎◌, inl, inr, ⊎_elim}
use native.Mathlib.Omega.{arith}
use lib.ListN.{get_or}
use borrow.Author.Tests.{eqb-true, eqb-false}
use Rattle.pic_source.specs.Ranks.{rank}
use Rattle.std.proofs.lemmas.Bool.{cases_eq}
use Rattle.pic_comparator.specs.declared.Winner.{Winner}
use Rattle.pic_bits.specs.Bits.{is_member}
use Rattle.pic_sets_winner.specs.Highest.{lowest_of, is_empty, highest_to, ReadFrom, NothingIn, HighestIs}
use Rattle.pic_sets_winner.proofs.Firsts.{first}

module _ (sets : List (List ℕ)) where
  abbrev set : ℕ → List ℕ
  set r = get_or sets r []

  pub pass : (r : ℕ) → 0 < r → is_empty (set r) ≡ true → highest_to sets (r - 1) ≡ highest_to sets r
  unfolding highest_to
  pass zero l e = absurd (omega arith)
  pass (suc r) l e = let p : suc r - 1 ≡ r = omega arith in rw (e, p)

  pub stop : (r s : ℕ) → 0 < r → is_empty (set r) ≡ false → s ≡ lowest_of (set r) → ◌≡◌ {A = Winner} (record { source = s; rank = rank r }) (highest_to sets r)
  unfolding highest_to
  stop zero s l e p = absurd (omega arith)
  stop (suc r) s l e p = rw (e, p)

  pub fits : (r : ℕ) → is_empty (set r) ≡ false → lowest_of (set r) < 256
  fits r e = let n = eqb-false (lowest_of (set r)) 256 e in let f = (first (is_member (set r)) 256 0).most in omega (arith, n, f)

  -- No number is in an empty set.
  empty-none : (r s : ℕ) → is_empty (set r) ≡ true → s < 256 → is_member (set r) s ≡ false
  empty-none r s e l = (first (is_member (set r)) 256 0).before s (omega arith) (omega (arith, l, eqb-true (lowest_of (set r)) 256 e))

  -- The sets above r are empty.
  abbrev Above : ℕ → Type 0
  Above r = (q s : ℕ) → r < q → q ≤ 15 → s < 256 → is_member (set q) s ≡ false

  above_more : (r : ℕ) → is_empty (set (suc r)) ≡ true → Above (suc r) → Above r
  above_more r e h q s a b l = ⊎_elim (λ p. ap (λ (i : ℕ). is_member (set i) s) p ∙ empty-none (suc r) s e l) (λ n. h q s (omega (arith, a, n)) b l) (cases_eq q (suc r))

  found : (r : ℕ) → suc r ≤ 15 → Above (suc r) → is_empty (set (suc r)) ≡ false → ReadFrom sets (record { source = lowest_of (set (suc r)); rank = rank (suc r) })
  found r l h e =
      let f = first (is_member (set (suc r))) 256 0 in
      let k = fits (suc r) e in
      record {
        above = omega arith;
        most = l;
        number = k;
        member = f.found (omega (arith, k));
        lowest = λ s b. f.before s (omega arith) b;
        highest = h;
      }

  to_is : (r : ℕ) → r ≤ 15 → Above r → ReadFrom sets (highest_to sets r) ⊎ NothingIn sets (highest_to sets r)
  unfolding highest_to
  to_is zero l h = inr (record { none = λ q s a b k. h q s (omega arith) b k; is_none = refl })
  to_is (suc r) l h = go (is_empty (set (suc r))) refl (λ k. to_is r (omega arith) k)
    where
      go : (t : Bool) → is_empty (set (suc r)) ≡ t → (Above r → ReadFrom sets (highest_to sets r) ⊎ NothingIn sets (highest_to sets r))
          → ReadFrom sets (cond t (highest_to sets r) (record { source = lowest_of (set (suc r)); rank = rank (suc r) }))
          ⊎ NothingIn sets (cond t (highest_to sets r) (record { source = lowest_of (set (suc r)); rank = rank (suc r) }))
      go true e i = i (above_more r e h)
      go false e i = inl (found r l h e)

pub highest-is : HighestIs
highest-is sets = to_is sets 15 (omega arith) (λ q s a b l. absurd (omega arith))
