-- The lowest number of a set, and how it is found word by word.
use Prim.Native.Nat.{ℕ, zero, suc, ◌+◌, ◌*◌, ◌/◌, ◌%◌, ◌<◌, ◌≤◌}
use mathlib.Core.Path.{◌≡◌, refl, sym, ap, ◌∙◌}
use mathlib.Core.Bool.{Bool, true, false, cond}
use mathlib.Core.List.{List}
use mathlib.Core.Logic.{◌⊎◌, inl, inr, ⊎_elim}
use native.Mathlib.Omega.{arith}
use lib.ListN.{get_or}
use Rattle.std.proofs.lemmas.Bool.{cases_eq}
use Rattle.pic_source.proofs.Bools.{never, le-cases}
use Rattle.pic_bits.specs.Bits.{bit_of, is_member, member_of, Lowest}
use Rattle.pic_bits.proofs.Bits.{none-of-zero}
use Rattle.pic_sets_winner.specs.Highest.{lowest_from, lowest_of}

module _ (on : ℕ → Bool) where
  -- t is the first of the d numbers from s on for which on holds, or s + d.
  pub record First (d s t : ℕ) : Type 0 where
    pub least : s ≤ t
    pub most : t ≤ s + d
    pub found : t < s + d → on t ≡ true
    pub before : (u : ℕ) → s ≤ u → u < t → on u ≡ false

  pub first : (d s : ℕ) → First d s (lowest_from on d s)
  unfolding lowest_from
  first zero s = record { least = omega arith; most = omega arith; found = λ l. absurd (omega arith); before = λ u a b. absurd (omega arith) }
  first (suc d) s = go (on s) refl (first d (suc s))
    where
      go : (t : Bool) → on s ≡ t → First d (suc s) (lowest_from on d (suc s)) → First (suc d) s (cond t s (lowest_from on d (suc s)))
      go true e i = record { least = omega arith; most = omega arith; found = λ l. e; before = λ u a b. absurd (omega arith) }
      go false e i =
          record {
            least = omega (arith, i.least);
            most = omega (arith, i.most);
            found = λ l. i.found (omega (arith, l));
            before = λ u a b. ⊎_elim (λ p. ap on p ∙ e) (λ n. i.before u (omega (arith, a, n)) b) (cases_eq u s);
          }

  -- There is one such number.
  pub first-is : (d s t : ℕ) → First d s t → t ≡ lowest_from on d s
  first-is d s t f = go (le-cases t (lowest_from on d s)) (le-cases (lowest_from on d s) t)
    where
      clash : (a b : ℕ) → First d s a → First d s b → a < b → ⊥
      clash a b f g l = never (sym (g.before a f.least l) ∙ f.found (omega (arith, l, g.most)))

      go : (t ≤ lowest_from on d s) ⊎ (lowest_from on d s < t) → (lowest_from on d s ≤ t) ⊎ (t < lowest_from on d s) → t ≡ lowest_from on d s
      go (inl a) (inl b) = omega arith
      go (inl a) (inr b) = absurd (clash t (lowest_from on d s) f (first d s) b)
      go (inr a) q = absurd (clash (lowest_from on d s) t (first d s) f a)

-- The words before x are 0.
abbrev pub Empty : List ℕ → ℕ → Type 0
Empty set x = (k : ℕ) → k < x → get_or set k 0 ≡ 0

-- A number of a word that is 0 is in no set.
pub out-of-zero : (set : List ℕ) (s : ℕ) → get_or set (s / 32) 0 ≡ 0 → is_member set s ≡ false
out-of-zero set s e = let z : member_of set s ≡ 0 = ap (λ (w : ℕ). bit_of w (s % 32)) e ∙ none-of-zero (s % 32) in rw z

pub found_at : (set : List ℕ) (x t : ℕ) → x < 8 → Empty set x → Lowest 32 (get_or set x 0) t → 32 * x + t ≡ lowest_of set
found_at set x t lx h l =
    first-is (is_member set) 256 0 (32 * x + t)
    (record { least = omega arith; most = omega (arith, l.within); found = λ _. member l.within; before = λ s _ a. below s a (le-cases (32 * x) s) })
  where
    member : t < 32 → is_member set (32 * x + t) ≡ true
    member k =
        let a : (32 * x + t) / 32 ≡ x = omega arith in
        let b : (32 * x + t) % 32 ≡ t = omega arith in
        rw (a, b, l.on)

    below : (s : ℕ) → s < 32 * x + t → (32 * x ≤ s) ⊎ (s < 32 * x) → is_member set s ≡ false
    below s a (inl b) =
        let w = l.within in
        let i : s / 32 ≡ x = omega arith in
        rw (i, l.below (s % 32) (omega arith))
    below s a (inr b) = out-of-zero set s (h (s / 32) (omega arith))

pub found_none : (set : List ℕ) → Empty set 8 → 256 ≡ lowest_of set
found_none set h =
    first-is (is_member set) 256 0 256
    (record { least = omega arith; most = omega arith; found = λ l. absurd (omega arith); before = λ s _ a. out-of-zero set s (h (s / 32) (omega arith)) })
