-- What stands at each place of a table, and rows of which one word is anew.
use Prim.Native.Nat.{ℕ, zero, suc, ◌+◌, ◌/◌, ◌%◌, ◌<◌, ◌≤◌}
use mathlib.Core.Path.{◌≡◌, refl, sym, ap, ◌∙◌}
use mathlib.Core.List.{List}
use mathlib.Core.Logic.{◌⊎◌, inl, inr}
use native.Mathlib.Omega.{arith}
use lib.ListN.{length, get_or, set, length-set}
use lib.Seq.{get_or-set_same, get_or-set_other, ext_get_or}
use Rattle.std.proofs.lemmas.Bool.{cases_eq}
use Rattle.pic_bits.specs.Bits.{bit_of, member_of}
use Rattle.pic_bits.specs.Tables.{table_of, TableAt}

pub table-length : {A : Type 0} (n : ℕ) (f : ℕ → A) → length (table_of n f) ≡ n
unfolding table_of
table-length zero f = refl
table-length (suc n) f = ap suc (table-length n (λ (i : ℕ). f (suc i)))

pub table_at : TableAt
unfolding table_of
table_at A d zero f i h = absurd (omega arith)
table_at A d (suc n) f zero h = refl
table_at A d (suc n) f (suc i) h = table_at A d n (λ (j : ℕ). f (suc j)) i (omega arith)

-- Beyond its end a table has nothing.
pub table-out : {A : Type 0} (d : A) (n : ℕ) (f : ℕ → A) (i : ℕ) → n ≤ i → get_or (table_of n f) i d ≡ d
unfolding table_of
table-out d zero f i h = refl
table-out d (suc n) f zero h = absurd (omega arith)
table-out d (suc n) f (suc i) h = table-out d n (λ (j : ℕ). f (suc j)) i (omega arith)

module _ {A : Type 0} (d : A) (n : ℕ) where
  -- An array is the table of what stands at its places.
  pub table_is : (f : ℕ → A) (l : List A) → length l ≡ n → ((i : ℕ) → i < n → get_or l i d ≡ f i) → l ≡ table_of n f
  table_is f l e h =
      ext_get_or d l (table_of n f) (e ∙ sym (table-length n f)) (λ i k. let b : i < n = omega (arith, k, e) in h i b ∙ sym (table_at A d n f i b))

  pub table_same : (f g : ℕ → A) → ((i : ℕ) → i < n → f i ≡ g i) → table_of n f ≡ table_of n g
  table_same f g h = table_is g (table_of n f) (table-length n f) (λ i l. table_at A d n f i l ∙ h i l)

  pub table-set : (f g : ℕ → A) (s : ℕ) (v : A) → s < n → f s ≡ v → ((i : ℕ) → i < n → (i ≡ s → ⊥) → f i ≡ g i) → table_of n f ≡ set (table_of n g) s v
  table-set f g s v b e h =
      sym (table_is f (set (table_of n g) s v) (length-set (table_of n g) s v ∙ table-length n g) (λ i l. go i l (cases_eq i s)))
    where
      go : (i : ℕ) → i < n → (i ≡ s) ⊎ (i ≡ s → ⊥) → get_or (set (table_of n g) s v) i d ≡ f i
      go i k (inl p) = rw p (get_or-set_same (table_of n g) s v d (omega (arith, b, table-length n g)) ∙ sym e)
      go i k (inr z) = get_or-set_other (table_of n g) s i v d z ∙ table_at A d n g i k ∙ sym (h i k z)

  -- An array that is filled from the front: its first k places hold what the table has there.
  pub record Filled (f : ℕ → A) (l : List A) (k : ℕ) : Type 0 where
    pub long : length l ≡ n
    pub done : (i : ℕ) → i < k → get_or l i d ≡ f i

  pub fill_none : (f : ℕ → A) (l : List A) → length l ≡ n → Filled f l 0
  fill_none f l e = record { long = e; done = λ i h. absurd (omega arith) }

  pub fill-next : (f : ℕ → A) (l : List A) (k : ℕ) (v : A) → k < n → v ≡ f k → Filled f l k → Filled f (set l k v) (k + 1)
  fill-next f l k v b e h = record { long = length-set l k v ∙ h.long; done = λ i c. go i c (cases_eq i k) }
    where
      go : (i : ℕ) → i < k + 1 → (i ≡ k) ⊎ (i ≡ k → ⊥) → get_or (set l k v) i d ≡ f i
      go i c (inl p) = rw p (get_or-set_same l k v d (omega (arith, b, h.long)) ∙ e)
      go i c (inr z) = get_or-set_other l k i v d z ∙ h.done i (omega (arith, c, z))

  pub fill-all : (f : ℕ → A) (l : List A) → Filled f l n → l ≡ table_of n f
  fill-all f l h = table_is f l h.long h.done

-- A bit of a row of which one word is anew.
pub member-in : (row : List ℕ) (x w s : ℕ) → x < length row → s / 32 ≡ x → member_of (set row x w) s ≡ bit_of w (s % 32)
member-in row x w s l e = ap (λ (v : ℕ). bit_of v (s % 32)) (ap (λ (i : ℕ). get_or (set row x w) i 0) e ∙ get_or-set_same row x w 0 l)

pub member-out : (row : List ℕ) (x w s : ℕ) → (s / 32 ≡ x → ⊥) → member_of (set row x w) s ≡ member_of row s
member-out row x w s n = ap (λ (v : ℕ). bit_of v (s % 32)) (get_or-set_other row x (s / 32) w 0 n)
