-- What an array of arrays by value tells of its list, and that a store keeps it.
use Prim.Native.Nat.{ℕ, zero, suc, ◌^◌, ◌<◌, ◌≤◌}
use Prim.{tt}
use mathlib.Core.Path.{◌≡◌, sym, ap, ◌∙◌, subst}
use mathlib.Core.List.{List, [], ◌∷◌}
use mathlib.Core.Logic.{◌⊎◌, inl, inr}
use native.Mathlib.Omega.{arith}
use lib.ListN.{length, get_or, set, length-set}
use lib.Seq.{set_out, get_or-set_same, get_or-set_other}
use borrow.Author.Rules.{elem_Fits}
use mir.Syntax.{w32}
use mir.Val.{Val}
use denote.Array.{Array, each}
use denote.Plain.{UInt}
use denote.Shadow.{shadow}
use Rattle.std.proofs.lemmas.Bool.{cases_eq}
use Rattle.pic_source.proofs.Bools.{le-cases}
use Rattle.pic_bits.specs.Tables.{table_of, Shaped}
use Rattle.pic_bits.proofs.Tables.{table-length, table_at, table-out}

row-long : (xs : List (List ℕ)) (us : List Val) → shadow (each (List ℕ) (Array (UInt w32) 8).own_val xs us) → (i : ℕ) → i < length xs → length (get_or xs i []) ≡ 8
row-long [] us p i l = absurd (omega arith)
row-long (x ∷ xs) [] p i l = absurd p
row-long (x ∷ xs) (u ∷ us) p zero l = p.0.1.0.1
row-long (x ∷ xs) (u ∷ us) p (suc i) l = row-long xs us p.1 i (omega arith)

row_words : (xs : List (List ℕ)) (us : List Val) → shadow (each (List ℕ) (Array (UInt w32) 8).own_val xs us) → (i k : ℕ) → get_or (get_or xs i []) k 0 < 2 ^ 32
row_words [] us p i k = omega arith
row_words (x ∷ xs) [] p i k = absurd p
row_words (x ∷ xs) (u ∷ us) p zero k = (elem_Fits w32 w32 x p.0.0 k p.0.1.1 tt).fits
row_words (x ∷ xs) (u ∷ us) p (suc i) k = row_words xs us p.1 i k

pub shaped : (m : ℕ) (xs : List (List ℕ)) (vs : List Val) → shadow ((Array (Array (UInt w32) 8) m).own_val xs vs) → Shaped m xs
shaped m xs vs g =
    record {
      many = g.1.0.1;
      rows = λ i l. row-long xs g.0 g.1.1 i (subst (λ (k : ℕ). i < k) (sym g.1.0.1) l);
      words = λ i k. row_words xs g.0 g.1.1 i k;
    }

-- What is read after a store is what was stored, or what was there.
read-stored : {A : Type 0} (l : List A) (i : ℕ) (a : A) (j : ℕ) (d : A) → (get_or (set l i a) j d ≡ a) ⊎ (get_or (set l i a) j d ≡ get_or l j d)
read-stored l i a j d = go (cases_eq j i) (le-cases (length l) i)
  where
    go : (j ≡ i) ⊎ (j ≡ i → ⊥) → (length l ≤ i) ⊎ (i < length l) → (get_or (set l i a) j d ≡ a) ⊎ (get_or (set l i a) j d ≡ get_or l j d)
    go (inr n) k = inr (get_or-set_other l i j a d n)
    go (inl e) (inl k) = inr (rw (set_out l i a k))
    go (inl e) (inr k) = inl (rw e (get_or-set_same l i a d k))

-- A word stored: the shape stays.
pub store-shape : (m : ℕ) (b : List (List ℕ)) (r x v : ℕ) → Shaped m b → v < 2 ^ 32 → Shaped m (set b r (set (get_or b r []) x v))
store-shape m b r x v h k =
    record {
      many = length-set b r (set (get_or b r []) x v) ∙ h.many;
      rows = λ i l. row i l (cases_eq i r);
      words = λ i j. word i j (read-stored b r (set (get_or b r []) x v) i []) (read-stored (get_or b r []) x v j 0);
    }
  where
    new : List (List ℕ)
    new = set b r (set (get_or b r []) x v)

    row : (i : ℕ) → i < m → (i ≡ r) ⊎ (i ≡ r → ⊥) → length (get_or new i []) ≡ 8
    row i l (inl e) =
        rw (e, get_or-set_same b r (set (get_or b r []) x v) [] (omega (arith, h.many))) (length-set (get_or b r []) x v ∙ h.rows r (omega (arith, l, e)))
    row i l (inr d) = ap length (get_or-set_other b r i (set (get_or b r []) x v) [] d) ∙ h.rows i l

    word : (i j : ℕ) → (get_or new i [] ≡ set (get_or b r []) x v) ⊎ (get_or new i [] ≡ get_or b i [])
        → (get_or (set (get_or b r []) x v) j 0 ≡ v) ⊎ (get_or (set (get_or b r []) x v) j 0 ≡ get_or (get_or b r []) j 0) → get_or (get_or new i []) j 0 < 2 ^ 32
    word i j (inr e) f = rw e (h.words i j)
    word i j (inl e) (inl f) = rw (e, f) k
    word i j (inl e) (inr f) = rw (e, f) (h.words r j)

-- A table of rows of eight words.
pub table-shape : (m : ℕ) (f : ℕ → List ℕ) → ((i : ℕ) → i < m → length (f i) ≡ 8) → ((i k : ℕ) → i < m → get_or (f i) k 0 < 2 ^ 32) → Shaped m (table_of m f)
table-shape m f long word =
    record {
      many = table-length m f;
      rows = λ i l. ap length (table_at (List ℕ) [] m f i l) ∙ long i l;
      words = λ i k. at i k (le-cases m i);
    }
  where
    at : (i k : ℕ) → (m ≤ i) ⊎ (i < m) → get_or (get_or (table_of m f) i []) k 0 < 2 ^ 32
    at i k (inl l) = rw (table-out [] m f i l) (omega arith)
    at i k (inr l) = rw (table_at (List ℕ) [] m f i l) (word i k l)
