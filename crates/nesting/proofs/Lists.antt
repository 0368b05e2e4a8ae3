-- Laws of the words about lists.
use Prim.Native.Nat.{ℕ, suc, ◌-◌, ◌≤◌, ◌<◌}
use mathlib.Core.Path.{◌≡◌, refl, sym, ap, ◌∙◌}
use mathlib.Core.Bool.{Bool, true, false}
use mathlib.Core.Logic.{◌⊎◌, inl, inr, ◌↔◌}
use mathlib.Core.List.{List, [], ◌∷◌, ◌++◌, map, drop_last}
use native.Mathlib.Omega.{arith}
use lib.ListN.{length}
use Rattle.nesting.specs.Lists.{Member, All, Rising, Match, add_if}

pub map_snoc : {A B : Type 0} (f : A → B) (l : List A) (a : A) → map f (l ++ (a ∷ [])) ≡ map f l ++ (f a ∷ [])
map_snoc f [] a = refl
map_snoc f (x ∷ l) a = ap (f x ∷◌) (map_snoc f l a)

pub length-snoc : {A : Type 0} (l : List A) (a : A) → length (l ++ (a ∷ [])) ≡ suc (length l)
length-snoc [] a = refl
length-snoc (x ∷ l) a = ap suc (length-snoc l a)

pub nil-of-length : {A : Type 0} (l : List A) → length l ≡ 0 → l ≡ []
nil-of-length [] e = refl
nil-of-length (a ∷ l) e = absurd (omega arith)

-- A list is empty or has a last element.
abbrev pub Ended : {A : Type 0} → List A → Type 0
Ended {A} l = (l ≡ []) ⊎ ((s : List A) × (g : A) × (l ≡ s ++ (g ∷ [])))

pub ended : {A : Type 0} (l : List A) → Ended l
ended [] = inl refl
ended (a ∷ l) = go (ended l)
  where
    go : Ended l → Ended (a ∷ l)
    go (inl e) = inr ([], a, ap (a ∷◌) e)
    go (inr w) = inr (a ∷ w.0, w.1, ap (a ∷◌) w.2)

module _ {A : Type 0} where
  pub all_snoc : (Q : A → Type 0) (l : List A) (a : A) → All Q l → Q a → All Q (l ++ (a ∷ []))
  all_snoc Q [] a h q = (q, tt)
  all_snoc Q (x ∷ l) a h q = (h.0, all_snoc Q l a h.1 q)

  pub all_drop : (Q : A → Type 0) (l : List A) (a : A) → All Q (l ++ (a ∷ [])) → All Q l
  all_drop Q [] a h = tt
  all_drop Q (x ∷ l) a h = (h.0, all_drop Q l a h.1)

  pub all-last : (Q : A → Type 0) (l : List A) (a : A) → All Q (l ++ (a ∷ [])) → Q a
  all-last Q [] a h = h.0
  all-last Q (x ∷ l) a h = all-last Q l a h.1

  pub all_both : (Q R S : A → Type 0) → ((a : A) → Q a → R a → S a) → (l : List A) → All Q l → All R l → All S l
  all_both Q R S k [] h g = tt
  all_both Q R S k (x ∷ l) h g = (k x h.0 g.0, all_both Q R S k l h.1 g.1)

  pub all-of-members : (Q : A → Type 0) (l : List A) → ((a : A) → Member a l → Q a) → All Q l
  all-of-members Q [] k = tt
  all-of-members Q (x ∷ l) k = (k x (inl refl), all-of-members Q l (λ a h. k a (inr h)))

  pub all-at : (Q : A → Type 0) (l : List A) (a : A) → All Q l → Member a l → Q a
  all-at Q [] a h m = absurd m
  all-at Q (x ∷ l) a h (inl e) = rw e h.0
  all-at Q (x ∷ l) a h (inr m) = all-at Q l a h.1 m

  pub rising_snoc : (Q : A → A → Type 0) (l : List A) (a : A) → Rising Q l → All (λ x. Q x a) l → Rising Q (l ++ (a ∷ []))
  rising_snoc Q [] a h g = (tt, tt)
  rising_snoc Q (x ∷ l) a h g = (all_snoc (Q x) l a h.0 g.0, rising_snoc Q l a h.1 g.1)

  pub rising-drop : (Q : A → A → Type 0) (l : List A) (a : A) → Rising Q (l ++ (a ∷ [])) → Rising Q l
  rising-drop Q [] a h = tt
  rising-drop Q (x ∷ l) a h = (all_drop (Q x) l a h.0, rising-drop Q l a h.1)

  -- What is above the last of a rising list is above them all.
  pub above-all : (Q : A → A → Type 0) → ((a b c : A) → Q a b → Q b c → Q a c) → (l : List A) (g r : A)
      → Rising Q (l ++ (g ∷ [])) → Q g r → All (λ a. Q a r) (l ++ (g ∷ []))
  above-all Q trans [] g r h q = (q, tt)
  above-all Q trans (x ∷ l) g r h q = (trans x g r (all-last (Q x) l g h.0) q, above-all Q trans l g r h.1 q)

  pub member-last : (l : List A) (a : A) → Member a (l ++ (a ∷ []))
  member-last [] a = inl refl
  member-last (x ∷ l) a = inr (member-last l a)

  pub member-add : (b : Bool) (x : A) (l : List A) (a : A) → Member a l → Member a (add_if b x l)
  member-add true x l a m = inr m
  member-add false x l a m = m

  -- A rising list with the same members as another is that one.
  pub rising-unique : (Q : A → A → Type 0) → ((a b : A) → Q a b → Q b a → ⊥) → (l m : List A)
      → Rising Q l → Rising Q m → ((a : A) → Member a l ↔ Member a m) → l ≡ m
  rising-unique Q asym [] [] h g k = refl
  rising-unique Q asym [] (b ∷ m) h g k = absurd ((k b).1 (inl refl))
  rising-unique Q asym (a ∷ l) [] h g k = absurd ((k a).0 (inl refl))
  rising-unique Q asym (a ∷ l) (b ∷ m) h g k =
      join heads (rising-unique Q asym l m h.1 g.1 (λ c. (there c, back c)))
    where
      heads : a ≡ b
      heads = go ((k a).0 (inl refl)) ((k b).1 (inl refl))
        where
          go : (a ≡ b) ⊎ Member a m → (b ≡ a) ⊎ Member b l → a ≡ b
          go (inl e) q = e
          go (inr p) (inl e) = sym e
          go (inr p) (inr q) = absurd (asym a b (all-at (Q a) l b h.0 q) (all-at (Q b) m a g.0 p))

      there : (c : A) → Member c l → Member c m
      there c p = go ((k c).0 (inr p))
        where
          go : (c ≡ b) ⊎ Member c m → Member c m
          go (inl e) = let q : Q a a = rw (e ∙ sym heads) at (all-at (Q a) l c h.0 p) in absurd (asym a a q q)
          go (inr q) = q

      back : (c : A) → Member c m → Member c l
      back c p = go ((k c).1 (inr p))
        where
          go : (c ≡ a) ⊎ Member c l → Member c l
          go (inl e) = let q : Q b b = rw (e ∙ heads) at (all-at (Q b) m c g.0 p) in absurd (asym b b q q)
          go (inr q) = q

      join : a ≡ b → l ≡ m → a ∷ l ≡ b ∷ m
      join p q = cc

module _ {A B : Type 0} (Q : A → B → Type 0) where
  pub match-nil : (l : List A) (a : A) → Match Q (l ++ (a ∷ [])) [] → ⊥
  match-nil [] a h = h
  match-nil (x ∷ l) a h = h

  pub match-map : (f : B → B) → ((a : A) (b : B) → Q a b → Q a (f b)) → (l : List A) (r : List B) → Match Q l r → Match Q l (map f r)
  match-map f k [] [] h = tt
  match-map f k [] (b ∷ r) h = h
  match-map f k (a ∷ l) [] h = h
  match-map f k (a ∷ l) (b ∷ r) h = (k a b h.0, match-map f k l r h.1)

  pub match-snoc : (l : List A) (r : List B) (a : A) (b : B) → Match Q l r → Q a b → Match Q (l ++ (a ∷ [])) (r ++ (b ∷ []))
  match-snoc [] [] a b h q = (q, tt)
  match-snoc [] (y ∷ r) a b h q = absurd h
  match-snoc (x ∷ l) [] a b h q = absurd h
  match-snoc (x ∷ l) (y ∷ r) a b h q = (h.0, match-snoc l r a b h.1 q)

  pub match-drop : (l : List A) (a : A) (r : List B) → Match Q (l ++ (a ∷ [])) r → Match Q l (drop_last r)
  match-drop [] a [] h = tt
  match-drop [] a (b ∷ []) h = tt
  match-drop [] a (b ∷ c ∷ r) h = absurd h.1
  match-drop (x ∷ l) a [] h = h
  match-drop (x ∷ l) a (b ∷ []) h = absurd (match-nil l a h.1)
  match-drop (x ∷ l) a (b ∷ c ∷ r) h = (h.0, match-drop l a (c ∷ r) h.1)

  pub match-last : (l : List A) (a : A) (r : List B) (b : B) → Match Q (l ++ (a ∷ [])) (r ++ (b ∷ [])) → Q a b
  match-last [] a [] b h = h.0
  match-last [] a (y ∷ []) b h = absurd h.1
  match-last [] a (y ∷ z ∷ r) b h = absurd h.1
  match-last (x ∷ []) a [] b h = absurd h.1
  match-last (x ∷ w ∷ l) a [] b h = absurd h.1
  match-last (x ∷ l) a (y ∷ r) b h = match-last l a r b h.1

-- Lists that match stay so for what follows from the relation.
pub match-weaken : {A B : Type 0} (Q R : A → B → Type 0) → ((a : A) (b : B) → Q a b → R a b)
    → (l : List A) (r : List B) → Match Q l r → Match R l r
match-weaken Q R k [] [] h = tt
match-weaken Q R k [] (b ∷ r) h = h
match-weaken Q R k (a ∷ l) [] h = h
match-weaken Q R k (a ∷ l) (b ∷ r) h = (k a b h.0, match-weaken Q R k l r h.1)

-- A rising list of heights from `k` to `n` is no longer than these are many.
pub rising-length : {A : Type 0} (Q : A → A → Type 0) (f : A → ℕ) (n : ℕ)
    → ((a b : A) → (1 ≤ f a) × (f a ≤ n) → (1 ≤ f b) × (f b ≤ n) → Q a b → f a < f b)
    → (l : List A) (k : ℕ) → 1 ≤ k → Rising Q l → All (λ a. (k ≤ f a) × (f a ≤ n)) l → length l ≤ suc n - k
rising-length Q f n u [] k o h g = omega arith
rising-length Q f n u (a ∷ l) k o h g =
    let i = rising-length Q f n u l (suc k) (omega arith) h.1
    (all_both (Q a) (λ x. (k ≤ f x) × (f x ≤ n)) (λ x. (suc k ≤ f x) × (f x ≤ n))
    (λ x p q. let b = u a x (omega arith, g.0.1) (omega arith, q.1) p in omega arith) l h.0 g.1) in
    omega arith
