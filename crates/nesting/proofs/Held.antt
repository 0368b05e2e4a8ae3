-- A stack held in the first places of an array: what a push, a store over the uppermost, a mark and a pop do to it, in the form of the laws.
use Prim.Native.Nat.{ℕ, suc, ◌+◌, ◌-◌, ◌≤◌, ◌<◌}
use mathlib.Core.Path.{◌≡◌, sym, ap, ◌∙◌}
use mathlib.Core.List.{List, [], ◌∷◌, ◌++◌}
use native.Mathlib.Omega.{arith}
use native.Mathlib.Numerals.{add-one}
use lib.ListN.{length, take, set, get_or, length-map}
use lib.Seq.{take-suc, take-suc-set, length-take-le}
use Rattle.nesting.specs.Held.{held}
use Rattle.nesting.proofs.Lists.{map_snoc, length-snoc}

-- The last elements of equal lists are equal.
pub last-equal : {A : Type 0} (s t : List A) (a b : A) → s ++ (a ∷ []) ≡ t ++ (b ∷ []) → a ≡ b
last-equal [] [] a b e = cc
last-equal [] (y ∷ []) a b e = absurd (let z : ◌≡◌ {A = ℕ} 0 1 = cc in omega arith)
last-equal [] (y ∷ z ∷ t) a b e = absurd (let z : ◌≡◌ {A = ℕ} 0 1 = cc in omega arith)
last-equal (x ∷ []) [] a b e = absurd (let z : ◌≡◌ {A = ℕ} 0 1 = cc in omega arith)
last-equal (x ∷ y ∷ s) [] a b e = absurd (let z : ◌≡◌ {A = ℕ} 0 1 = cc in omega arith)
last-equal (x ∷ s) (y ∷ t) a b e = last-equal s t a b (cc)

module _ {A B : Type 0} (view : A → B) (l : List A) (depth : ℕ) where
  -- A push: a store at the depth, and one more.
  pub held-push : (h : A) → depth < length l → held view (set l depth h) (depth + 1) ≡ held view l depth ++ (view h ∷ [])
  held-push h b = rw (add-one, take-suc-set l depth h b) (map_snoc view (take depth l) h)

  -- A pop: with one less, the uppermost is gone.
  pub held-pop : (z : A) → 0 < depth → depth ≤ length l → held view l depth ≡ held view l (depth - 1) ++ (view (get_or l (depth - 1) z) ∷ [])
  held-pop z a b =
      let e : depth ≡ suc (depth - 1) = omega arith in
      ap (held view l) e ∙ rw (take-suc l (depth - 1) z (omega arith)) (map_snoc view (take (depth - 1) l) (get_or l (depth - 1) z))

  -- A store over the uppermost: it is replaced.
  pub held-swap : (h : A) → 0 < depth → depth ≤ length l → held view (set l (depth - 1) h) depth ≡ held view l (depth - 1) ++ (view h ∷ [])
  held-swap h a b =
      let e : depth ≡ suc (depth - 1) = omega arith in
      ap (held view (set l (depth - 1) h)) e ∙ rw (take-suc-set l (depth - 1) h (omega arith)) (map_snoc view (take (depth - 1) l) h)

  -- A mark: a store over the uppermost that the view does not see.
  pub held-mark : (h z : A) → 0 < depth → depth ≤ length l → view h ≡ view (get_or l (depth - 1) z)
      → held view (set l (depth - 1) h) depth ≡ held view l depth
  held-mark h z a b e = held-swap h a b ∙ ap (λ k. held view l (depth - 1) ++ (k ∷ [])) e ∙ sym (held-pop z a b)

  -- As many handlers are open as the depth says.
  pub held-length : depth ≤ length l → length (held view l depth) ≡ depth
  held-length b = length-map (take depth l) view ∙ length-take-le depth l b

  -- The uppermost handler, however the stack is split.
  pub held-top : (z : A) (rest : List B) (top : B) → depth ≤ length l → held view l depth ≡ rest ++ (top ∷ [])
      → (0 < depth) × (top ≡ view (get_or l (depth - 1) z))
  held-top z rest top b e =
      let a : 0 < depth = omega (arith, sym (held-length b) ∙ ap length e ∙ length-snoc rest top) in
      (a, last-equal rest (held view l (depth - 1)) top (view (get_or l (depth - 1) z)) (sym e ∙ held-pop z a b))
