-- The digits of a number, one after the other.
use Prim.Native.Nat.{ℕ, zero, suc, ◌+◌, ◌-◌, ◌/◌, ◌%◌, ◌≤◌, ◌<◌}
use native.Mathlib.Omega.{arith}
use native.Mathlib.Nat.{mod-lt, mod-eq_of_lt}
use borrow.Author.Tests.{ltb-true, lt-ltb, le-ltb, le-leb, lt-leb}
use native.Mathlib.Numerals.{sub-one, add-one}
use mathlib.Core.Path.{◌≡◌, refl, ap, ◌∙◌}
use mathlib.Core.Bool.{Bool, true, false, ◌&&◌, cond}
use mathlib.Core.Logic.{◌⊎◌, inl, inr}
use mathlib.Core.List.{List, [], ◌∷◌, ◌++◌}
use lib.ListN.{length, set, length-append}
use lib.Seq.{sets}
use lib.Dec.{ltb, leb}
use Rattle.std.proofs.lemmas.Bool.{and_right}
use Rattle.digits.specs.Digits.{glyph, digits_to, decimal}
use Rattle.digits.specs.Put.{put_at, place_after}
use Rattle.digits.proofs.Stores.{last-first, fitting, not-fitting}

-- No digits.
pub no_digit : (base least most n : ℕ) → most ≡ 0 → digits_to base least most n ≡ []
unfolding digits_to
no_digit base least most n e = rw e

-- A number below the base, of which one digit is enough.
pub one-digit : (base least most n : ℕ) → 0 < most → (ltb n base && leb least 1) ≡ true → digits_to base least most n ≡ glyph n ∷ []
unfolding digits_to
one-digit base least zero n h e = absurd (omega arith)
one-digit base least (suc most) n h e = rw e

pub one-decimal : (n : ℕ) → n < 10 → decimal n ≡ glyph n ∷ []
one-decimal n h = one-digit 10 1 20 n (omega arith) (rw (lt-ltb n 10 h))

-- Any other has the digits of its quotient before its last.
pub more-digits : (base least most n : ℕ) → 0 < most → (ltb n base && leb least 1) ≡ false
    → digits_to base least most n ≡ digits_to base (least - 1) (most - 1) (n / base) ++ glyph (n % base) ∷ []
unfolding digits_to
more-digits base least zero n h e = absurd (omega arith)
more-digits base least (suc most) n h e = rw (e, sub-one (suc most))

-- Where one is the most, there is one.
one_place : (base least n : ℕ) → length (digits_to base least 1 n) ≡ 1
unfolding digits_to
one_place base least n = by-case (ltb n base && leb least 1)
  where
    by-case : (b : Bool) → length (cond b (glyph n ∷ []) (glyph (n % base) ∷ [])) ≡ 1
    by-case true = refl
    by-case false = refl

-- At most so many.
pub digits-most : (base least most n : ℕ) → length (digits_to base least most n) ≤ most
unfolding digits_to
digits-most base least zero n = omega arith
digits-most base least (suc most) n = by-case (ltb n base && leb least 1) (digits-most base (least - 1) most (n / base))
  where
    by-case : (b : Bool) → length (digits_to base (least - 1) most (n / base)) ≤ most
        → length (cond b (glyph n ∷ []) (digits_to base (least - 1) most (n / base) ++ glyph (n % base) ∷ [])) ≤ suc most
    by-case true h = omega arith
    by-case false h = rw (length-append) (omega arith)

-- A decimal number has at most twenty.
pub number-length : (n : ℕ) → length (decimal n) ≤ 20
number-length n = digits-most 10 1 20 n

exact_one : (base n : ℕ) → digits_to base 1 1 n ≡ glyph (n % base) ∷ []
unfolding digits_to
exact_one base n = by-case (ltb n base) refl
  where
    by-case : (b : Bool) → ltb n base ≡ b → cond (b && true) (glyph n ∷ []) (glyph (n % base) ∷ []) ≡ glyph (n % base) ∷ []
    by-case true e = rw (mod-eq_of_lt (ltb-true n base e))
    by-case false e = refl

-- So many digits, no fewer and no more: those of the quotient before the last.
pub exact-more : (base k n : ℕ) → digits_to base (suc k) (suc k) n ≡ digits_to base k k (n / base) ++ glyph (n % base) ∷ []
exact-more base zero n = rw (exact_one base n, no_digit base 0 0 (n / base) refl)
exact-more base (suc k) n =
    let two : leb (suc (suc k)) 1 ≡ false = lt-leb (suc (suc k)) 1 (omega arith) in
    let more = more-digits base (suc (suc k)) (suc (suc k)) n (omega arith) (and_right (ltb n base) (leb (suc (suc k)) 1) two) in
    rw (more, sub-one (suc (suc k)))

pub exact-length : (base k n : ℕ) → length (digits_to base k k n) ≡ k
exact-length base zero n = rw (no_digit base 0 0 n refl)
exact-length base (suc k) n = rw (exact-more base k n, length-append) (omega (arith, exact-length base k (n / base)))

-- The digits of a number are so many, no fewer and no more.
pub exact : (base least most n : ℕ) → digits_to base least most n ≡ digits_to base (length (digits_to base least most n)) (length (digits_to base least most n)) n
unfolding digits_to
exact base least zero n = refl
exact base least (suc most) n = by-case (ltb n base) (leb least 1) refl (exact base (least - 1) most (n / base))
  where
    before : List ℕ
    before = digits_to base (least - 1) most (n / base)

    longer : before ≡ digits_to base (length before) (length before) (n / base)
        → before ++ glyph (n % base) ∷ [] ≡ digits_to base (length (before ++ glyph (n % base) ∷ [])) (length (before ++ glyph (n % base) ∷ [])) n
    longer e = rw (length-append before (glyph (n % base) ∷ []), add-one, exact-more base (length before) n, ← e)

    by-case : (x y : Bool) → ltb n base ≡ x → before ≡ digits_to base (length before) (length before) (n / base)
        → cond (x && y) (glyph n ∷ []) (before ++ glyph (n % base) ∷ [])
        ≡ digits_to base (length (cond (x && y) (glyph n ∷ []) (before ++ glyph (n % base) ∷ []))) (length (cond (x && y) (glyph n ∷ []) (before ++ glyph (n % base) ∷ []))) n
    by-case true true ex e = rw ex
    by-case true false ex e = longer e
    by-case false y ex e = longer e

-- Of n's digits k are counted, the first of left's with them.
abbrev pub Counted : ℕ → ℕ → ℕ → ℕ → ℕ → ℕ → Type 0
Counted base least most n k left =
    (0 < k) × (k ≤ most) × (length (digits_to base least most n) + 1 ≡ k + length (digits_to base (least + 1 - k) (most + 1 - k) left))

pub count-start : (base least most n : ℕ) → 0 < most → Counted base least most n 1 n
count-start base least most n h =
    let q : least + 1 - 1 ≡ least = omega arith in
    let r : most + 1 - 1 ≡ most = omega arith in
    (omega arith, h, rw (q, r) (omega arith))

-- One more, where left has more than the one.
pub count_turn : (base least most n k left : ℕ) → k < most → (left < base) × (k < least) ⊎ (base ≤ left) → Counted base least most n k left
    → Counted base least most n (k + 1) (left / base)
count_turn base least most n k left l more (p, m, e) =
    let g : (ltb left base && leb (least + 1 - k) 1) ≡ false = elim more [
      | inl h ↦ and_right (ltb left base) (leb (least + 1 - k) 1) (lt-leb (least + 1 - k) 1 (omega (arith, h)))
      | inr h ↦ rw (le-ltb left base h)
    ] in
    let q : least + 1 - k - 1 ≡ least + 1 - (k + 1) = omega arith in
    let r : most + 1 - k - 1 ≡ most + 1 - (k + 1) = omega arith in
    let d : length (digits_to base (least + 1 - k) (most + 1 - k) left) ≡ length (digits_to base (least + 1 - (k + 1)) (most + 1 - (k + 1)) (left / base)) + 1
    = rw (more-digits base (least + 1 - k) (most + 1 - k) left (omega arith) g, q, r, length-append) in
    (omega arith, omega arith, omega (arith, e, d))

-- No more: one of left is enough.
pub count-enough : (base least most n k left : ℕ) → left < base → least ≤ k → Counted base least most n k left → k ≡ length (digits_to base least most n)
count-enough base least most n k left l o (p, m, e) =
    let f : (ltb left base && leb (least + 1 - k) 1) ≡ true = rw (lt-ltb left base l, le-leb (least + 1 - k) 1 (omega arith)) in
    let d = ap length (one-digit base (least + 1 - k) (most + 1 - k) left (omega arith) f) in
    omega (arith, e, d)

-- Or as many as may be.
pub count-most : (base least most n k left : ℕ) → most ≤ k → Counted base least most n k left → most ≡ length (digits_to base least most n)
count-most base least most n k left l (p, m, e) =
    let o : most + 1 - k ≡ 1 = omega arith in
    omega (arith, rw o at e, one_place base (least + 1 - k) left)

-- Each digit is below 16.
pub low-remainder : (base n : ℕ) → 1 < base → base ≤ 16 → n % base < 16
low-remainder base n h m = let l : n % base < base = mod-lt n (omega arith) in omega arith

-- A turn of a loop that stores the last i digits of left, the last of them first.
pub store-turn : (base at i left g : ℕ) (d : List ℕ) {goal : List ℕ} → 0 < i → g ≡ glyph (left % base) → sets d at (digits_to base i i left) ≡ goal
    → sets (set d (at + (i - 1)) g) at (digits_to base (i - 1) (i - 1) (left / base)) ≡ goal
store-turn base at zero left g d h eg e = absurd (omega arith)
store-turn base at (suc i) left g d h eg e =
    let m : at + i ≡ at + length (digits_to base i i (left / base)) = rw (exact-length base i (left / base)) in
    rw (sub-one (suc i), eg, last-first d at (digits_to base i i (left / base)) (at + i) (glyph (left % base)) m, ← exact-more base i left) e

pub store-end : (base at i left : ℕ) (d : List ℕ) {goal : List ℕ} → i ≤ 0 → sets d at (digits_to base i i left) ≡ goal → d ≡ goal
store-end base at i left d h e = let z : i ≡ 0 = omega arith in rw (z, no_digit base 0 0 left refl) at e

-- The digits of a number, counted, are put as put_text puts a text.
module _ (base least most n at k : ℕ) (buffer : List ℕ) (counted : k ≡ length (digits_to base least most n)) where
  pub number-fitting : at + k ≤ length buffer → {d : List ℕ} → d ≡ sets buffer at (digits_to base k k n)
      → (at + k ≡ place_after buffer at (digits_to base least most n)) × (d ≡ put_at buffer at (digits_to base least most n))
  number-fitting h e =
      let h' : at + length (digits_to base least most n) ≤ length buffer = rw (← counted) h in
      let (p, f) = fitting buffer at (digits_to base least most n) h' in
      (rw counted p, e ∙ rw (counted, ← exact base least most n) f)

  pub number-not-fitting : length buffer < at + k → (at ≡ place_after buffer at (digits_to base least most n)) × (buffer ≡ put_at buffer at (digits_to base least most n))
  number-not-fitting h = not-fitting buffer at (digits_to base least most n) (rw (← counted) h)
