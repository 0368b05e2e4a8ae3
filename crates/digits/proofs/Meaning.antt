-- The digits of a number make that number, and there are as few as can be.
use Prim.Native.Nat.{ℕ, zero, suc, ◌+◌, ◌*◌, ◌-◌, ◌/◌, ◌%◌, ◌^◌, ◌≤◌, ◌<◌}
use native.Mathlib.Omega.{arith}
use native.Mathlib.Nat.{pow-suc, pow-zero, one-mul, div-lt_iff_lt-mul, div-add-mod', mod-lt}
use borrow.Author.Tests.{ltb-true, ltb-false, leb-false, le-leb, lt-leb}
use mathlib.Core.Path.{◌≡◌, refl, subst, ◌∙◌, ap}
use mathlib.Core.Bool.{Bool, true, false, ◌&&◌, cond}
use mathlib.Core.List.{List, [], ◌∷◌, ◌++◌}
use lib.ListN.{length, length-append}
use lib.Dec.{ltb, leb}
use Rattle.digits.specs.Digits.{glyph, digits_to, digit_of, number_after, number_of}

-- The quotient of a number of suc k digits has k.
quotient : (base k n : ℕ) → 1 < base → n < base ^ suc k → n / base < base ^ k
quotient base k n b h =
    let p : 0 < base = omega arith in
    (div-lt_iff_lt-mul {k = base} {x = n} {y = base ^ k} p).1 (subst (λ (m : ℕ). n < m) (pow-suc base k) h)

not-both : (a b : ℕ) → a < b → b ≤ a → ⊥
not-both a b h m = omega arith

-- A number that one digit is not enough for, whose quotient has d digits.
longer : (base least n k d : ℕ) → 1 < base → n < base ^ suc k → least ≤ suc k → (n < base → 1 < least)
    → ((j : ℕ) → n / base < base ^ suc j → least - 1 ≤ suc j → d ≤ suc j) → d + 1 ≤ suc k
longer base least n zero d b h l more again =
    let h' : n < base = subst (λ (m : ℕ). n < m) (pow-suc base 0 ∙ ap (λ (m : ℕ). m * base) (pow-zero base) ∙ one-mul base) h in
    let l' : 1 < least = more h' in
    absurd (omega arith)
longer base least n (suc j) d b h l more again =
    let l' : least - 1 ≤ suc j = omega arith in
    let d' : d ≤ suc j = again j (quotient base (suc j) n b h) l' in
    omega arith

-- As many digits as hold it are enough, where no more are asked for.
pub digits-length : (base least most n k : ℕ) → 1 < base → n < base ^ suc k → least ≤ suc k → length (digits_to base least most n) ≤ suc k
unfolding digits_to
digits-length base least zero n k b h l = omega arith
digits-length base least (suc most) n k b h l =
    by-case (ltb n base) (leb least 1) refl refl (λ j. digits-length base (least - 1) most (n / base) j b)
  where
    before : List ℕ
    before = digits_to base (least - 1) most (n / base)

    by-case : (x y : Bool) → ltb n base ≡ x → leb least 1 ≡ y → ((j : ℕ) → n / base < base ^ suc j → least - 1 ≤ suc j → length before ≤ suc j)
        → length (cond (x && y) (glyph n ∷ []) (before ++ glyph (n % base) ∷ [])) ≤ suc k
    by-case true true ex ey again = omega arith
    by-case true false ex ey again =
        rw (length-append before (glyph (n % base) ∷ [])) (longer base least n k (length before) b h l (λ _. leb-false least 1 ey) again)
    by-case false y ex ey again =
        rw (length-append before (glyph (n % base) ∷ [])) (longer base least n k (length before) b h l (λ m. absurd (not-both n base m (ltb-false n base ex))) again)

-- The number of digits with one more behind them.
number-snoc : (base n byte : ℕ) (text : List ℕ) → number_after base n (text ++ byte ∷ []) ≡ number_after base n text * base + digit_of byte
unfolding number_after
number-snoc base n byte [] = refl
number-snoc base n byte (b ∷ text) = number-snoc base (n * base + digit_of b) byte text

-- The sign of a digit stands for that digit.
low-sign : (d : ℕ) → d < 10 → digit_of (48 + d) ≡ d
unfolding digit_of
low-sign d h = rw (le-leb 48 (48 + d) (omega arith), le-leb (48 + d) 57 (omega arith)) (omega arith)

high-sign : (d : ℕ) → 10 ≤ d → d < 16 → digit_of (87 + d) ≡ d
unfolding digit_of
high-sign d l h =
    rw (le-leb 48 (87 + d) (omega arith), lt-leb (87 + d) 57 (omega arith), le-leb 97 (87 + d) (omega arith), le-leb (87 + d) 102 (omega arith))
    (omega arith)

pub digit-of-glyph : (d : ℕ) → d < 16 → digit_of (glyph d) ≡ d
digit-of-glyph d h = by-case (ltb d 10) refl
  where
    by-case : (x : Bool) → ltb d 10 ≡ x → digit_of (glyph d) ≡ d
    by-case true e = rw e (low-sign d (ltb-true d 10 e))
    by-case false e = rw e (high-sign d (ltb-false d 10 e) h)

-- The digits of a number make it, where at most so many hold it.
pub digits_number : (base least most n : ℕ) → 1 < base → base ≤ 16 → n < base ^ most → number_of base (digits_to base least most n) ≡ n
unfolding digits_to number_after
digits_number base least zero n b s h = let z : n < 1 = subst (λ (m : ℕ). n < m) (pow-zero base) h in omega arith
digits_number base least (suc most) n b s h =
    by-case (ltb n base) (leb least 1) refl (digits_number base (least - 1) most (n / base) b s (quotient base most n b h))
  where
    before : List ℕ
    before = digits_to base (least - 1) most (n / base)

    last : n % base < 16
    last = let l : n % base < base = mod-lt n (omega arith) in omega arith

    ends : number_after base 0 before ≡ n / base → number_after base 0 (before ++ glyph (n % base) ∷ []) ≡ n
    ends e = rw (number-snoc base 0 (glyph (n % base)) before, e, digit-of-glyph (n % base) last) (div-add-mod' n base)

    by-case : (x y : Bool) → ltb n base ≡ x → number_after base 0 before ≡ n / base
        → number_after base 0 (cond (x && y) (glyph n ∷ []) (before ++ glyph (n % base) ∷ [])) ≡ n
    by-case true true ex e =
        let l : n < base = ltb-true n base ex in
        let l' : n < 16 = omega arith in
        rw (digit-of-glyph n l') (omega arith)
    by-case true false ex e = ends e
    by-case false y ex e = ends e
