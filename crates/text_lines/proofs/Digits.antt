-- Digits and the numbers that they make.
use mathlib.Core.Path.{◌≡◌, refl, sym, ◌∙◌}
use mathlib.Core.Bool.{Bool, true, false, cond, ◌&&◌, true≢false}
use Prim.Native.Nat.{ℕ, suc, ◌+◌, ◌*◌, ◌^◌, ◌≤◌, ◌<◌}
use native.Mathlib.Nat.{pow-suc, suc-mul, mul-le-mul, pow-le-pow_right, lt_of_lt_of_le}
use native.Mathlib.Numerals.{add-one}
use native.Mathlib.Omega.{arith}
use mathlib.Core.List.{List}
use borrow.Author.Tests.{lt-ltb, le-ltb}
use lib.Dec.{lit<, ltb}
use Rattle.std.specs.Char.{digit_value}
use Rattle.std.proofs.lemmas.Bool.Decides.{nat_tests}
use lib.ListN.{length, get_or, drop, drop_of_length-le}
use lib.Seq.{drop-cons}
use Rattle.text_lines.specs.Numbers.{Number, all_digits, is_number, found, number_in}
use Rattle.digits.specs.Digits.{digit_of, number_after, number_of}

-- The digit of a byte, as `to_digit` of the library gives it below 16.
digit-there : (byte : ℕ) → digit_of byte ≡ cond (ltb (digit_value byte) 16) (digit_value byte) 16
unfolding digit_of
digit-there byte = grind (arith, nat_tests)

-- So it is a digit in a base where that is below the base.
module _ (base byte : ℕ) (few : base ≤ 16) where
  pub digit-below : digit_value byte < base → {d : ℕ} → d ≡ digit_value byte → (d ≡ digit_of byte) × (d < base)
  digit-below h e =
      let l : digit_value byte < 16 = omega arith in
      (sym (digit-there byte ∙ rw (lt-ltb _ _ l) (sym e)), omega arith)

  pub digit-none : (digit_value byte < base → ⊥) → base ≤ digit_of byte
  digit-none h = rw (digit-there byte) (by-case (ltb (digit_value byte) 16) refl)
    where
      by-case : (b : Bool) → ltb (digit_value byte) 16 ≡ b → base ≤ cond b (digit_value byte) 16
      by-case true e = omega arith
      by-case false e = few

-- What is found in the digits that follow those of n.
abbrev pub found_from : ℕ → ℕ → List ℕ → Number
found_from base n text = cond (all_digits base text) (found true (number_after base n text)) (found false 0)

-- The loop over the digits: a turn, and its two ends.
module _ (base : ℕ) (text : List ℕ) (i n : ℕ) where
  abbrev here : ℕ
  here = digit_of (get_or text i 0)

  found_here : i < length text
      → found_from base n (drop i text) ≡ cond (ltb here base) (found_from base (n * base + here) (drop (i + 1) text)) (found false 0)
  unfolding all_digits number_after
  found_here h = rw (add-one, drop-cons text i 0 h) (go (ltb here base) (all_digits base (drop (suc i) text)))
    where
      go : (a b : Bool) → cond (a && b) (found true (number_after base (n * base + here) (drop (suc i) text))) (found false 0)
          ≡ cond a (cond b (found true (number_after base (n * base + here) (drop (suc i) text))) (found false 0)) (found false 0)
      go true b = refl
      go false b = refl

  pub found_turn : i < length text → {d : ℕ} → d ≡ here → d < base → {x : Number} → x ≡ found_from base n (drop i text)
      → x ≡ found_from base (n * base + d) (drop (i + 1) text)
  found_turn h e l q = rw e (q ∙ found_here h ∙ rw (lt-ltb _ _ (rw e at l)))

  pub found-stop : i < length text → {d : ℕ} → d ≡ here → base ≤ d → {x : Number} → x ≡ found_from base n (drop i text) → found false 0 ≡ x
  found-stop h e l q = sym (q ∙ found_here h ∙ rw (le-ltb _ _ (rw e at l)))

pub found-end : (base : ℕ) (text : List ℕ) (i n : ℕ) → length text ≤ i → {x : Number} → x ≡ found_from base n (drop i text) → found true n ≡ x
unfolding all_digits number_after
found-end base text i n h q = sym (q ∙ rw (drop_of_length-le text h))

-- Eight digits make a number of 32 bits.
pub one_more-fits : (base i n d : ℕ) → base ≤ 16 → n < 16 ^ i → d < base → n * base + d < 16 ^ (i + 1)
one_more-fits base i n d hb hn hd =
    let e : suc n * base ≡ n * base + base = suc-mul n base in
    let l : suc n * base ≤ 16 ^ i * 16 = mul-le-mul hn hb in
    let p : 16 ^ (i + 1) ≡ 16 ^ i * 16 = rw add-one (pow-suc 16 i) in
    omega arith

pub eight-fit : (i n : ℕ) → i ≤ 8 → n < 16 ^ i → n < 2 ^ 32
eight-fit i n h l =
    let sixteen : 0 < 16 = lit< tt in
    let p : 16 ^ i ≤ 16 ^ 8 = pow-le-pow_right sixteen h in
    lt_of_lt_of_le l p

pub digit-fits : (base i n d : ℕ) → base ≤ 16 → n < 16 ^ i → d < base → i < 8 → n * base + d < 2 ^ 32
digit-fits base i n d hb hn hd h =
    let few : i + 1 ≤ 8 = omega arith in
    eight-fit (i + 1) (n * base + d) few (one_more-fits base i n d hb hn hd)

-- What is found is a number just where there is one.
pub found_ok : (base most : ℕ) (text : List ℕ) → (number_in base most text).ok ≡ is_number base most text
found_ok base most text = go (is_number base most text)
  where
    go : (good : Bool) → (cond good (found true (number_of base text)) (found false 0)).ok ≡ good
    go true = refl
    go false = refl

pub found-value : (base most : ℕ) (text : List ℕ) → (number_in base most text).ok ≡ true → (number_in base most text).value ≡ number_of base text
found-value base most text = go (is_number base most text)
  where
    go : (good : Bool) → (cond good (found true (number_of base text)) (found false 0)).ok ≡ true
        → (cond good (found true (number_of base text)) (found false 0)).value ≡ number_of base text
    go true h = refl
    go false h = absurd (true≢false (sym h))
