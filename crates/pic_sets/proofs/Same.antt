-- The shape is kept, and sets with the same sources are the same.
use Prim.Native.Nat.{ℕ, ◌+◌, ◌*◌, ◌/◌, ◌%◌, ◌<◌}
use mathlib.Core.Path.{◌≡◌, sym, ap, ◌∙◌}
use mathlib.Core.Bool.{Bool, cond}
use mathlib.Core.List.{List, []}
use native.Mathlib.Omega.{arith}
use lib.ListN.{get_or}
use lib.Seq.{ext_get_or}
use Rattle.pic_bits.specs.Bits.{bit_of, member_of, source_of}
use Rattle.pic_bits.proofs.Bits.{bit-cases, same_bits}
use Rattle.pic_bits.proofs.Words.{bit-number}
use Rattle.pic_sets.specs.Sets.{in_set, flipped_word}
use Rattle.pic_sets.specs.Laws.{ShapeKept, SetsSame}
use Rattle.pic_sets.proofs.Members.{flip-shape, update-shape, to-shape}
use Rattle.pic_sets.proofs.Reversal.{reverse-shape}

pub shape-kept : ShapeKept
unfolding flipped_word
shape-kept sets h =
    record {
      flip = λ r s. flip-shape sets h r s;
      update = λ s old was new is. update-shape sets s old was new is h;
      word = λ rank x w. to-shape sets h rank x w 32;
      reverse = reverse-shape sets h;
    }

-- The bit of a source from whether it is in the set.
member-bit : (row : List ℕ) (x y : ℕ) → y < 32 → bit_of (get_or row x 0) y ≡ member_of row (source_of x y)
member-bit row x y l =
    let p : (32 * x + y) / 32 ≡ x = omega arith in
    let q : (32 * x + y) % 32 ≡ y = omega arith in
    sym (ap (λ (i : ℕ). bit_of (get_or row i 0) ((32 * x + y) % 32)) p ∙ ap (bit_of (get_or row x 0)) q)

pub sets_same : SetsSame
sets_same a b h k e = ext_get_or [] a b (h.many ∙ sym k.many) (λ q l. row q (omega (arith, l, h.many)))
  where
    number : (sets : List (List ℕ)) (q t : ℕ) → cond (in_set sets q t) 1 0 ≡ member_of (get_or sets q []) t
    number sets q t = bit-number (member_of (get_or sets q []) t) (bit-cases (get_or (get_or sets q []) (t / 32) 0) (t % 32))

    bit : (q x y : ℕ) → q < 16 → x < 8 → y < 32 → bit_of (get_or (get_or a q []) x 0) y ≡ bit_of (get_or (get_or b q []) x 0) y
    bit q x y l m n =
        let t = source_of x y in
        member-bit (get_or a q []) x y n
        ∙ sym (number a q t)
        ∙ ap (λ (f : Bool). cond f 1 0) (e q t l (omega arith))
        ∙ number b q t
        ∙ sym (member-bit (get_or b q []) x y n)

    row : (q : ℕ) → q < 16 → get_or a q [] ≡ get_or b q []
    row q l =
        ext_get_or 0 (get_or a q []) (get_or b q []) (h.rows q l ∙ sym (k.rows q l)) (λ x m. same_bits 32 (get_or (get_or a q []) x 0) (get_or (get_or b q []) x 0) (h.words q x) (k.words q x) (λ y n. bit q x y l (omega (arith, m, h.rows q l)) n))
