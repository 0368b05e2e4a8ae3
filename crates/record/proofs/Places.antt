-- The reader's verdict, by how many places its arrays have: only question 5 sees them.
use Prim.Native.Nat.{ℕ, zero, suc, ◌≤◌}
use native.Mathlib.Nat.{suc-ne-zero}
use native.Mathlib.Omega.{arith}
use mathlib.Core.Bool.{Bool, true, false, not}
use mathlib.Core.Path.{◌≡◌, refl, sym, ap, ◌∙◌}
use mathlib.Core.List.{List}
use borrow.Author.Tests.{leb-true, leb-false, eqb-true, eqb-false}
use lib.Dec.{eqb}
use lib.ListN.{length}
use Rattle.event.specs.Event.{shape_of}
use Rattle.record.specs.declared.Limits.{Limits}
use Rattle.record.specs.Verdict.{Verdict}
use Rattle.record.specs.Record.{most_events, count_of, sources_of, heads_of, values_of, length_of}
use Rattle.record.specs.Questions.{verdict, no_refusal, question, holds_sizes, arrays_hold, walk, read_verdict}
use Rattle.record.proofs.Questions.{sizes_then, sizes-few, read-no-1, read-no-sizes, read-no-4, read-no-5, read_walk}
use Rattle.record.proofs.Walk.{heads-length, equally-many, walk_first}

-- The questions up to 4 decide alike for all arrays; where all of them are answered yes, 5 is asked, and then the walk.
data Decided (limits : Limits) (bytes : List ℕ) : Type 0 where
  early : (number : ℕ) → ((a b : ℕ) → read_verdict limits bytes a b ≡ verdict number 0) → Decided limits bytes
  late : count_of bytes ≤ most_events → length bytes ≡ length_of (count_of bytes)
      → ((a b : ℕ) → read_verdict limits bytes a b ≡ question 5 (arrays_hold (count_of bytes) a b) (walk shape_of (heads_of bytes) (values_of bytes))) → Decided limits bytes

-- The number of the first no about N and n, or 0.
abbrev Sizes : Limits → List ℕ → ℕ → Type 0
Sizes limits bytes number = number ≡ (sizes_then limits (sources_of bytes) (count_of bytes) no_refusal).refusal

decided : (limits : Limits) (bytes : List ℕ) → Decided limits bytes
decided limits bytes = one (holds_sizes bytes) refl
  where
    five : (a b : ℕ) (t : Bool) → arrays_hold (count_of bytes) a b ≡ t → 8 ≤ length bytes → Sizes limits bytes 0
        → length bytes ≡ length_of (count_of bytes) → read_verdict limits bytes a b ≡ question 5 t (walk shape_of (heads_of bytes) (values_of bytes))
    five a b true e q1 sizes q4 = sym (read_walk limits bytes a b q1 refl refl sizes refl q4 (ap not e))
    five a b false e q1 sizes q4 = sym (read-no-5 limits bytes a b q1 refl refl sizes refl q4 (ap not e))

    four : (t : Bool) → eqb (length bytes) (length_of (count_of bytes)) ≡ t → 8 ≤ length bytes → Sizes limits bytes 0 → Decided limits bytes
    four true e q1 sizes =
        late (sizes-few limits (sources_of bytes) (count_of bytes) (sym sizes)) (eqb-true _ _ e) (λ a b. five a b (arrays_hold (count_of bytes) a b) refl q1 sizes (eqb-true _ _ e))
    four false e q1 sizes = early 4 (λ a b. sym (read-no-4 limits bytes a b q1 refl refl sizes refl (eqb-false _ _ e)))

    two : (number : ℕ) → Sizes limits bytes number → 8 ≤ length bytes → Decided limits bytes
    two zero e q1 = four (eqb (length bytes) (length_of (count_of bytes))) refl q1 e
    two (suc k) e q1 = early (suc k) (λ a b. sym (read-no-sizes limits bytes a b q1 refl refl e (suc-ne-zero k)))

    one : (t : Bool) → holds_sizes bytes ≡ t → Decided limits bytes
    one true e = two (sizes_then limits (sources_of bytes) (count_of bytes) no_refusal).refusal refl (leb-true _ _ e)
    one false e = early 1 (λ a b. sym (read-no-1 limits bytes a b (leb-false _ _ e)))

-- Arrays that hold n events alike get the same verdict.
pub same-verdict : (limits : Limits) (bytes : List ℕ) (a b c d : ℕ) → (count_of bytes ≤ most_events → arrays_hold (count_of bytes) a b ≡ arrays_hold (count_of bytes) c d)
    → read_verdict limits bytes a b ≡ read_verdict limits bytes c d
same-verdict limits bytes a b c d same = by-case (decided limits bytes)
  where
    by-case : Decided limits bytes → read_verdict limits bytes a b ≡ read_verdict limits bytes c d
    by-case (early number e) = e a b ∙ sym (e c d)
    by-case (late few whole e) = e a b ∙ ap (λ (t : Bool). question 5 t (walk shape_of (heads_of bytes) (values_of bytes))) (same few) ∙ sym (e c d)

-- A refusal's place is the index of an event, or 0.
pub place-few : (limits : Limits) (bytes : List ℕ) (a b : ℕ) → ((read_verdict limits bytes a b).refusal ≡ 0 → ⊥) → (read_verdict limits bytes a b).place ≤ most_events
place-few limits bytes a b refuses = by-case (decided limits bytes)
  where
    by-case : Decided limits bytes → (read_verdict limits bytes a b).place ≤ most_events
    by-case (early number e) = rw (e a b) (omega arith)
    by-case (late few whole e) = rw (e a b) (asked (arrays_hold (count_of bytes) a b) (λ z. refuses (ap (λ (v : Verdict). v.refusal) (e a b) ∙ z)))
      where
        asked : (t : Bool) → ((question 5 t (walk shape_of (heads_of bytes) (values_of bytes))).refusal ≡ 0 → ⊥)
            → (question 5 t (walk shape_of (heads_of bytes) (values_of bytes))).place ≤ most_events
        asked false z = omega arith
        asked true z =
            let first = walk_first shape_of (heads_of bytes) (values_of bytes) (equally-many bytes (count_of bytes) whole) z in
            omega (arith, first.inside, heads-length bytes (count_of bytes) whole, few)
