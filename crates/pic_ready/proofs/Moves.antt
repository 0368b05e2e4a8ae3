-- Sets that follow their controller.
use Prim.Native.Nat.{ℕ, ◌-◌, ◌<◌, ◌≤◌}
use mathlib.Core.Path.{◌≡◌, refl, sym, ap, ◌∙◌}
use mathlib.Core.Bool.{Bool, true, false, ◌&&◌}
use mathlib.Core.List.{List, []}
use mathlib.Core.Logic.{◌⊎◌, inl, inr, ⊎_elim}
use native.Mathlib.Omega.{arith}
use lib.Dec.{eqb}
use lib.ListN.{get_or}
use borrow.Author.Tests.{eq-eqb, ne_eqb}
use Rattle.pic_source.specs.Sources.{is_source}
use Rattle.std.proofs.lemmas.Bool.{cases_eq}
use Rattle.pic_source.proofs.Bools.{le-cases}
use Rattle.pic_source.proofs.Mirror.{mirror-small, mirror-other}
use Rattle.pic_source.proofs.Ranges.{source-range}
use Rattle.pic_bits.specs.Bits.{source_of}
use Rattle.pic_bits.proofs.Words.{word_same}
use Rattle.pic_bits.proofs.Tables.{table_at, table_same, table-out}
use Rattle.pic.specs.declared.Controller.{Controller}
use Rattle.pic.specs.Sources.{rank_at}
use Rattle.pic.proofs.Soundness.{Sound, facts}
use Rattle.pic_sets.specs.Sets.{reversed_of}
use Rattle.pic_sets.specs.Laws.{differs}
use Rattle.pic_sets.proofs.Reversal.{reverse-member}
use Rattle.pic_sets.proofs.Same.{shape-kept}
use Rattle.pic_ready.specs.Ready.{ready_at, belongs, sets_by, fresh_of, moved_of, switched, MovedFresh, SwitchedFresh, OthersFresh}
use Rattle.pic_ready.proofs.Members.{member, by-shaped, by-same, sets-are}

back : (a b : Bool) → differs a (differs a b) ≡ b
back true true = refl
back true false = refl
back false b = refl

pub moved-fresh : MovedFresh
unfolding moved_of fresh_of
moved-fresh c d = by-same _ (belongs d) (λ r s l k. ap (λ (t : Bool). differs t (differs (belongs c r s) (belongs d r s))) (member c r s l k) ∙ back (belongs c r s) (belongs d r s))

-- A source of rank r is of rank 15 - r once priord is the other.
switched-belongs : (c : Controller) → Sound c → (r s : ℕ) → r < 16 → belongs c (15 - r) s ≡ belongs (switched c) r s
unfolding ready_at
switched-belongs c h r s l = go (is_source c.sources s) refl
  where
    same : (a b p q : ℕ) → a ≤ 15 → p ≡ 15 - r → q ≡ 15 - a → eqb p a ≡ eqb r q
    same a b p q k e f = ⊎_elim (λ z. eq-eqb p a z ∙ sym (eq-eqb r q (omega (arith, z, e, f, l, k)))) (λ z. ne_eqb p a z ∙ sym (ne_eqb r q (λ y. z (omega (arith, y, e, f, l, k))))) (cases_eq p a)

    go : (t : Bool) → is_source c.sources s ≡ t → belongs c (15 - r) s ≡ belongs (switched c) r s
    go false e = rw e
    go true e =
        let i = source-range c.sources s e in
        let k = h.columns.field.each s i.0 i.1 in
        ap (λ (t : Bool). ready_at c s && t)
        (same (rank_at c s).0 0 (15 - r) (rank_at (switched c) s).0 (mirror-small c.scalars.priord _ k) refl (mirror-other c.scalars.priord _ h.ranges.priord k))

pub switched-fresh : SwitchedFresh
unfolding fresh_of
switched-fresh c e =
    sets-are (belongs (switched c)) (reversed_of (fresh_of c)) (shape-kept (fresh_of c) (by-shaped (belongs c))).reverse
    (λ r s l k. reverse-member (fresh_of c) r s l ∙ member c (15 - r) s (omega arith) k ∙ switched-belongs c (facts c e) r s l)

-- A source that changed belongs to no set but those of its rank before and after.
apart : (c : Controller) (r s : ℕ) → (r ≡ (rank_at c s).0 → ⊥) → belongs c r s ≡ false
apart c r s n = rw (ne_eqb r (rank_at c s).0 n) (go (ready_at c s))
  where
    go : (t : Bool) → (t && false) ≡ false
    go true = refl
    go false = refl

pub others-fresh : OthersFresh
unfolding fresh_of
others-fresh c d s h r a b = row (le-cases 16 r)
  where
    same : (t : ℕ) → belongs d r t ≡ belongs c r t
    same t = ⊎_elim (λ e. rw e (apart d r s b ∙ sym (apart c r s a))) (λ n. sym (h r t n)) (cases_eq t s)

    row : (16 ≤ r) ⊎ (r < 16) → get_or (sets_by (belongs d)) r [] ≡ get_or (sets_by (belongs c)) r []
    row (inl l) = table-out [] 16 _ r l ∙ sym (table-out [] 16 _ r l)
    row (inr l) =
        table_at (List ℕ) [] 16 _ r l
        ∙ table_same 0 8 _ _ (λ x k. word_same _ _ 32 (λ y m. same (source_of x y)))
        ∙ sym (table_at (List ℕ) [] 16 _ r l)
