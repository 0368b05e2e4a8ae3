-- The closed form of the mirror is 01's choice, and done twice it gives the field back; what the code makes of it on every controller.
use Prim.Native.Nat.{ℕ, zero, suc, ◌-◌, ◌≤◌, ◌<◌}
use mathlib.Core.Path.{◌≡◌, refl, sym, ap, ◌∙◌}
use mathlib.Core.Bool.{Bool, true, false, cond}
use native.Mathlib.Omega.{arith}
use borrow.Author.Tests.{ltb-true, ltb-false}
use lib.Dec.{eqb, ltb}
use lib.IntN.{ℤ, pos, neg_ℤ, nat_abs, one, ◌+ℤ◌, ◌-ℤ◌, ◌*ℤ◌, +ℤ_idl, +ℤ_idr, +ℤ_assoc, +ℤ_comm, +ℤ_invr, -ℤ-+ℤ_cancel, neg_ℤ-+ℤ, neg_ℤ-neg_ℤ, zero-*ℤ, *ℤ-one, *ℤ_comm, suc_ℤ-*ℤ}
use Rattle.pic_source.specs.Ranks.{mirror}
use Rattle.pic_source.specs.ClosedForm.{order_of, closed_form, Closed}
use Rattle.pic_source.proofs.Signed.{not-less, less, kept}

one-times : (z : ℤ) → pos 1 *ℤ z ≡ z
unfolding one
one-times z = *ℤ_comm (pos 1) z ∙ *ℤ-one z

two-times : (z : ℤ) → pos 2 *ℤ z ≡ z +ℤ z
two-times z = suc_ℤ-*ℤ (pos 1) z ∙ ap (λ x. x +ℤ z) (one-times z)

-- k − (z + z) is k − z − z.
less_both : (k z : ℤ) → k -ℤ (z +ℤ z) ≡ k -ℤ z -ℤ z
less_both k z = ap (λ x. k +ℤ x) (neg_ℤ-+ℤ z z) ∙ sym (+ℤ_assoc k (neg_ℤ z) (neg_ℤ z))

-- k − (k − z) is z.
less-twice : (k z : ℤ) → k -ℤ (k -ℤ z) ≡ z
less-twice k z =
    ap (λ x. k +ℤ x) (neg_ℤ-+ℤ k (neg_ℤ z) ∙ ap (λ x. neg_ℤ k +ℤ x) (neg_ℤ-neg_ℤ z)) ∙ sym (+ℤ_assoc k (neg_ℤ k) z)
    ∙ ap (λ x. x +ℤ z) (+ℤ_invr k) ∙ +ℤ_idl z

closed-0 : (z : ℤ) → closed_form (pos 0) z ≡ z
unfolding closed_form
closed-0 z = ap (λ x. z +ℤ x) (zero-*ℤ (pos 15 -ℤ pos 2 *ℤ z)) ∙ +ℤ_idr z

closed-1 : (z : ℤ) → closed_form (pos 1) z ≡ pos 15 -ℤ z
unfolding closed_form
closed-1 z =
    ap (λ x. z +ℤ x) (one-times (pos 15 -ℤ pos 2 *ℤ z) ∙ ap (λ x. pos 15 -ℤ x) (two-times z) ∙ less_both (pos 15) z)
    ∙ +ℤ_comm z (pos 15 -ℤ z -ℤ z) ∙ -ℤ-+ℤ_cancel (pos 15 -ℤ z) z

pub closed : Closed
unfolding mirror
closed zero h = record {
  choice = closed-0;
  same = λ n l. closed-0 (pos n);
  twice = λ z. closed-0 (closed_form (pos 0) z) ∙ closed-0 z;
}
closed (suc zero) h = record {
  choice = closed-1;
  same = λ n l. closed-1 (pos n) ∙ not-less 15 n l;
  twice = λ z. closed-1 (closed_form (pos 1) z) ∙ ap (λ x. pos 15 -ℤ x) (closed-1 z) ∙ less-twice (pos 15) z;
}
closed (suc (suc k)) h = absurd (omega arith)

-- On every controller: with 0 for what is below 0, it is the rule's number m.
pub record Total (m : ℕ) (z : ℤ) : Type 0 where
  pub near : nat_abs z ≤ 255
  pub is : kept z ≡ m

pub total : (priord n : ℕ) → n < 256 → Total (mirror priord n) (closed_form (pos (order_of priord)) (pos n))
unfolding mirror order_of
total priord n h = go (eqb priord 0)
  where
    past : (t : Bool) → ltb 15 n ≡ t → Total (15 - n) (pos 15 -ℤ pos n)
    past true e = let l : 15 < n = ltb-true 15 n e in rw (less 15 n l) (record { near = omega arith; is = omega arith })
    past false e = let l : n ≤ 15 = ltb-false 15 n e in rw (not-less 15 n l) (record { near = omega arith; is = refl })

    go : (t : Bool) → Total (cond t n (15 - n)) (closed_form (pos (cond t 0 1)) (pos n))
    go true = rw (closed-0 (pos n)) (record { near = omega arith; is = refl })
    go false = rw (closed-1 (pos n)) (past (ltb 15 n) refl)
