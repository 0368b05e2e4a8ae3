use Rattle.std.proofs.Common.{◌≡◌, ◌≤◌, ℕ, ◌+◌, ◌-◌, List, ◌++◌, length, arith, rules, take, drop, sym, ap, subst, ◌∙◌}
use Rattle.std.proofs.KnownBytes.{Consumes-trans}
use Rattle.std.specs.Io.KnownBytes.{Consumes}
use Rattle.std.proofs.Math.Seq.{take-add}
use Rattle.std.proofs.lemmas.Slice.{take-put_mid_below}
use Rattle.std.proofs.lemmas.List.{take-append-le, drop_at, length-take-le}
use borrow.Rule.Slice.PartMut.{put_mid, post_of}
use Rattle.console.proofs.read_all.Goals as goal

-- What was read to a place stands behind what stood before it.
read_to : (xs ys : List ℕ) (at k n : ℕ) → at ≤ length xs → n ≤ length ys → take (at + n) (put_mid at k xs ys) ≡ take at xs ++ take n ys
read_to xs ys at k n h l =
    let p = put_mid at k xs ys in
    take-add at n p ∙ ap (λ b. b ++ take n (drop at p)) (take-put_mid_below at k xs ys at (omega arith) h)
    ∙ ap (λ b. take at xs ++ take n b) (drop_at (take at xs) (ys ++ post_of at k xs) at (length-take-le at xs h))
    ∙ ap (λ b. take at xs ++ b) (take-append-le n ys (post_of at k xs) l)

pub loop-at-preserved : goal.loop-at-preserved
loop-at-preserved g c = record {
  within = search rules;
  filled =
      let read = c.in_ok-some.ensures in
      let stands = read_to c.loop-at.buffer c.read.new.buf c.loop-at.at (length c.loop-at.buffer - c.loop-at.at) c.in_ok-some.some c.loop-at.invariant.within read.bound.0 in
      subst (Consumes _ _) (sym stands) (Consumes-trans _ _ _ _ _ c.loop-at.invariant.filled read.bytes.0);
}
