use mathlib.Core.Path.{◌≡◌, sym, subst}
use Prim.Native.Nat.{ℕ, ◌≤◌}
use native.Mathlib.Omega.{arith}
use mathlib.Core.List.{List}
use lib.ListN.{length, replicate, length-replicate}
use lib.Seq.{length-take-le}
use Rattle.record.specs.Record.{board, most_events}
use Rattle.record.proofs.Parts.{Parts, read-parts}
use Rattle.text_writer.specs.RoundTrip.{ComesBack}
use Rattle.text_writer.proofs.RoundTrip.{comes_back}
use Rattle.text_writer.proofs.Writing.{parts-fit, text-made}
use Rattle.text_writer.proofs.to_text.Goals as goal
use Rattle.text_writer.proofs.to_text.Goals.{In_ok-sizes}

-- The arrays before the reading.
abbrev none : List ℕ
none = replicate most_events 0

zeros : length none ≡ most_events
zeros = length-replicate {A = ℕ} most_events 0

-- What was read: N, heads and values.
parts : (c : In_ok-sizes)
    → Parts board c.args.bytes.now (length none) (length none) c.in_ok-sizes.sizes.events c.in_ok-sizes.sizes.sources c.read.new.heads c.read.new.values
parts c = read-parts board _ none none c.read.ensures.result_value c.read.ensures.heads_after c.read.ensures.values_after c.in_ok-sizes.was

-- They are within the arrays.
fits : (c : In_ok-sizes) → (c.in_ok-sizes.sizes.events ≤ length c.read.new.heads) × (c.in_ok-sizes.sizes.events ≤ length c.read.new.values)
fits c =
    let few = parts-fit (parts c) in
    (omega (arith, c.read.auto.heads, few.0), omega (arith, c.read.auto.values, few.0))

pub slice_bounds-heads-end : goal.slice_bounds-heads-end
slice_bounds-heads-end c = (fits (goal.at.slice_bounds-heads-end c).In_ok-sizes).0

pub slice_bounds-put_listing-end-2 : goal.slice_bounds-put_listing-end-2
slice_bounds-put_listing-end-2 c = sym (length-take-le _ _ (fits (goal.at.slice_bounds-put_listing-end-2 c).In_ok-sizes).0)

pub slice_bounds-values-end : goal.slice_bounds-values-end
slice_bounds-values-end c = (fits (goal.at.slice_bounds-values-end c).In_ok-sizes).1

pub slice_bounds-put_listing-end-3 : goal.slice_bounds-put_listing-end-3
slice_bounds-put_listing-end-3 c = sym (length-take-le _ _ (fits (goal.at.slice_bounds-put_listing-end-3 c).In_ok-sizes).1)

pub put_listing-requires : goal.put_listing-requires
put_listing-requires c =
    let few = parts-fit (parts (goal.at.put_listing-requires c).In_ok-sizes) in
    let fit = fits (goal.at.put_listing-requires c).In_ok-sizes in
    let h = length-take-le _ _ fit.0 in
    (few.1, omega (arith, c.told-text, few.0, h))

pub returns : goal.returns
returns c =
    let put = c.put_listing in
    let made = text-made c.args.bytes.now c.args.text.now (parts (goal.at.returns c).In_ok-sizes) zeros zeros put.ensures.value put.ensures.text_after in
    record {
      result_value = made.0;
      text_after = made.1;
      result_in_bounds = put.ensures.upper_bound;
      comes_back = subst (ComesBack c.args.bytes.now) (sym made.2) (comes_back c.args.bytes.now (λ i. (c.type_inv.bytes i).fits));
    }
