use Prim.Native.Nat.{◌-◌}
use mathlib.Core.Path.{ap, ◌∙◌}
use mathlib.Core.List.{[]}
use lib.ListN.{get_or}
use native.Mathlib.Omega.{arith}
use Rattle.pic_bits.proofs.Tables.{table_is}
use Rattle.pic_sets.specs.Sets.{reversed_of}
use Rattle.pic_sets.proofs.switches.reverse.Goals as goal

pub returns : goal.returns
unfolding reversed_of
returns c =
    let r = c.reverse.ensures in
    let old = c.args.sets.now in
    table_is [] 16 _ _ (r.len ∙ c.told-sets)
    (λ i l. r.by_index i [] (omega (arith, c.told-sets, l)) ∙ ap (λ k. get_or old (k - 1 - i) []) c.told-sets ∙ ap (λ k. get_or old k []) (omega arith))
