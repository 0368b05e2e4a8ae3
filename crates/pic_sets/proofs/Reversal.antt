-- What a reversal does to each source, and that sixteen sets stay that.
use Prim.Native.Nat.{ℕ, ◌-◌}
use mathlib.Core.Path.{ap}
use mathlib.Core.List.{List, []}
use native.Mathlib.Omega.{arith}
use lib.ListN.{get_or}
use Rattle.pic_bits.specs.Bits.{is_member}
use Rattle.pic_bits.specs.Tables.{Shaped}
use Rattle.pic_bits.proofs.Shapes.{table-shape}
use Rattle.pic_bits.proofs.Tables.{table_at}
use Rattle.pic_sets.specs.Sets.{reversed_of}
use Rattle.pic_sets.specs.Laws.{ReverseMember}

pub reverse-member : ReverseMember
unfolding reversed_of
reverse-member sets q t l = ap (λ (row : List ℕ). is_member row t) (table_at (List ℕ) [] 16 (λ (r : ℕ). get_or sets (15 - r) []) q l)

pub reverse-shape : (sets : List (List ℕ)) → Shaped 16 sets → Shaped 16 (reversed_of sets)
unfolding reversed_of
reverse-shape sets h =
    table-shape 16 (λ (r : ℕ). get_or sets (15 - r) []) (λ i l. h.rows (15 - i) (omega arith)) (λ i k l. h.words (15 - i) k)
