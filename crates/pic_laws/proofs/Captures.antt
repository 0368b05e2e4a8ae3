-- What a look tells the layer above: whom a capture serves, and that it is above threshold and current.
use Prim.Native.Nat.{◌+◌, ◌*◌, ◌≤◌, ◌<◌}
use mathlib.Core.Path.{◌≡◌, sym, ap, ◌∙◌}
use mathlib.Core.Bool.{true}
use mathlib.Core.Logic.{inl, inr}
use native.Mathlib.Omega.{arith}
use lib.IntN.{pos}
use lib.Signed.{lt_z}
use borrow.Author.Tests.{ltb-true}
use Rattle.pic.specs.declared.Controller.{Controller}
use Rattle.pic.specs.declared.Look.{Look}
use Rattle.pic_comparator.specs.declared.Winner.{Winner}
use Rattle.pic.specs.Sources.{threshold_of, current_of, HasWinner, IsWinner, winner_of, higher_of}
use Rattle.pic.specs.Sound.{sound_of}
use Rattle.pic.specs.Calls.{source_count, current_rank, look_of}
use Rattle.pic.proofs.Larger.{higher-is}
use Rattle.pic.proofs.Margins.{margin-above}
use Rattle.pic.proofs.Soundness.{facts, meihap-exact}
use Rattle.pic.proofs.Winning.{winner-is, winner-small}

-- A winner of rank 1 or more.
pub record Found (c : Controller) (k : Look) : Type 0 where
  pub winner : HasWinner c (source_count c) k.winner
  pub rank_most : k.winner.rank.0 ≤ 15
  pub names : k.meihap ≡ c.scalars.base + 4 * k.winner.source

module _ (c : Controller) (e : sound_of c ≡ true) where
  pub look-found : 1 ≤ (look_of c).winner.rank.0 → Found c (look_of c)
  unfolding look_of source_count
  look-found h =
      let f = facts c e in
      let w = winner-small c f in
      record {
        winner = go (winner-is c) h;
        rank_most = w.1;
        names = meihap-exact c.scalars.base (winner_of c).source f.ranges.base (omega (arith, w.0, f.most));
      }
    where
      go : IsWinner c c.sources (winner_of c) → 1 ≤ (winner_of c).rank.0 → HasWinner c c.sources (winner_of c)
      go (inl s) l = s
      go (inr i) l = let z : (winner_of c).rank.0 ≡ 0 = ap (λ (w : Winner). w.rank.0) i.is_none in absurd (omega arith)

-- A margin above 0.
pub record Over (c : Controller) (k : Look) : Type 0 where
  pub threshold : (threshold_of c.scalars).0 < k.winner.rank.0
  pub current : (current_rank c).0 < k.winner.rank.0

pub margin-over : (c : Controller) → lt_z (pos 0) (look_of c).margin ≡ true → Over c (look_of c)
unfolding look_of current_rank
margin-over c h =
    let l : (higher_of (threshold_of c.scalars) (current_of c.scalars)).0 < (winner_of c).rank.0 = ltb-true _ _ (sym (margin-above c) ∙ h) in
    let g = higher-is (threshold_of c.scalars) (current_of c.scalars) in
    record { threshold = omega (arith, l, g.first); current = omega (arith, l, g.second) }

-- A winner above the threshold.
pub above-over : (c : Controller) → (look_of c).above ≡ true → (threshold_of c.scalars).0 < (look_of c).winner.rank.0
unfolding look_of
above-over c h = ltb-true _ _ h
