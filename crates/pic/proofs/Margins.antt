-- The margin of a sound controller: from −15 to 15, and above 0 just where the winner is above threshold and current.
use Rattle.std.proofs.Common.{◌≡◌, ltb, pos}
use lib.Signed.{lt_z}
use Rattle.pic.specs.declared.Controller.{Controller}
use Rattle.pic.specs.Sources.{threshold_of, current_of, higher_of, difference_of, winner_of, margin_of}
use Rattle.pic.proofs.Difference.{Small, difference-small, above}
use Rattle.pic.proofs.Larger.{higher-is}
use Rattle.pic.proofs.Soundness.{Sound, threshold-small, current-small}
use Rattle.pic.proofs.Winning.{winner-small}

pub margin-small : (c : Controller) → Sound c → Small (margin_of c)
margin-small c h =
    difference-small (winner_of c).rank (higher_of (threshold_of c.scalars) (current_of c.scalars)) (winner-small c h).1
    ((higher-is (threshold_of c.scalars) (current_of c.scalars)).bounded 15 (threshold-small c.scalars h.ranges) (current-small c.scalars h.ranges))

-- The margin is above 0 just where the winner's rank is above the larger of threshold and current.
pub margin-above : (c : Controller) → lt_z (pos 0) (margin_of c) ≡ ltb (higher_of (threshold_of c.scalars) (current_of c.scalars)).0 (winner_of c).rank.0
unfolding difference_of
margin-above c = above (winner_of c).rank.0 (higher_of (threshold_of c.scalars) (current_of c.scalars)).0
