-- Document 02, No. 4: the ranks of a controller under one priord and under the other.
use Rattle.std.specs.Prelude.{ℕ, ◌-◌, ◌≤◌, ◌≡◌}
use Rattle.pic_source.specs.Ranks.{rank}
use Rattle.pic.specs.declared.Controller.{Controller}
use Rattle.pic.specs.Fields.{with_scalars, with_priord}
use Rattle.pic.specs.Sources.{rank_at, threshold_of, claimed_of}
use Rattle.pic.specs.Calls.{source_count, current_rank}

-- The controller with this priord, and nothing else changed: "the supplier's registers keep the written field when priord switches".
abbrev pub ordered : Controller → ℕ → Controller
ordered c p = with_scalars c (with_priord c.scalars p)

-- "The rank is worked out from field and priord at use": each rank r of c is 15 − r in d, of every source and of the three registers.
pub record Turned (c d : Controller) : Type 0 where
  pub source : (s : ℕ) → 1 ≤ s → s ≤ source_count c → (rank_at d s).0 ≡ 15 - (rank_at c s).0
  pub threshold : (threshold_of d.scalars).0 ≡ 15 - (threshold_of c.scalars).0
  pub claimed : (claimed_of d.scalars).0 ≡ 15 - (claimed_of c.scalars).0
  pub current : (current_rank d).0 ≡ 15 - (current_rank c).0

-- "All these ranks" are r.
pub record AllRanks (c : Controller) (r : ℕ) : Type 0 where
  pub source : (s : ℕ) → 1 ≤ s → s ≤ source_count c → rank_at c s ≡ rank r
  pub threshold : threshold_of c.scalars ≡ rank r
  pub claimed : claimed_of c.scalars ≡ rank r
  pub current : current_rank c ≡ rank r
