-- Document 01: what the controller answers to the layer above, and how a question is asked. No call of the controller asks whether it is sound: each has an
-- answer for every controller. Question 8 is the machine's.
use Rattle.std.specs.Prelude.{ℕ, ◌+◌, ◌*◌, ◌%◌, ◌^◌, Bool, cond, nat_lt}
use Rattle.pic_source.specs.declared.Rank.{Rank}
use Rattle.pic_source.specs.Ranks.{field_of}
use Rattle.pic.specs.declared.Controller.{Controller}
use Rattle.pic.specs.declared.Scalars.{Scalars}
use Rattle.pic_comparator.specs.declared.Winner.{Winner}
use Rattle.pic.specs.Outcome.{Outcome}
use Rattle.pic.specs.declared.Look.{Look}
use Rattle.pic.specs.Fields.{with_scalars, with_claim, with_claimed, with_current}
use Rattle.pic.specs.Sources.{threshold_of, current_of, winner_of, margin_of}
use Rattle.outcome.specs.Outcomes.{accepted_with, refused_with}
use Rattle.source_count.specs.Count.{is_count}
use Rattle.pic.specs.Sound.{initial}

-- The controller accepts an event: it hands back a controller and an answer, with no refusal.
abbrev pub accepts : Controller → ℕ → Outcome
accepts c a = accepted_with c a

-- The controller refuses an event: it answers 0 and the number, and is left as it was.
abbrev pub refuses : Controller → ℕ → Outcome
refuses c q = refused_with c q

-- A question of the controller's: no is the refusal q, yes goes on.
abbrev pub asks : Controller → Bool → ℕ → Outcome → Outcome
asks c answer q on = cond answer on (refuses c q)

-- 2. Is N in 2..255? No: 2, and power-on then hands back the machine of N 2.
unfoldable pub power_on_of : ℕ → Outcome
power_on_of n = cond (is_count n) (accepts (initial n) 0) (refuses (initial 2) 2)

-- N, the number of sources.
unfoldable pub source_count : Controller → ℕ
source_count c = c.sources

-- Priord, 0 or 1: whether the higher or the lower field is the higher rank.
unfoldable pub priority_order : Controller → ℕ
priority_order c = c.scalars.priord

-- The current rank.
unfoldable pub current_rank : Controller → Rank
current_rank c = current_of c.scalars

-- The controller with another current rank, as open and return set it: meicurpl holds the field of that rank under the priord of now.
unfoldable pub set_current : Controller → Rank → Controller
set_current c r = with_scalars c (with_current c.scalars (field_of c.scalars.priord r))

-- meihap = base + 4 × claim, a word of 32 bits. On a sound controller the sum fits (`meihap-exact`).
unfoldable pub meihap_of : ℕ → ℕ → ℕ
meihap_of base claim = (base + 4 * claim) % 2 ^ 32

-- Claim and claimed from a winner: meicidpl holds the field of its rank under the priord of now.
abbrev pub claim_by : Scalars → Winner → Scalars
claim_by v w = with_claimed (with_claim v w.source) (field_of v.priord w.rank)

-- A capture sets claim and claimed from the winner, threshold or not. The winner is handed in, so that one look at the sources is enough.
unfoldable pub capture_of : Controller → Winner → Controller
capture_of c w = with_scalars c (claim_by c.scalars w)

-- One look at the sources, for the layer above: the winner; whether it is above the threshold, of a rank greater than it; the margin; and what meihap is once the winner
-- is captured.
unfoldable pub look_of : Controller → Look
look_of c =
    record {
      winner = winner_of c;
      above = nat_lt (threshold_of c.scalars).0 (winner_of c).rank.0;
      margin = margin_of c;
      meihap = meihap_of c.scalars.base (winner_of c).source;
    }
