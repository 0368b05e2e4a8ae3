-- Document 02, No. 9: the ready sets of a controller.
use Rattle.std.specs.Prelude.{ℕ, ◌-◌, ◌<◌, ◌≡◌, Bool, true, cond, ◌&&◌, List, [], eqb, get_or}
use Rattle.pic_source.specs.Sources.{is_source, is_waiting}
use Rattle.pic_bits.specs.Bits.{source_of, word_of_bits}
use Rattle.pic_bits.specs.Tables.{table_of}
use Rattle.pic.specs.declared.Controller.{Controller}
use Rattle.pic.specs.Fields.{with_scalars, with_priord}
use Rattle.pic.specs.Calls.{priority_order}
use Rattle.pic.specs.Sources.{rank_at, enable_at, trigger_at, polarity_at, line_at, latch_at, winner_of, IsWinner}
use Rattle.pic.specs.Sound.{sound_of}
use Rattle.pic_sets.specs.Sets.{in_set, reversed_of}
use Rattle.pic_sets.specs.Laws.{differs}
use Rattle.pic_sets_winner.specs.Highest.{highest_of}

-- A source that is enabled and pending is ready.
unfoldable pub ready_at : Controller → ℕ → Bool
ready_at c s = is_source c.sources s && is_waiting (enable_at c s) (trigger_at c s) (polarity_at c s) (line_at c s) (latch_at c s)

-- "For each rank 0 to 15, a set of 256 bits holding the enabled pending sources of that rank": whether source s belongs to the set of rank r.
abbrev pub belongs : Controller → ℕ → ℕ → Bool
belongs c r s = ready_at c s && eqb r (rank_at c s).0

-- Sixteen sets, by whether each source is in the set of each rank: bit y of word x of a set is source 32 × x + y.
abbrev pub sets_by : (ℕ → ℕ → Bool) → List (List ℕ)
sets_by has = table_of 16 (λ (r : ℕ). table_of 8 (λ (x : ℕ). word_of_bits (λ (y : ℕ). has r (source_of x y))))

-- The sets worked out afresh.
unfoldable pub fresh_of : Controller → List (List ℕ)
fresh_of c = sets_by (belongs c)

-- Bit s of set r is 1 exactly for an enabled pending source of rank r.
abbrev pub Member : Type 0
Member = (c : Controller) (r s : ℕ) → r < 16 → s < 256 → in_set (fresh_of c) r s ≡ belongs c r s

-- "The winner is read from the highest non-empty set above 0": on a sound controller that is 01's winner, and the scan's.
abbrev pub WinnerRead : Type 0
WinnerRead = (c : Controller) → sound_of c ≡ true → IsWinner c c.sources (highest_of (fresh_of c)) × (highest_of (fresh_of c) ≡ winner_of c)

-- "Brought up to date by every event." Below the machine sets are handed in, right or not: c is the controller before the event, d the one after it. A bit changes
-- exactly where its source enters or leaves that set;
unfoldable pub moved_of : Controller → Controller → List (List ℕ) → List (List ℕ)
moved_of c d sets = sets_by (λ (r s : ℕ). differs (in_set sets r s) (differs (belongs c r s) (belongs d r s)))

-- and where priord is switched, which leaves all else as it was, the sixteen sets are reversed.
unfoldable pub followed_of : Controller → Controller → List (List ℕ) → List (List ℕ)
followed_of c d sets = cond (eqb (priority_order c) (priority_order d)) (moved_of c d sets) (reversed_of sets)

-- Sets that were right are right afterwards: whatever changed, if not priord;
abbrev pub MovedFresh : Type 0
MovedFresh = (c d : Controller) → moved_of c d (fresh_of c) ≡ fresh_of d

-- the controller with the other priord;
abbrev pub switched : Controller → Controller
switched c = with_scalars c (with_priord c.scalars (1 - c.scalars.priord))

abbrev pub SwitchedFresh : Type 0
SwitchedFresh = (c : Controller) → sound_of c ≡ true → reversed_of (fresh_of c) ≡ fresh_of (switched c)

-- and where one source changed, every set but those of its rank before and after is as it was.
abbrev pub OthersFresh : Type 0
OthersFresh =
    (c d : Controller) (s : ℕ) → ((r t : ℕ) → (t ≡ s → ⊥) → belongs c r t ≡ belongs d r t)
    → (r : ℕ) → (r ≡ (rank_at c s).0 → ⊥) → (r ≡ (rank_at d s).0 → ⊥) → get_or (fresh_of d) r [] ≡ get_or (fresh_of c) r []
