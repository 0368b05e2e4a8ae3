-- Document 01, "Lines, latches, winner", with the ranks of document 02, No. 4.
use Rattle.std.specs.Prelude.{◌≡◌, ℕ, zero, suc, ◌<◌, ◌≤◌, Bool, true, cond, ◌&&◌, ◌⊎◌, ℤ, pos, ◌-ℤ◌, ◌==◌, ◌≢◌, nat_le, nat_lt, slice_index, slice_set}
use Rattle.pic.specs.declared.Controller.{Controller}
use Rattle.pic.specs.declared.Scalars.{Scalars}
use Rattle.pic_source.specs.declared.Rank.{Rank}
use Rattle.pic_source.specs.declared.Field.{Field}
use Rattle.pic.specs.Fields.{with_latch}
use Rattle.pic_comparator.specs.declared.Winner.{Winner}
use Rattle.pic_comparator.specs.Comparator.{no_winner, entry_of, better_of}
use Rattle.pic_source.specs.Ranks.{field, rank_of}
use Rattle.pic_source.specs.Sources.{latch_after, is_pending, is_waiting}

-- "meiplS, meipt, meicidpl and meicurpl hold fields; the rank is worked out from field and priord at use." The field and the rank of a source.
abbrev pub field_at : Controller → ℕ → Field
field_at c s = field (slice_index c.field s)

abbrev pub rank_at : Controller → ℕ → Rank
rank_at c s = rank_of c.scalars.priord (field_at c s)

-- Enable, type (trigger here), polarity, line and latch of a source.
abbrev pub enable_at : Controller → ℕ → ℕ
enable_at c s = slice_index c.enable s

abbrev pub trigger_at : Controller → ℕ → ℕ
trigger_at c s = slice_index c.trigger s

abbrev pub polarity_at : Controller → ℕ → ℕ
polarity_at c s = slice_index c.polarity s

abbrev pub line_at : Controller → ℕ → ℕ
line_at c s = slice_index c.line s

abbrev pub latch_at : Controller → ℕ → ℕ
latch_at c s = slice_index c.latch s

-- Three ranks: threshold (meipt), claimed (meicidpl), current (meicurpl).
abbrev pub threshold_of : Scalars → Rank
threshold_of v = rank_of v.priord v.threshold

abbrev pub claimed_of : Scalars → Rank
claimed_of v = rank_of v.priord v.claimed

abbrev pub current_of : Scalars → Rank
current_of v = rank_of v.priord v.current

-- After each accepted event, a latch is set if its line is active, or if it was set and this event didn't clear it. Each event settles the latches that it
-- can have changed, this one that of source s; an event that clears a latch makes it 0 first. That the sentence holds of every source after every accepted event is
-- `LatchesFollow` of the machine's rules.
abbrev pub settle_at : Controller → ℕ → Controller
settle_at c s = with_latch c (slice_set c.latch s (latch_after (line_at c s) (polarity_at c s) (latch_at c s)))

-- Whether a source is pending.
abbrev pub pending_at : Controller → ℕ → Bool
pending_at c s = is_pending (trigger_at c s) (polarity_at c s) (line_at c s) (latch_at c s)

-- Whether a source is enabled and pending: a source that waits to be served.
abbrev pub waiting_at : Controller → ℕ → Bool
waiting_at c s = is_waiting (enable_at c s) (trigger_at c s) (polarity_at c s) (line_at c s) (latch_at c s)

-- It is eligible when enabled, pending and of rank 1 or more.
unfoldable pub is_eligible : ℕ → Bool → Rank → Bool
is_eligible enable pending r = enable == 1 && pending && nat_le 1 r.0

abbrev pub eligible_at : Controller → ℕ → Bool
eligible_at c s = is_eligible (enable_at c s) (pending_at c s) (rank_at c s)

-- What a source enters the comparison as: (number, rank) if it is eligible, else (0, 0).
abbrev pub entry_at : Controller → ℕ → Winner
entry_at c s = entry_of (eligible_at c s) s (rank_at c s)

-- The winner (01's word) among the sources 1 to n. `IsWinner` below is 01's sentence about it.
unfoldable pub winner_to : Controller → ℕ → Winner
winner_to c zero = no_winner
winner_to c (suc n) = better_of (winner_to c n) (entry_at c (suc n))

abbrev pub winner_of : Controller → Winner
winner_of c = winner_to c c.sources

-- s is one of the sources 1 to n, and eligible.
pub record Eligible (c : Controller) (n s : ℕ) : Type 0 where
  pub least : 1 ≤ s
  pub most : s ≤ n
  pub eligible : eligible_at c s ≡ true

-- w stands before the source s: s has a lower rank, or the same rank and a higher number.
abbrev pub Before : Controller → Winner → ℕ → Type 0
Before c w s = ((rank_at c s).0 < w.rank.0) ⊎ (((rank_at c s).0 ≡ w.rank.0) × (w.source < s))

-- The winner is the eligible source of highest rank, of equals the lowest number;
pub record HasWinner (c : Controller) (n : ℕ) (w : Winner) : Type 0 where
  pub eligible : Eligible c n w.source
  pub ranked : w.rank ≡ rank_at c w.source
  pub best : (s : ℕ) → Eligible c n s → (s ≢ w.source) → Before c w s

-- with none it is 0, of rank 0.
pub record HasNoWinner (c : Controller) (n : ℕ) (w : Winner) : Type 0 where
  pub none : (s : ℕ) → Eligible c n s → ⊥
  pub is_none : w ≡ no_winner

abbrev pub IsWinner : Controller → ℕ → Winner → Type 0
IsWinner c n w = HasWinner c n w ⊎ HasNoWinner c n w

-- The larger of two ranks.
unfoldable pub higher_of : Rank → Rank → Rank
higher_of a b = cond (nat_lt a.0 b.0) b a

-- One rank minus another, a signed number from −15 to 15.
unfoldable pub difference_of : Rank → Rank → ℤ
difference_of a b = pos a.0 -ℤ pos b.0

-- A rank minus the larger of threshold and current.
abbrev pub over_of : Controller → Rank → ℤ
over_of c r = difference_of r (higher_of (threshold_of c.scalars) (current_of c.scalars))

-- The margin (01's word) is the winner's rank minus the larger of threshold and current, a signed number from −15 to 15.
abbrev pub margin_of : Controller → ℤ
margin_of c = over_of c (winner_of c).rank
