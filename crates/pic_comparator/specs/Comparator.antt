-- Document 02, No. 6: what a source enters as, and the two-way comparator.
use Rattle.std.specs.Prelude.{ℕ, ◌≤◌, ◌≡◌, ◌⊎◌, Bool, cond, ltb}
use Rattle.pic_source.specs.declared.Rank.{Rank}
use Rattle.pic_source.specs.Ranks.{rank}
use Rattle.pic_comparator.specs.declared.Winner.{Winner}

-- No source: (0, 0).
abbrev pub no_winner : Winner
no_winner = record { source = 0; rank = rank 0 }

-- "A source enters as (number, rank) if eligible, else (0, 0)."
unfoldable pub entry_of : Bool → ℕ → Rank → Winner
entry_of eligible s r = cond eligible (record { source = s; rank = r }) no_winner

-- "Of two, the right one passes only if its rank is strictly higher."
unfoldable pub better_of : Winner → Winner → Winner
better_of a b = cond (ltb a.rank.0 b.rank.0) b a

-- "Show that the comparator is associative": for any three, of equal ranks and (0, 0) too.
abbrev pub Associative : Type 0
Associative = (a b c : Winner) → better_of a (better_of b c) ≡ better_of (better_of a b) c

-- What a source can enter as: with a rank of 1 or more, or as (0, 0).
abbrev pub Entered : Winner → Type 0
Entered w = (1 ≤ w.rank.0) ⊎ (w ≡ no_winner)

-- (0, 0) is neutral for what a source can enter as.
pub record Neutral : Type 0 where
  -- On the right it is for anything;
  pub right : (w : Winner) → better_of w no_winner ≡ w
  -- on the left for what a source can enter as,
  pub left : (w : Winner) → Entered w → better_of no_winner w ≡ w
  -- and not for a number with rank 0: that doesn't pass.
  pub stopped : (w : Winner) → w.rank.0 ≡ 0 → better_of no_winner w ≡ no_winner
