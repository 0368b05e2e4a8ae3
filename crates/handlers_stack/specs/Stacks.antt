-- Document 01, "What a machine holds": the stack of handlers.
use Rattle.std.specs.Prelude.{ℕ, zero, suc, ◌-◌, Bool, true, false, Option, None, Some, cond, ◌&&◌, ◌||◌, List, [], ◌∷◌, get_or, leb, ltb, eqb}
use Rattle.pic_source.specs.declared.Rank.{Rank}
use Rattle.pic_source.specs.Ranks.{rank}
use Rattle.pic_source.specs.Tests.{all_hold}
use Rattle.handlers_stack.specs.declared.Handler.{Handler}

-- A place of the stack that holds no handler yet.
abbrev pub blank : Handler
blank = record { source = 0; rank = rank 0; saved = rank 0; opened = 0 }

-- Handlers' sources are 1..N, their ranks are 1..15 and rise strictly; all below the uppermost are opened; each saved rank is the rank of the
-- handler below, and the lowest's is less than its own rank. One handler of n sources: whether it is the uppermost, whether it is the lowest, and the rank of the
-- handler below it.
abbrev pub handler_tests : ℕ → Bool → Bool → Rank → Handler → List Bool
handler_tests n top lowest below h =
    leb 1 h.source
    ∷ leb h.source n
    ∷ leb 1 h.rank.0
    ∷ leb h.rank.0 15
    ∷ (lowest || ltb below.0 h.rank.0)
    ∷ leb h.opened 1
    ∷ (top || eqb h.opened 1)
    ∷ (lowest || eqb h.saved.0 below.0)
    ∷ ltb h.saved.0 h.rank.0
    ∷ []

unfoldable pub handler_sound : ℕ → Bool → Bool → Rank → Handler → Bool
handler_sound n top lowest below h = all_hold (handler_tests n top lowest below h)

-- The same with the rank of the handler below, where there is one.
abbrev pub sound_over : ℕ → Bool → Option Rank → Handler → Bool
sound_over n top None h = handler_sound n top true (rank 0) h
sound_over n top (Some below) h = handler_sound n top false below h

-- Handler k, counted from the lowest, 0.
abbrev pub handler_at : List Handler → ℕ → Handler
handler_at stack k = get_or stack k blank

-- The uppermost handler of a stack of this depth, where there is one.
abbrev pub uppermost_of : List Handler → ℕ → Handler
uppermost_of stack depth = handler_at stack (depth - 1)

-- The rank of the handler below handler k; 0 for the lowest.
unfoldable pub below_of : List Handler → ℕ → Rank
below_of stack zero = rank 0
below_of stack (suc k) = (handler_at stack k).rank

-- Handler k of a stack of this depth.
abbrev pub sound_at : ℕ → ℕ → List Handler → ℕ → Bool
sound_at n depth stack k = handler_sound n (eqb (suc k) depth) (eqb k 0) (below_of stack k) (handler_at stack k)

-- So for the lowest k handlers.
unfoldable pub handlers_sound : ℕ → ℕ → List Handler → ℕ → Bool
handlers_sound n depth stack zero = true
handlers_sound n depth stack (suc k) = handlers_sound n depth stack k && sound_at n depth stack k

-- With handlers, current is the uppermost's rank if that is opened, else its saved rank.
unfoldable pub level_of : Handler → Rank
level_of h = cond (eqb h.opened 1) h.rank h.saved
