-- Document 01, "What a machine holds": mask and stack of handlers, and when they are sound.
use Rattle.std.specs.Prelude.{ℕ, Bool, ◌||◌, List, [], ◌∷◌, length, replicate, ◌==◌, nat_le}
use Rattle.pic_source.specs.declared.Rank.{Rank}
use Rattle.pic_source.specs.Tests.{all_hold}
use Rattle.handlers_stack.specs.declared.Handler.{Handler}
use Rattle.handlers_stack.specs.Stacks.{blank, uppermost_of, handlers_sound, level_of}
use Rattle.handlers_service.specs.declared.Service.{Service}

-- The uppermost handler, where there is one.
abbrev pub uppermost : Service → Handler
uppermost s = uppermost_of s.stack s.depth

-- Power-on sets the mask to 0, the stack empty.
abbrev pub no_handlers : Service
no_handlers = record { mask = 0; depth = 0; stack = replicate 15 blank }

-- With handlers, current is the uppermost's rank if that is opened, else its saved rank.
abbrev pub current_fits : Service → Rank → Bool
current_fits s current = s.depth == 0 || current.0 == (level_of (uppermost s)).0

-- There is no handler, or the uppermost is opened.
abbrev pub is_open : Service → Bool
is_open s = s.depth == 0 || (uppermost s).opened == 1

-- Mask is 1 only if there is no handler or the uppermost is opened.
abbrev pub mask_fits : Service → Bool
mask_fits s = s.mask == 0 || is_open s

-- The stack has fifteen places and at most 15 handlers; mask 0 or 1; what is said of each handler, with n sources; current and mask fit the uppermost.
abbrev pub sound_tests : Service → ℕ → Rank → List Bool
sound_tests s n current =
    (length s.stack == 15)
    ∷ nat_le s.depth 15
    ∷ nat_le s.mask 1
    ∷ handlers_sound n s.depth s.stack s.depth
    ∷ current_fits s current
    ∷ mask_fits s
    ∷ []

unfoldable pub sound_of : Service → ℕ → Rank → Bool
sound_of s n current = all_hold (sound_tests s n current)
