-- Document 01, "Handler service", and the questions 15 to 21; document 02, No. 7: what each event does with mask and stack, and what it answers. The controller is
-- known by a look at its sources and by its current rank. The rules are total: on a service that is not sound they say what the code does.
use Rattle.std.specs.Prelude.{ℕ, ◌+◌, ◌-◌, ◌%◌, ◌^◌, Bool, cond, ◌&&◌, ◌||◌, pos, ◌==◌, int_lt, nat_le, nat_lt, slice_set}
use Rattle.outcome.specs.Outcomes.{accepted_with, refused_with}
use Rattle.pic.specs.declared.Look.{Look}
use Rattle.pic_source.specs.declared.Rank.{Rank}
use Rattle.pic_comparator.specs.declared.Winner.{Winner}
use Rattle.handlers_questions.specs.Questions.{may_commit}
use Rattle.handlers_stack.specs.declared.Handler.{Handler}
use Rattle.handlers_service.specs.declared.Service.{Service}
use Rattle.handlers_service.specs.Outcome.{Outcome}
use Rattle.handlers_service.specs.Fields.{with_mask, with_depth, with_stack, with_source, with_opened}
use Rattle.handlers_service.specs.Sound.{uppermost, is_open}

-- An accepted event hands back a service and its answer, with no refusal.
abbrev pub accepted : Service → ℕ → Outcome
accepted s a = accepted_with s a

-- A refused event answers 0 and the number, and leaves the service as it was.
abbrev pub refused : Service → ℕ → Outcome
refused s q = refused_with s q

-- A question: no is the refusal q, yes goes on.
abbrev pub ask : Service → Bool → ℕ → Outcome → Outcome
ask s answer q on = cond answer on (refused s q)

-- The handler of a winner, with current as saved, unopened.
abbrev pub handler_of : Winner → Rank → Handler
handler_of w current = record { source = w.source; rank = w.rank; saved = current; opened = 0 }

-- One handler more. The number has 8 bits, and with at most 15 handlers it does not wrap.
abbrev pub one_more : ℕ → ℕ
one_more depth = (depth + 1) % 2 ^ 8

-- Take: capture, push the winner with current as saved, unopened; mask 0. Answer: meihap.
abbrev pub pushed : Service → Winner → Rank → Service
pushed s w current = with_mask (with_depth (with_stack s (slice_set s.stack s.depth (handler_of w current))) (one_more s.depth)) 0

-- 15. Take: is mask 1? 16. Is the margin above 0?
unfoldable pub take_of : Service → Look → Rank → Outcome
take_of s k current =
    ask s (s.mask == 1) 15
    (ask s (int_lt (pos 0) k.margin) 16
    (accepted (pushed s k.winner current) k.meihap))

-- The service with another uppermost handler.
abbrev pub with_uppermost : Service → Handler → Service
with_uppermost s h = with_stack s (slice_set s.stack (s.depth - 1) h)

-- Open: uppermost, h, becomes opened (01's word), current takes its rank, mask 1. Answer: that rank.
abbrev pub marked : Service → Handler → Service
marked s h = with_mask (with_uppermost s (with_opened h 1)) 1

-- 17. Open, chain, return, and document 02's look and commit: is a handler open?
abbrev pub has_handler : Service → Bool
has_handler s = nat_lt 0 s.depth

-- 17. 18. Open: is the uppermost unopened?
unfoldable pub open_of : Service → Outcome
open_of s =
    ask s (has_handler s) 17
    (ask s ((uppermost s).opened == 0) 18
    (accepted (marked s (uppermost s)) (uppermost s).rank.0))

-- 17. 19. Chain, return, look, commit: is mask 0?
abbrev pub in_handler : Service → Outcome → Outcome
in_handler s on = ask s (has_handler s) 17 (ask s (s.mask == 0) 19 on)

-- A chain serves the winner if its rank equals the uppermost handler's and is above threshold.
abbrev pub serves_in : Handler → Look → Bool
serves_in h k = k.winner.rank.0 == h.rank.0 && k.above

abbrev pub serves : Service → Look → Bool
serves s k = serves_in (uppermost s) k

-- Chain: capture. If the winner's rank equals the uppermost handler's and is above threshold, its source replaces that handler's;
abbrev pub replaced : Service → Winner → Service
replaced s w = with_uppermost s (with_source (uppermost s) w.source)

-- answer meihap.
abbrev pub served : Service → Look → Outcome
served s k = accepted (replaced s k.winner) k.meihap

-- Else answer 0, and that is no chaining of the handler.
abbrev pub followed : Service → Look → Outcome
followed s k = cond (serves s k) (served s k) (accepted s 0)

-- 17. 19.
unfoldable pub chain_of : Service → Look → Outcome
chain_of s k = in_handler s (followed s k)

-- Return: pop; current takes the saved rank; mask 1. Answer: handlers still open.
abbrev pub popped : Service → Service
popped s = with_mask (with_depth s (s.depth - 1)) 1

-- 17. 19.
unfoldable pub return_of : Service → Outcome
return_of s = in_handler s (accepted (popped s) (s.depth - 1))

-- Set mask to the value. 20. Is the value 0 or 1? 21. Value 1: no handler, or the uppermost opened?
unfoldable pub set_mask_of : Service → ℕ → Outcome
set_mask_of s v =
    ask s (nat_le v 1) 20
    (ask s (v == 0 || is_open s) 21
    (accepted (with_mask s v) 0))

-- Document 02, No. 7: "the source that a chain would serve, or 0".
abbrev pub next_in : Handler → Look → ℕ
next_in h k = cond (serves_in h k) k.winner.source 0

abbrev pub next_source : Service → Look → ℕ
next_source s k = next_in (uppermost s) k

-- Look: it answers that source, "and changes nothing, with no capture". 17. 19.
unfoldable pub look_of : Service → Look → Outcome
look_of s k = in_handler s (accepted s (next_source s k))

-- Commit: 17. 19. 26, "after question 19". "It captures, replaces and answers as chain does."
unfoldable pub commit_of : Service → Look → ℕ → Outcome
commit_of s k n = in_handler s (ask s (may_commit n (next_source s k)) 26 (served s k))
