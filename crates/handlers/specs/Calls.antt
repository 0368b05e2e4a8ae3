-- Document 01, "Questions, first no decides": the published calls of the machine. 8 comes first.
use Rattle.std.specs.Prelude.{ℕ, cond, pos}
use Rattle.handlers.specs.declared.Machine.{Machine}
use Rattle.handlers.specs.Outcome.{Outcome}
use Rattle.handlers.specs.Margins.{Margin}
use Rattle.handlers.specs.Machines.{sound_of}
use Rattle.handlers.specs.Service.{ask, look_at, sample_event, load_event, store_event, csr_read_event, csr_write_event, take_event, open_event, chain_event, return_event, set_mask_event, clock_event, error_event, look_event, commit_event, sound_step_of}

-- 8. Is the machine sound? It comes before all else that an event is asked.
abbrev pub sound_first : Machine → Outcome → Outcome
sound_first m on = ask m (sound_of m) 8 on

unfoldable pub sample_of : Machine → ℕ → ℕ → Outcome
sample_of m x v = sound_first m (sample_event m x v)

unfoldable pub load_of : Machine → ℕ → Outcome
load_of m offset = sound_first m (load_event m offset)

unfoldable pub store_of : Machine → ℕ → ℕ → Outcome
store_of m offset v = sound_first m (store_event m offset v)

unfoldable pub csr_read_of : Machine → ℕ → Outcome
csr_read_of m a = sound_first m (csr_read_event m a)

unfoldable pub csr_write_of : Machine → ℕ → ℕ → Outcome
csr_write_of m a v = sound_first m (csr_write_event m a v)

unfoldable pub take_of : Machine → Outcome
take_of m = sound_first m (take_event m)

unfoldable pub open_of : Machine → Outcome
open_of m = sound_first m (open_event m)

unfoldable pub chain_of : Machine → Outcome
chain_of m = sound_first m (chain_event m)

unfoldable pub return_of : Machine → Outcome
return_of m = sound_first m (return_event m)

unfoldable pub set_mask_of : Machine → ℕ → Outcome
set_mask_of m v = sound_first m (set_mask_event m v)

unfoldable pub clock_of : Machine → Outcome
clock_of m = sound_first m (clock_event m)

unfoldable pub error_of : Machine → ℕ → Outcome
error_of m a = sound_first m (error_event m a)

unfoldable pub look_of : Machine → Outcome
look_of m = sound_first m (look_event m)

unfoldable pub commit_of : Machine → ℕ → Outcome
commit_of m s = sound_first m (commit_event m s)

-- Event: 8 comes first, then 6 and 7, then its kind's.
unfoldable pub step_of : Machine → ℕ → ℕ → Outcome
step_of m head value = sound_first m (sound_step_of m head value)

-- A query gives the margin for any sound machine; it has only 8. Refused, it answers 0 and the number.
unfoldable pub margin_answer : Machine → Margin
margin_answer m = cond (sound_of m) (record { margin = (look_at m).margin; refusal = 0 }) (record { margin = pos 0; refusal = 8 })
