-- Question 14 of document 01, 24 and 26 of document 02, No. 4 and No. 7: what the controller's registers are asked because of the handlers, and what a commit is asked of its number.
use Rattle.std.specs.Prelude.{ℕ, ◌%◌, Bool, not, ◌&&◌, ◌||◌, eqb}

-- 14. Write to 0xBCC: is no handler open?
abbrev pub may_write : ℕ → ℕ → Bool
may_write a depth = not (eqb a 0xBCC) || eqb depth 0

-- "24 when a store to 0x3000 would change priord while a handler is open". It would where bit 0 of the value differs from priord.
abbrev pub switches : ℕ → ℕ → ℕ → Bool
switches offset v priord = eqb offset 0x3000 && not (eqb (v % 2) priord)

abbrev pub may_store : ℕ → ℕ → ℕ → ℕ → Bool
may_store offset v priord depth = not (switches offset v priord) || eqb depth 0

-- "26 when the committed number is 0 or isn't what a look would answer". The number is the whole address, so one above 255 is no source's.
abbrev pub may_commit : ℕ → ℕ → Bool
may_commit n next = not (eqb n 0) && eqb n next
