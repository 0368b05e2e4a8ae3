-- Document 01, "Bench points K1 to K10", the ends of the margin, the listing of "The player", a list that nests fifteen handlers, and the timers, the mirror, the
-- compact reader, the fields, the error counters, the comparator tree, looks and commits, the retired kind of document 02: one table about the rules. A point is a list of events played from power-on,
-- each event with what it must answer or be refused with, and what the machine must hold after it, or what passes at the root of a tree over its sources; or bytes, and
-- what a reader or a player must answer; or heads and values, and what the writer must.
use Rattle.std.specs.Prelude.{ℕ, zero, suc, ◌+◌, ◌*◌, ◌%◌, ◌^◌, ◌≤◌, ◌≡◌, Bool, true, false, cond, List, [], ◌∷◌, ◌++◌, take as first, ℤ, pos, negsuc}
use Prim.Native.String.{String}
use Rattle.event.specs.Kinds as kind
use Rattle.event.specs.Event.{kind_of, address_of, head_of, no_kind}
use Rattle.event.specs.Listing.{listing_sources, listing_heads, listing_values}
use Rattle.pic_source.specs.declared.Rank.{Rank}
use Rattle.pic_source.specs.Ranks.{rank, field}
use Rattle.pic_source.specs.ClosedForm.{closed_form}
use Rattle.pic_comparator.specs.Comparator.{no_winner, better_of}
use Rattle.pic_comparator.specs.Trees.{Tree, unused, leaf, node, balanced_of}
use Rattle.pic.specs.Fields.{with_scalars, with_current}
use Rattle.pic.specs.Sources.{field_at, rank_at, eligible_at, winner_of}
use Rattle.pic.specs.Sound.{initial}
use Rattle.pic_tree.specs.Tree.{root_of, tree_winner}
use Rattle.pic.specs.Calls.{source_count, priority_order, current_rank}
use Rattle.counters_timers.specs.Timers.{with_control, reset_timer}
use Rattle.counters_errors.specs.Errors.{counter_of, held_of}
use Rattle.counters.specs.Csrs.{put_timer}
use Rattle.handlers_stack.specs.declared.Handler.{Handler}
use Rattle.handlers.specs.declared.Machine.{Machine}
use Rattle.handlers.specs.Fields.{with_controller, with_counters}
use Rattle.handlers.specs.Machines.{sound_of, power_on_of}
use Rattle.handlers.specs.Calls.{store_of, clock_of, error_of, look_of, commit_of, step_of, margin_answer}
use Rattle.handlers_laws.specs.Errors.{with_counter}
use Rattle.nesting.specs.Claim.{Class, is_taking, is_chaining, is_return, is_other}
use Rattle.claims.specs.Play.{end_of, answers_of, refusals_of}
use Rattle.claims.specs.Nested.{class_by}
use Rattle.record.specs.Verdict.{Verdict}
use Rattle.record.specs.Record.{record_of}
use Rattle.record.specs.Questions.{verdict, no_refusal, board_verdict, compact_verdict, write_verdict}
use Rattle.record.specs.Words.{bytes_of_words}
use Rattle.digits.specs.Ascii.{ascii}
use Rattle.playback.specs.Print.{end_line, print_of, compact_print_of}

-- A row: an event, "a head and a value", with the answer and the refusal that it must get.
pub record Row : Type 0 where
  pub head : ℕ
  pub value : ℕ
  pub answer : ℕ
  pub refusal : ℕ

-- An event of this kind, address and value, accepted. "Answers not named are 0."
abbrev pub event : ℕ → ℕ → ℕ → Row
event k address value = record { head = head_of k address; value = value; answer = 0; refusal = 0 }

-- The same event with another answer.
infix 80 ◌answers◌
abbrev pub ◌answers◌ : Row → ℕ → Row
e answers a = record { head = e.head; value = e.value; answer = a; refusal = 0 }

-- The same event refused. "A refused event answers 0 and the number."
infix 80 ◌refused◌
abbrev pub ◌refused◌ : Row → ℕ → Row
e refused q = record { head = e.head; value = e.value; answer = 0; refusal = q }

-- The kinds, by their numbers in the documents. Sample: a word number and its bits. Load and store: an offset. CSR read and write: a CSR. Set mask: the value. Error: the counter. Commit: the
-- source.
abbrev pub sample : ℕ → ℕ → Row
sample x v = event 0 x v

abbrev pub load : ℕ → Row
load offset = event 1 offset 0

abbrev pub store : ℕ → ℕ → Row
store offset v = event 2 offset v

abbrev pub csr_read : ℕ → Row
csr_read a = event 3 a 0

abbrev pub csr_write : ℕ → ℕ → Row
csr_write a v = event 4 a v

abbrev pub take : Row
take = event 5 0 0

abbrev pub open-handler : Row
open-handler = event 6 0 0

abbrev pub chain : Row
chain = event 7 0 0

abbrev pub return : Row
return = event 8 0 0

abbrev pub mask : ℕ → Row
mask v = event 9 0 v

abbrev pub clock : Row
clock = event 10 0 0

abbrev pub error : ℕ → Row
error i = event 11 i 0

abbrev pub look : Row
look = event 12 0 0

abbrev pub commit : ℕ → Row
commit s = event 13 s 0

-- Offsets of registers, of source s or of word x, and the CSRs.
abbrev pub meipl : ℕ → ℕ
meipl s = 4 * s

abbrev pub meip : ℕ → ℕ
meip x = 0x1000 + 4 * x

abbrev pub meie : ℕ → ℕ
meie s = 0x2000 + 4 * s

abbrev pub mpiccfg : ℕ
mpiccfg = 0x3000

abbrev pub meigwctrl : ℕ → ℕ
meigwctrl s = 0x4000 + 4 * s

abbrev pub meigwclr : ℕ → ℕ
meigwclr s = 0x5000 + 4 * s

abbrev pub meivt : ℕ
meivt = 0xBC8

abbrev pub meipt : ℕ
meipt = 0xBC9

abbrev pub meicpct : ℕ
meicpct = 0xBCA

abbrev pub meicidpl : ℕ
meicidpl = 0xBCB

abbrev pub meicurpl : ℕ
meicurpl = 0xBCC

abbrev pub meihap : ℕ
meihap = 0xFC8

-- Counter, bound and control of timer i.
abbrev pub mitcnt : ℕ → ℕ
mitcnt i = 0x7D2 + 3 * i

abbrev pub mitb : ℕ → ℕ
mitb i = 0x7D3 + 3 * i

abbrev pub mitctl : ℕ → ℕ
mitctl i = 0x7D4 + 3 * i

-- The CSR of error counter i: micect, miccmect, mdccmect.
abbrev pub ect : ℕ → ℕ
ect i = 0x7F0 + i

-- The columns of a list of rows.
abbrev pub head_column : List Row → List ℕ
head_column [] = []
head_column (e ∷ es) = e.head ∷ head_column es

abbrev pub value_column : List Row → List ℕ
value_column [] = []
value_column (e ∷ es) = e.value ∷ value_column es

abbrev pub answer_column : List Row → List ℕ
answer_column [] = []
answer_column (e ∷ es) = e.answer ∷ answer_column es

abbrev pub refusal_column : List Row → List ℕ
refusal_column [] = []
refusal_column (e ∷ es) = e.refusal ∷ refusal_column es

-- The rows of a list that are chainings in demand 3.
abbrev pub is_chaining_class : Class → Bool
is_chaining_class is_taking = false
is_chaining_class is_chaining = true
is_chaining_class is_return = false
is_chaining_class is_other = false

abbrev pub chainings : List Row → List Row
chainings [] = []
chainings (e ∷ es) = cond (is_chaining_class (class_by (kind_of e.head) (record { answer = e.answer; refusal = e.refusal }))) (e ∷ chainings es) (chainings es)

-- The machine that power-on with N hands back.
abbrev pub start : ℕ → Machine
start n = (power_on_of n).machine

-- The machine after a list, from power-on with N.
abbrev pub after : ℕ → List Row → Machine
after n es = end_of (start n) (head_column es) (value_column es)

-- A list gets its answers and its refusals, from power-on with N.
abbrev pub Plays : ℕ → List Row → Type 0
Plays n es =
    (answers_of (start n) (head_column es) (value_column es) ≡ answer_column es) × (refusals_of (start n) (head_column es) (value_column es) ≡ refusal_column es)

-- Source s is the machine's winner, at rank r.
abbrev pub Wins : Machine → ℕ → ℕ → Type 0
Wins m s r = winner_of m.controller ≡ record { source = s; rank = rank r }

-- What passes at the root of a tree of comparators.
abbrev pub Passes : Machine → Tree → ℕ → ℕ → Type 0
Passes m t s r = root_of m.controller t ≡ record { source = s; rank = rank r }

-- The margin query is accepted and gives z.
abbrev pub HasMargin : Machine → ℤ → Type 0
HasMargin m z = margin_answer m ≡ record { margin = z; refusal = 0 }

-- A handler by its source, rank and saved rank, and whether it is opened.
abbrev pub handler : ℕ → ℕ → ℕ → ℕ → Handler
handler source r saved opened = record { source = source; rank = rank r; saved = rank saved; opened = opened }

-- What a machine holds of its handlers: how many are on the stack, those, the lowest first, and the current rank.
pub record Handlers : Type 0 where
  pub depth : ℕ
  pub handlers : List Handler
  pub current : Rank

abbrev pub handlers_of : Machine → Handlers
handlers_of m = record { depth = m.service.depth; handlers = first m.service.depth m.service.stack; current = current_rank m.controller }

-- It holds so many handlers, these, at this current rank.
abbrev pub Holds : Machine → ℕ → List Handler → ℕ → Type 0
Holds m depth handlers current = handlers_of m ≡ record { depth = depth; handlers = handlers; current = rank current }

-- K1: field 5, priord set.
abbrev pub reversed : List Row
reversed = store (meipl 2) 5 ∷ store mpiccfg 1 ∷ []

-- Threshold and current take these fields.
abbrev pub over : ℕ → ℕ → List Row
over t c = csr_write meipt t ∷ csr_write meicurpl c ∷ []

-- K2: threshold and current of rank 0, source 2 enabled and its line up, but of the rank that field 15 gives when priord is 1.
abbrev pub mirrored : List Row
mirrored = store mpiccfg 1 ∷ over 15 15 ++ (store (meipl 2) 15 ∷ store (meie 2) 1 ∷ sample 0 4 ∷ mask 1 ∷ [])

-- K3: sources 2 and 3 enabled at rank 5, both lines up, interrupts on.
abbrev pub two-and-three : List Row
two-and-three =
    store (meie 2) 1 ∷ store (meie 3) 1 ∷ store (meipl 2) 5 ∷ store (meipl 3) 5 ∷ sample 0 12 ∷ mask 1 ∷ []

-- K4: source 2 enabled at rank 5, its line up, interrupts on, with this threshold.
abbrev pub threshold : ℕ → List Row
threshold t = store (meie 2) 1 ∷ store (meipl 2) 5 ∷ sample 0 4 ∷ mask 1 ∷ csr_write meipt t ∷ []

-- K9: source 3 captured, and meivt written only then, so that an old base would show.
abbrev pub moved : List Row
moved =
    store (meie 3) 1 ∷ store (meipl 3) 5 ∷ sample 0 8 ∷ csr_write meicpct 0 ∷ csr_read meihap answers 12 ∷ csr_write meivt 0x12345678 ∷ []

-- K10: sources 1 and 2 enabled at rank 15; 1 taken and opened, then its line down and the line of 2 up.
abbrev pub both-15 : List Row
both-15 =
    store (meie 1) 1
    ∷ store (meie 2) 1
    ∷ store (meipl 1) 15
    ∷ store (meipl 2) 15
    ∷ sample 0 2
    ∷ mask 1
    ∷ take answers 4
    ∷ open-handler answers 15
    ∷ sample 0 4
    ∷ []

-- Masked, the handler chains to source 2.
abbrev pub served-15 : List Row
served-15 = both-15 ++ (mask 0 ∷ chain answers 8 ∷ [])

-- Or it looks, and commits source 2.
abbrev pub looked-15 : List Row
looked-15 = both-15 ++ (mask 0 ∷ look answers 2 ∷ [])

abbrev pub committed-15 : List Row
committed-15 = looked-15 ++ (commit 2 answers 8 ∷ [])

-- Source 1 enabled at rank 15, its line up, with this threshold and this current rank.
abbrev pub highest : ℕ → ℕ → List Row
highest t c = store (meie 1) 1 ∷ store (meipl 1) 15 ∷ sample 0 2 ∷ over t c

-- The machine after the listing.
abbrev pub listing-end : Machine
listing-end = end_of (start listing_sources) listing_heads listing_values

-- Its print.
abbrev pub listing-text : String
listing-text =
    "sources 4 events 10\n0 2 0 0\n1 2 0 0\n2 0 0 0\n3 5 0 15\n4 9 0 0\n5 5 8 0\n6 6 5 0\n7 8 0 19\n8 9 0 0\n9 8 0 0\nend open 0 level 0 margin 5\n"

-- Source s enabled with field r, which is its rank while priord is 0.
abbrev pub enabled : ℕ → ℕ → List Row
enabled s r = store (meipl s) r ∷ store (meie s) 1 ∷ []

-- Sources 1 to n enabled, each at the rank that is its number.
abbrev pub ranked : ℕ → List Row
ranked zero = []
ranked (suc n) = ranked n ++ enabled (suc n) (suc n)

-- The line of source s alone up; s taken, with this answer, and opened, of rank s.
abbrev pub nest : ℕ → ℕ → List Row
nest s a = sample 0 (2 ^ s) ∷ take answers a ∷ open-handler answers s ∷ []

-- The line of source 16 alone up, of the rank of handler 7, which chains to it.
abbrev pub serve : List Row
serve = sample 0 (2 ^ 16) ∷ take refused 16 ∷ mask 0 ∷ chain answers 64 ∷ mask 1 ∷ []

-- The line of source 17 alone up, of the rank of handler 12, which looks and commits it.
abbrev pub serve-looked : List Row
serve-looked = sample 0 (2 ^ 17) ∷ take refused 16 ∷ mask 0 ∷ look answers 17 ∷ commit 17 answers 68 ∷ mask 1 ∷ []

-- All n handlers return, one after the other; each return answers how many are still open.
abbrev pub leave : ℕ → List Row
leave zero = []
leave (suc n) = mask 0 ∷ return answers n ∷ leave n

-- Sources 1 to 15 nest, with a chaining by the seventh handler, and one by a commit of the twelfth.
abbrev pub fifteen-up : List Row
fifteen-up =
    ranked 15
    ++ enabled 16 7
    ++ enabled 17 12
    ++ (mask 1 ∷ [])
    ++ nest 1 4
    ++ nest 2 8
    ++ nest 3 12
    ++ nest 4 16
    ++ nest 5 20
    ++ nest 6 24
    ++ nest 7 28
    ++ serve
    ++ nest 8 32
    ++ nest 9 36
    ++ nest 10 40
    ++ nest 11 44
    ++ nest 12 48
    ++ serve-looked
    ++ nest 13 52
    ++ nest 14 56
    ++ nest 15 60

-- At the height nothing more is taken; all return.
abbrev pub fifteen-down : List Row
fifteen-down = take refused 16 ∷ leave 15

-- The handlers at the height.
abbrev pub fifteen-handlers : List Handler
fifteen-handlers =
    handler 1 1 0 1
    ∷ handler 2 2 1 1
    ∷ handler 3 3 2 1
    ∷ handler 4 4 3 1
    ∷ handler 5 5 4 1
    ∷ handler 6 6 5 1
    ∷ handler 16 7 6 1
    ∷ handler 8 8 7 1
    ∷ handler 9 9 8 1
    ∷ handler 10 10 9 1
    ∷ handler 11 11 10 1
    ∷ handler 17 12 11 1
    ∷ handler 13 13 12 1
    ∷ handler 14 14 13 1
    ∷ handler 15 15 14 1
    ∷ []

-- Timer i with this counter, bound and control.
abbrev pub timer : ℕ → ℕ → ℕ → ℕ → List Row
timer i count bound control = csr_write (mitcnt i) count ∷ csr_write (mitb i) bound ∷ csr_write (mitctl i) control ∷ []

-- The counters of both timers.
abbrev pub counts : ℕ → ℕ → List Row
counts a b = csr_read (mitcnt 0) answers a ∷ csr_read (mitcnt 1) answers b ∷ []

-- Sources 1 and 2 nest with clocks before, between and after their taking and opening; timer 0 has the bound 3, and timer 1 counts on.
abbrev pub nested-up : List Row
nested-up =
    csr_write (mitb 0) 3
    ∷ ranked 2
    ++ (mask 1 ∷ clock ∷ sample 0 2 ∷ take answers 4 ∷ clock ∷ open-handler answers 1 ∷ clock ∷ sample 0 4 ∷ clock answers 1 ∷ take answers 8 ∷ clock ∷ open-handler answers 2 ∷ [])

abbrev pub nested-down : List Row
nested-down = clock ∷ mask 0 ∷ clock ∷ return answers 1 ∷ clock answers 1 ∷ mask 0 ∷ return answers 0 ∷ clock ∷ []

-- A machine as power-on leaves it, but for the control of timer 1.
abbrev pub controlled : ℕ → Machine
controlled v = with_counters (start 4) (put_timer (start 4).counters 1 (with_control reset_timer v))

-- The sizes of a record, n and N, and no event behind them.
abbrev pub sizes : ℕ → ℕ → List ℕ
sizes n N = bytes_of_words (n ∷ N ∷ [])

-- What a reader answers to each n and N, with no event behind them.
abbrev pub sizes_column : (List ℕ → Verdict) → List (ℕ × ℕ) → List Verdict
sizes_column reader [] = []
sizes_column reader ((n, N) ∷ rest) = reader (sizes n N) ∷ sizes_column reader rest

-- N and n around the limits of both readers, and both too large.
abbrev pub around : List (ℕ × ℕ)
around =
    (0, 1) ∷ (0, 2) ∷ (0, 63) ∷ (0, 64) ∷ (0, 255) ∷ (0, 256) ∷ (500, 63) ∷ (501, 63) ∷ (4000, 63) ∷ (4001, 63) ∷ (501, 64) ∷ (5000, 64) ∷ (5000, 256) ∷ []

-- The closed form of the mirror at the fields 0 to n − 1.
abbrev pub closed_column : ℕ → ℕ → List ℤ
closed_column priord zero = []
closed_column priord (suc n) = closed_column priord n ++ (closed_form (pos priord) (pos n) ∷ [])

-- With priord 1, the rank of source 2 after each of these fields is stored alone.
abbrev pub rank_column : ℕ → List Rank
rank_column zero = []
rank_column (suc n) = rank_column n ++ (rank_at (after 4 (store mpiccfg 1 ∷ store (meipl 2) n ∷ [])).controller 2 ∷ [])

-- Each of these fields, the last first, is stored to meipl2 and read back.
abbrev pub stored : ℕ → List Row
stored zero = []
stored (suc n) = store (meipl 2) n ∷ load (meipl 2) answers n ∷ stored n

-- This field is written to the three CSRs of ranks; they read this field.
abbrev pub csrs-written : ℕ → List Row
csrs-written f = csr_write meipt f ∷ csr_write meicidpl f ∷ csr_write meicurpl f ∷ []

abbrev pub csrs-read : ℕ → List Row
csrs-read f = csr_read meipt answers f ∷ csr_read meicidpl answers f ∷ csr_read meicurpl answers f ∷ []

-- Power-on, and then priord 1: source 2 enabled and its line up, interrupts on.
abbrev pub from-power-on : List Row
from-power-on = store mpiccfg 1 ∷ store (meie 2) 1 ∷ sample 0 4 ∷ mask 1 ∷ []

-- Source 1 has field 3, source 2 field 12, source 3 field 1; threshold and current have field 7. With priord 0 source 2 alone is above them, with priord 1
-- sources 1 and 3 are. The lines of 1 and 2 are up.
abbrev pub three-fields : List Row
three-fields = enabled 1 3 ++ enabled 2 12 ++ enabled 3 1 ++ over 7 7 ++ (sample 0 6 ∷ mask 1 ∷ [])

-- Source 2 taken and opened, at rank 12. While it is open priord stays: 24 for the other one, whatever the value's other bits; the same one is accepted; beside
-- mpiccfg 11 and 10 come first, and a store that is dropped is accepted. Then it returns.
abbrev pub high-first : List Row
high-first =
    take answers 8
    ∷ store mpiccfg 1 refused 24
    ∷ store mpiccfg 0
    ∷ open-handler answers 12
    ∷ csr_read meicurpl answers 12
    ∷ store mpiccfg 0xFFFFFFFF refused 24
    ∷ store mpiccfg 0xFFFFFFFE
    ∷ store 0x3002 1 refused 11
    ∷ store 0xB000 1 refused 10
    ∷ store 0x3004 1
    ∷ load mpiccfg answers 0
    ∷ mask 0
    ∷ return answers 0
    ∷ csr_read meicurpl answers 7
    ∷ []

-- Then priord switches, and with nothing else written source 1 is taken, at rank 12, and in it source 3, at rank 14. meicurpl holds fields: 3, and 1.
abbrev pub low_first : List Row
low_first =
    store mpiccfg 1
    ∷ csr_read meicurpl answers 7
    ∷ take answers 4
    ∷ csr_read meicidpl answers 3
    ∷ store mpiccfg 0 refused 24
    ∷ open-handler answers 12
    ∷ csr_read meicurpl answers 3
    ∷ sample 0 14
    ∷ take answers 12
    ∷ open-handler answers 14
    ∷ csr_read meicurpl answers 1
    ∷ []

-- Both return, and priord switches back.
abbrev pub both-back : List Row
both-back =
    mask 0
    ∷ return answers 1
    ∷ csr_read meicurpl answers 3
    ∷ store mpiccfg 2 refused 24
    ∷ mask 0
    ∷ return answers 0
    ∷ csr_read meicurpl answers 7
    ∷ store mpiccfg 0
    ∷ take answers 8
    ∷ []

-- A machine with this field in meicurpl.
abbrev pub with-meicurpl : Machine → ℕ → Machine
with-meicurpl m f = with_controller m (with_scalars m.controller (with_current m.controller.scalars (field f)))

-- What an error counter reads: its threshold and its count.
abbrev pub register : ℕ → ℕ → ℕ
register t n = t * 2 ^ 27 + n

-- The three error counters read these.
abbrev pub ects : ℕ → ℕ → ℕ → List Row
ects a b c = csr_read (ect 0) answers a ∷ csr_read (ect 1) answers b ∷ csr_read (ect 2) answers c ∷ []

-- What is read where each threshold below t is written with the count 5, the last last.
abbrev pub held_column : ℕ → List ℕ
held_column zero = []
held_column (suc t) = held_column t ++ ((held_of (register t 5)).0 ∷ [])

-- The thresholds below t with the count 5.
abbrev pub registers : ℕ → List ℕ
registers zero = []
registers (suc t) = registers t ++ (register t 5 ∷ [])

-- An error in counter i, with this answer, and what it reads then: in hexadecimal 0x08000000 is threshold 1, 0xC8000000 is 25 and 0xD0000000 is 26.
abbrev pub counts-to : ℕ → ℕ → ℕ → List Row
counts-to i a r = error i answers a ∷ csr_read (ect i) answers r ∷ []

-- Sources 1 and 2 nest with errors before, between and after their taking and opening; counter 1 has threshold 1. Source 3 chains, and all return.
abbrev pub erring-up : List Row
erring-up =
    csr_write (ect 1) 0x08000001
    ∷ ranked 2
    ++ enabled 3 2
    ++ (mask 1
    ∷ sample 0 2
    ∷ take answers 4
    ∷ error 1 answers 1
    ∷ open-handler answers 1
    ∷ error 3 refused 25
    ∷ sample 0 4
    ∷ take answers 8
    ∷ error 1 answers 1
    ∷ open-handler answers 2
    ∷ error 0 answers 1
    ∷ sample 0 8
    ∷ mask 0
    ∷ chain answers 12
    ∷ [])

abbrev pub erring-down : List Row
erring-down = error 2 answers 1 ∷ return answers 1 ∷ error 1 ∷ mask 0 ∷ return answers 0 ∷ ects 1 0x08000004 1

-- A machine as power-on leaves it, but for error counter 1.
abbrev pub erring : ℕ → ℕ → Machine
erring t n = with_counter (start 4) 1 (counter_of t n)

-- A look that has gone stale: between it and the commit the line of source 2 falls, its rank changes, the threshold reaches it, and it is disabled. Each time the commit is
-- refused; put back, a look answers 2 again. No look and no refused commit captured: meihap is still source 1's.
abbrev pub stale : List Row
stale =
    looked-15
    ++ (sample 0 0 ∷ commit 2 refused 26 ∷ look answers 0 ∷ sample 0 4 ∷ look answers 2 ∷ [])
    ++ (store (meipl 2) 14 ∷ commit 2 refused 26 ∷ look answers 0 ∷ store (meipl 2) 15 ∷ look answers 2 ∷ [])
    ++ (csr_write meipt 15 ∷ commit 2 refused 26 ∷ look answers 0 ∷ csr_write meipt 14 ∷ look answers 2 ∷ [])
    ++ (store (meie 2) 0 ∷ commit 2 refused 26 ∷ look answers 0 ∷ store (meie 2) 1 ∷ look answers 2 ∷ [])
    ++ (csr_read meihap answers 4 ∷ [])

-- Wrong numbers where a look answers 2: 0, the handler's own, another source, none of N 4, and three of which some bits are 2.
abbrev pub wrong : List Row
wrong =
    both-15
    ++ (mask 0
    ∷ commit 0 refused 26
    ∷ commit 1 refused 26
    ∷ commit 3 refused 26
    ∷ commit 5 refused 26
    ∷ commit 0x102 refused 26
    ∷ commit 0x8002 refused 26
    ∷ commit 0xFFFF refused 26
    ∷ csr_read meihap answers 4
    ∷ [])

-- A handler of rank 5, with a winner of another rank: no chain would serve it, so a look answers 0 and a commit of it is refused. The chain captures it all the same.
abbrev pub other-rank : ℕ → List Row
other-rank r =
    store (meie 1) 1
    ∷ store (meie 2) 1
    ∷ store (meipl 1) 5
    ∷ sample 0 2
    ∷ mask 1
    ∷ take answers 4
    ∷ sample 0 4
    ∷ store (meipl 2) r
    ∷ look answers 0
    ∷ commit 2 refused 26
    ∷ commit 0 refused 26
    ∷ csr_read meihap answers 4
    ∷ chain answers 0
    ∷ csr_read meihap answers 8
    ∷ []

-- The record of a list, N 4, and what the writer answers to heads and values, N 4, with room for twelve events.
abbrev pub recorded : List Row → List ℕ
recorded es = record_of 4 (head_column es) (value_column es)

abbrev pub writing : List ℕ → List ℕ → Verdict
writing heads values = write_verdict 4 heads values 104

-- K10 with its chain and a return, as an old record, and what that prints.
abbrev pub old-k10 : List ℕ
old-k10 = recorded (served-15 ++ (return answers 0 ∷ []))

abbrev pub old-k10-text : String
old-k10-text =
    "sources 4 events 12\n0 2 0 0\n1 2 0 0\n2 2 0 0\n3 2 0 0\n4 0 0 0\n5 9 0 0\n6 5 4 0\n7 6 15 0\n8 0 0 0\n9 9 0 0\n10 7 8 0\n11 8 0 0\nend open 0 level 0 margin 15\n"

-- The table.
pub record Points : Type 0 where
  -- K1, as document 02, No. 4, changes it: "field 5, priord set, reads 5, rank 10".
  pub k1 : Plays 4 (reversed ++ (load (meipl 2) answers 5 ∷ []))
  pub k1-rank : rank_at (after 4 reversed).controller 2 ≡ rank 10
  -- K2 priord 1, field 15 stored: never eligible. It is pending, it reads 15 again, and it is not taken.
  pub k2 : Plays 4 (mirrored ++ (load (meip 0) answers 4 ∷ load (meipl 2) answers 15 ∷ take refused 16 ∷ []))
  pub k2-winner : Wins (after 4 mirrored) 0 0
  -- "K2 holds while priord is 1": for every machine with priord 1 and every source that holds 15. A store of 15 makes it hold that, on every sound machine, and no
  -- event that is not a store to that register changes it.
  pub k2-never : (m : Machine) (s : ℕ) → priority_order m.controller ≡ 1 → field_at m.controller s ≡ field 15 → eligible_at m.controller s ≡ false
  pub k2-stored : (m : Machine) (s v : ℕ) → sound_of m ≡ true → 1 ≤ s → s ≤ source_count m.controller
      → field_at (store_of m (meipl s) v).machine.controller s ≡ field (v % 16)
  pub k2-kept : (m : Machine) (head value s : ℕ) → (kind_of head ≡ kind.store → address_of head ≡ meipl s → ⊥)
      → field_at (step_of m head value).machine.controller s ≡ field_at m.controller s
  -- Switched back, field 15 is rank 15.
  pub k2-back : Plays 4 (mirrored ++ (store mpiccfg 0 ∷ load (meipl 2) answers 15 ∷ over 0 0) ++ (take answers 8 ∷ open-handler answers 15 ∷ []))
  -- K3 sources 2 and 3 at rank 5: 2 wins;
  pub k3-tie : Wins (after 4 two-and-three) 2 5
  pub k3-tie-taken : Plays 4 (two-and-three ++ (take answers 8 ∷ []))
  -- 3 at 6: 3 wins.
  pub k3-higher : Wins (after 4 (two-and-three ++ (store (meipl 3) 6 ∷ []))) 3 6
  pub k3-higher-taken : Plays 4 (two-and-three ++ (store (meipl 3) 6 ∷ take answers 12 ∷ []))
  -- K3 by the balanced tree of comparators (document 02, No. 6): 2 wins, and with 3 at 6 that one;
  pub k3-tree : Passes (after 4 two-and-three) (balanced_of 4) 2 5
  pub k3-tree-higher : Passes (after 4 (two-and-three ++ (store (meipl 3) 6 ∷ []))) (balanced_of 4) 3 6
  -- by rank and not by field, so with priord 1, where field 5 is rank 10 and field 6 is rank 9, it is 2;
  pub k3-tree-reversed : Passes (after 4 (two-and-three ++ (store (meipl 3) 6 ∷ store mpiccfg 1 ∷ []))) (balanced_of 4) 2 10
  -- by other shapes, one of them padded with inputs of no source;
  pub k3-to-the-right : Passes (after 4 two-and-three) (node (leaf 1) (node (leaf 2) (node (leaf 3) (leaf 4)))) 2 5
  pub k3-to-the-left : Passes (after 4 two-and-three) (node (node (node (leaf 1) (leaf 2)) (leaf 3)) (leaf 4)) 2 5
  pub k3-padded : Passes (after 4 two-and-three) (node (node unused (leaf 1)) (node (node (leaf 2) (leaf 3)) (node (leaf 4) unused))) 2 5
  -- and 3 where the leaves are not in order.
  pub k3-out-of-order : Passes (after 4 two-and-three) (node (node (leaf 1) (leaf 3)) (node (leaf 2) (leaf 4))) 3 5
  -- The balanced tree of five sources, and of none.
  pub tree-of-five : balanced_of 5 ≡ node (node (leaf 1) (leaf 2)) (node (leaf 3) (node (leaf 4) (leaf 5)))
  pub tree-of-none : tree_winner (initial 0) ≡ no_winner
  -- A number with rank 0 is lost to the right of (0, 0), and stays to the left of it.
  pub rank-0-stopped : better_of no_winner (record { source = 2; rank = rank 0 }) ≡ no_winner
  pub rank-0-stays : better_of (record { source = 2; rank = rank 0 }) no_winner ≡ record { source = 2; rank = rank 0 }
  -- K4 rank 5, threshold 5: margin 0, refusal 16;
  pub k4-at : HasMargin (after 4 (threshold 5)) (pos 0)
  pub k4-refused : Plays 4 (threshold 5 ++ (take refused 16 ∷ []))
  -- threshold 4: taken.
  pub k4-below : HasMargin (after 4 (threshold 4)) (pos 1)
  pub k4-taken : Plays 4 (threshold 4 ++ (take answers 8 ∷ []))
  pub k4-held : Holds (after 4 (threshold 4 ++ (take answers 8 ∷ []))) 1 (handler 2 5 0 0 ∷ []) 0
  pub k4-above : HasMargin (after 4 (threshold 15)) (negsuc 9)
  -- K5 edge line up, down: pending; cleared: not.
  pub k5 :
      Plays 4
      (store (meigwctrl 1) 2
      ∷ sample 0 2
      ∷ sample 0 0
      ∷ load (meip 0) answers 2
      ∷ store (meigwclr 1) 7
      ∷ load (meip 0) answers 0
      ∷ [])
  -- Cleared while up: pending.
  pub k5-up : Plays 4 (store (meigwctrl 1) 2 ∷ sample 0 2 ∷ store (meigwclr 1) 0 ∷ load (meip 0) answers 2 ∷ [])
  -- K6 level line up, down, then type 1: pending.
  pub k6 : Plays 4 (sample 0 2 ∷ sample 0 0 ∷ load (meip 0) answers 0 ∷ store (meigwctrl 1) 2 ∷ load (meip 0) answers 2 ∷ [])
  -- K7 N 4: offset 0x10 stores, 0x14 drops.
  pub k7 : Plays 4 (store 0x10 9 ∷ load 0x10 answers 9 ∷ store 0x14 9 ∷ load 0x14 answers 0 ∷ [])
  pub k7-drops : after 4 (store 0x14 9 ∷ []) ≡ start 4
  -- K8 0x7FFC reads 0; 0x8002 refusal 10; 0x0002 refusal 11.
  pub k8 :
      Plays 4
      (load 0x7FFC answers 0
      ∷ load 0x8002 refused 10
      ∷ store 0x8002 1 refused 10
      ∷ load 0x0002 refused 11
      ∷ store 0x0002 1 refused 11
      ∷ [])
  -- K9 meivt written 0x12345678, claim 3: meihap 0x1234540C.
  pub k9 : Plays 4 (moved ++ (csr_read meihap answers 0x1234540C ∷ []))
  pub k9-claim : (after 4 moved).controller.scalars.claim ≡ 3
  -- K10 rank 15 taken and opened, threshold 0, its line down (level), another 15 enabled and pending: take 16;
  pub k10 : Plays 4 (both-15 ++ (take refused 16 ∷ []))
  pub k10-winner : Wins (after 4 both-15) 2 15
  pub k10-margin : HasMargin (after 4 both-15) (pos 0)
  pub k10-held : Holds (after 4 both-15) 1 (handler 1 15 0 1 ∷ []) 15
  -- masked, chain serves it.
  pub k10-served : Plays 4 (served-15 ++ (return answers 0 ∷ []))
  pub k10-served-held : Holds (after 4 served-15) 1 (handler 2 15 0 1 ∷ []) 15
  -- By look and commit: the look leaves handler and claim as they were, and the commit serves it as the chain does.
  pub k10-looked : Plays 4 (looked-15 ++ (csr_read meihap answers 4 ∷ []))
  pub k10-looked-held : Holds (after 4 looked-15) 1 (handler 1 15 0 1 ∷ []) 15
  pub k10-committed : Plays 4 (committed-15 ++ (csr_read meihap answers 8 ∷ return answers 0 ∷ []))
  pub k10-committed-held : Holds (after 4 committed-15) 1 (handler 2 15 0 1 ∷ []) 15
  -- 9: word 8 and the highest number.
  pub refused-9 : Plays 4 (sample 7 0 ∷ sample 8 0 refused 9 ∷ sample 0xFFFF 0 refused 9 ∷ [])
  -- 13, of meihap alone; 14, with a handler open, opened or not; 18, where it is opened already. Returned, meicurpl takes a field again.
  pub refused-13 : Plays 4 (csr_write meihap 0 refused 13 ∷ csr_write 0xFC9 0 refused 12 ∷ [])
  pub refused-14-18 :
      Plays 4
      (threshold 4
      ++ (take answers 8 ∷ csr_write meicurpl 3 refused 14 ∷ open-handler answers 5 ∷ csr_write meicurpl 3 refused 14 ∷ open-handler refused 18 ∷ [])
      ++ (mask 0 ∷ return answers 0 ∷ csr_write meicurpl 3 ∷ csr_read meicurpl answers 3 ∷ []))
  -- 20; 21, over a handler that is not opened.
  pub refused-20-21 :
      Plays 4
      (threshold 4
      ++ (mask 2 refused 20 ∷ mask 0xFFFFFFFF refused 20 ∷ take answers 8 ∷ mask 1 refused 21 ∷ mask 0 ∷ mask 2 refused 20 ∷ open-handler answers 5 ∷ mask 1 ∷ []))
  -- Polarity 1 is active low. A write of polarity that makes the line active sets the latch, of a level source too.
  pub polarity-1 :
      Plays 4
      (store (meigwctrl 1) 1 ∷ load (meip 0) answers 2 ∷ sample 0 2 ∷ load (meip 0) answers 0 ∷ sample 0 0 ∷ load (meip 0) answers 2 ∷ [])
  pub polarity-sets-the-latch :
      Plays 4
      (store (meigwctrl 1) 1 ∷ store (meigwctrl 1) 2 ∷ load (meip 0) answers 2 ∷ store (meigwclr 1) 0 ∷ load (meip 0) answers 0 ∷ [])
  -- "A signed number from −15 to 15", exact at zero and at both ends: the highest winner over rank 0, the same over threshold 15 and over current rank 15,
  -- and no winner under each of the two.
  pub margin-most : HasMargin (after 4 (highest 0 0)) (pos 15)
  pub margin-at-threshold : HasMargin (after 4 (highest 15 0)) (pos 0)
  pub margin-at-current : HasMargin (after 4 (highest 0 15)) (pos 0)
  pub margin-none : HasMargin (start 4) (pos 0)
  pub margin-least-threshold : HasMargin (after 4 (over 15 0)) (negsuc 14)
  pub margin-least-current : HasMargin (after 4 (over 0 15)) (negsuc 14)
  -- "Record with N 4 and ten events": index, kind, answer, refusal.
  pub listing-answers : answers_of (start listing_sources) listing_heads listing_values ≡ 0 ∷ 0 ∷ 0 ∷ 0 ∷ 0 ∷ 8 ∷ 5 ∷ 0 ∷ 0 ∷ 0 ∷ []
  pub listing-refusals : refusals_of (start listing_sources) listing_heads listing_values ≡ 0 ∷ 0 ∷ 0 ∷ 15 ∷ 0 ∷ 0 ∷ 0 ∷ 19 ∷ 0 ∷ 0 ∷ []
  -- "end open 0 level 0 margin 5"
  pub listing-held : Holds listing-end 0 [] 0
  pub listing-margin : HasMargin listing-end (pos 5)
  -- "The print, whole"
  pub listing-print : print_of (record_of listing_sources listing_heads listing_values) ≡ ascii listing-text
  -- "A bad record prints only, say, `refused 4 at 0`": sizes of four events, with none there. And no byte at all.
  pub print-refused : print_of (4 ∷ 0 ∷ 0 ∷ 0 ∷ 4 ∷ 0 ∷ 0 ∷ 0 ∷ []) ≡ ascii "refused 4 at 0\n"
  pub print-of-nothing : print_of [] ≡ ascii "refused 1 at 0\n"
  -- A margin below 0 is printed with its sign.
  pub print-below : end_line (after 4 (over 0 15)) ≡ ascii "end open 0 level 15 margin -15\n"
  -- Fifteen handlers nest, the seventh and the twelfth serve a second source, and all return. Two events of the list are chainings: a chain and a commit.
  pub fifteen : Plays 17 (fifteen-up ++ fifteen-down)
  pub fifteen-up-held : Holds (after 17 fifteen-up) 15 fifteen-handlers 15
  pub fifteen-down-held : Holds (after 17 (fifteen-up ++ fifteen-down)) 0 [] 0
  pub fifteen-chainings : chainings (fifteen-up ++ fifteen-down) ≡ chain answers 64 ∷ commit 17 answers 68 ∷ []
  -- Document 02, No. 1. The timers at power-on; control reads back its three bits, and the first address on either side of the six is refused.
  pub timers-reset :
      Plays 4
      (counts 0 0
      ++ (csr_read (mitb 0) answers 0xFFFFFFFF
      ∷ csr_read (mitb 1) answers 0xFFFFFFFF
      ∷ csr_read (mitctl 0) answers 1
      ∷ csr_read (mitctl 1) answers 1
      ∷ csr_write (mitctl 1) 0xFFFFFFFE
      ∷ csr_read (mitctl 1) answers 6
      ∷ csr_read 0x7D1 refused 12
      ∷ csr_write 0x7D8 0 refused 12
      ∷ []))
  -- A signal at the bound, not before.
  pub timers-at-bound : Plays 4 (timer 0 0 2 1 ++ (clock ∷ clock ∷ []) ++ counts 2 2 ++ (clock answers 1 ∷ []) ++ counts 0 3)
  -- A disabled timer above its bound is cleared and signals, and then it stays.
  pub timers-disabled : Plays 4 (timer 1 9 5 0 ++ (clock answers 2 ∷ []) ++ counts 1 0 ++ (clock ∷ []) ++ counts 2 0)
  -- Both signal; the bound 0 signals at every clock; the highest bound is reached and the counter does not leave its 32 bits.
  pub timers-both : Plays 4 (timer 0 0 0 1 ++ timer 1 7 7 0 ++ (clock answers 3 ∷ clock answers 1 ∷ clock answers 1 ∷ []) ++ counts 0 0)
  pub timers-highest :
      Plays 4 (timer 1 0xFFFFFFFE 0xFFFFFFFF 7 ++ (clock ∷ []) ++ counts 1 0xFFFFFFFF ++ (clock answers 2 ∷ []) ++ counts 2 0)
  -- "Uses neither address nor value."
  pub timers-unused : Plays 4 (event 10 1 0 refused 7 ∷ event 10 0 1 refused 7 ∷ counts 0 0)
  -- Control 7 is in range, 8 is not.
  pub timers-sound : sound_of (controlled 7) ≡ true
  pub timers-unsound : clock_of (controlled 8) ≡ record { machine = controlled 8; answer = 0; refusal = 8 }
  -- Two handlers nest with clocks between them, and return.
  pub timers-nested : Plays 4 (nested-up ++ nested-down ++ counts 1 9)
  pub timers-nested-up : Holds (after 4 nested-up) 2 (handler 1 1 0 1 ∷ handler 2 2 1 1 ∷ []) 2
  pub timers-nested-down : Holds (after 4 (nested-up ++ nested-down)) 0 [] 0
  -- Document 02, No. 2. The closed form is the field with priord 0, for the fields 0 to 15, and 15 less it with priord 1; past 15 it is below 0.
  pub mirror-0 : closed_column 0 16 ≡ pos 0 ∷ pos 1 ∷ pos 2 ∷ pos 3 ∷ pos 4 ∷ pos 5 ∷ pos 6 ∷ pos 7 ∷ pos 8 ∷ pos 9 ∷ pos 10 ∷ pos 11 ∷ pos 12 ∷ pos 13 ∷ pos 14 ∷ pos 15 ∷ []
  pub mirror-1 : closed_column 1 16 ≡ pos 15 ∷ pos 14 ∷ pos 13 ∷ pos 12 ∷ pos 11 ∷ pos 10 ∷ pos 9 ∷ pos 8 ∷ pos 7 ∷ pos 6 ∷ pos 5 ∷ pos 4 ∷ pos 3 ∷ pos 2 ∷ pos 1 ∷ pos 0 ∷ []
  pub mirror-past : closed_form (pos 1) (pos 16) ≡ negsuc 0
  -- "Callers see the same numbers": the rank of every field, and every field read back from meipl2; of the CSRs one field in each order, held as written in both.
  pub mirror-ranks : rank_column 16 ≡ rank 15 ∷ rank 14 ∷ rank 13 ∷ rank 12 ∷ rank 11 ∷ rank 10 ∷ rank 9 ∷ rank 8 ∷ rank 7 ∷ rank 6 ∷ rank 5 ∷ rank 4 ∷ rank 3 ∷ rank 2 ∷ rank 1 ∷ rank 0 ∷ []
  pub mirror-meipl : Plays 4 (store mpiccfg 1 ∷ stored 16)
  pub mirror-csrs :
      Plays 4
      ((store mpiccfg 1 ∷ csrs-written 3)
      ++ csrs-read 3
      ++ (store mpiccfg 0 ∷ csrs-read 3)
      ++ csrs-written 15
      ++ csrs-read 15
      ++ (store mpiccfg 1 ∷ csrs-read 15))
  -- Document 02, No. 3. "22 when the van's reader meets N above 63, after question 2; 23 when it meets n above 500, after question 3; both with place 0." Where
  -- it takes N and n, or 2 or 3 is answered no, it answers as the big reader does.
  pub compact-around :
      sizes_column compact_verdict around
      ≡ verdict 2 0
      ∷ no_refusal
      ∷ no_refusal
      ∷ verdict 22 0
      ∷ verdict 22 0
      ∷ verdict 2 0
      ∷ verdict 4 0
      ∷ verdict 23 0
      ∷ verdict 23 0
      ∷ verdict 3 0
      ∷ verdict 22 0
      ∷ verdict 22 0
      ∷ verdict 2 0
      ∷ []
  -- "The big player keeps 255 and 4,000."
  pub board-around :
      sizes_column board_verdict around
      ≡ verdict 2 0
      ∷ no_refusal
      ∷ no_refusal
      ∷ no_refusal
      ∷ no_refusal
      ∷ verdict 2 0
      ∷ verdict 4 0
      ∷ verdict 4 0
      ∷ verdict 4 0
      ∷ verdict 3 0
      ∷ verdict 4 0
      ∷ verdict 3 0
      ∷ verdict 2 0
      ∷ []
  -- Fewer than 8 bytes; and an event of no kind, where the big reader's number and place are given.
  pub compact-1 : compact_verdict (0 ∷ 0 ∷ 0 ∷ 0 ∷ 64 ∷ 0 ∷ 0 ∷ []) ≡ verdict 1 0
  pub compact-6 : compact_verdict (record_of 63 (0x50000 ∷ head_of no_kind 0 ∷ []) (0 ∷ 0 ∷ [])) ≡ verdict 6 1
  -- "A record that both accept prints the same lines on both."
  pub compact-listing : compact_print_of (record_of listing_sources listing_heads listing_values) ≡ ascii listing-text
  pub compact-print-22 : compact_print_of (sizes 0 64) ≡ ascii "refused 22 at 0\n"
  pub compact-print-23 : compact_print_of (sizes 501 63) ≡ ascii "refused 23 at 0\n"
  -- Document 02, No. 4. "At power-on with priord then set to 1, all these ranks are 15": the fields read 0, and nothing is taken until threshold and current are both
  -- written. The handler's rank is 15, and its field 0.
  pub fields-power-on :
      Plays 4
      (from-power-on
      ++ csrs-read 0
      ++ (load (meipl 2) answers 0
      ∷ take refused 16
      ∷ csr_write meipt 15
      ∷ take refused 16
      ∷ csr_write meicurpl 15
      ∷ take answers 8
      ∷ csr_read meicidpl answers 0
      ∷ open-handler answers 15
      ∷ csr_read meicurpl answers 0
      ∷ []))
  pub fields-power-on-margin : HasMargin (after 4 from-power-on) (pos 0)
  pub fields-margin : HasMargin (after 4 (from-power-on ++ over 15 15)) (pos 15)
  -- A capture stores the field of the winner's rank under the priord of now: 15 with no winner; and a switch leaves it.
  pub fields-captured :
      Plays 4
      (store mpiccfg 1
      ∷ csr_write meicpct 0
      ∷ csr_read meicidpl answers 15
      ∷ csr_read meihap answers 0
      ∷ enabled 2 10
      ++ (sample 0 4
      ∷ csr_write meicpct 0
      ∷ csr_read meicidpl answers 10
      ∷ csr_read meihap answers 8
      ∷ store mpiccfg 0
      ∷ csr_read meicidpl answers 10
      ∷ []))
  -- Taken, returned, switched, taken again and nested, and 24 while a handler is open: handlers hold ranks.
  pub fields-nested : Plays 4 (three-fields ++ high-first ++ low_first ++ both-back)
  pub fields-winner-0 : Wins (after 4 three-fields) 2 12
  pub fields-winner-1 : Wins (after 4 (three-fields ++ (store mpiccfg 1 ∷ []))) 1 12
  pub fields-nested-up : Holds (after 4 (three-fields ++ high-first ++ low_first)) 2 (handler 1 12 8 1 ∷ handler 3 14 12 1 ∷ []) 14
  pub fields-nested-down : Holds (after 4 (three-fields ++ high-first ++ low_first ++ both-back)) 1 (handler 2 12 7 0 ∷ []) 7
  -- Current's rank is compared with the stack: with the field of rank 14 the machine is sound, with 14 as field it is not.
  pub fields-sound : sound_of (with-meicurpl (after 4 (three-fields ++ high-first ++ low_first)) 1) ≡ true
  pub fields-unsound : sound_of (with-meicurpl (after 4 (three-fields ++ high-first ++ low_first)) 14) ≡ false
  -- Level and margin are of ranks.
  pub fields-print : end_line (after 4 (store mpiccfg 1 ∷ csr_write meipt 15 ∷ csr_write meicurpl 3 ∷ [])) ≡ ascii "end open 0 level 12 margin -12\n"
  -- Document 02, No. 5. At power-on the three read 0, and the first address on either side is refused. An error is counted in its own counter alone; with threshold 0 the
  -- answer is bit 0 of the count afterwards.
  pub errors-reset : Plays 4 (ects 0 0 0 ++ (csr_read 0x7EF refused 12 ∷ csr_write 0x7EF 0 refused 12 ∷ csr_read 0x7F3 refused 12 ∷ csr_write 0x7F3 0 refused 12 ∷ []))
  pub errors-each : Plays 4 (error 0 answers 1 ∷ error 1 answers 1 ∷ error 2 answers 1 ∷ error 1 answers 0 ∷ ects 1 2 1)
  -- Errors and clocks count apart.
  pub errors-and-clocks : Plays 4 (error 0 answers 1 ∷ clock ∷ error 2 answers 1 ∷ clock ∷ ects 1 0 1 ++ counts 2 2)
  -- "A written threshold of 27 to 31 is held as 26"; the others are kept, and all bits of the count are.
  pub errors-held : held_column 32 ≡ registers 27 ++ (register 26 5 ∷ register 26 5 ∷ register 26 5 ∷ register 26 5 ∷ register 26 5 ∷ [])
  pub errors-written :
      Plays 4
      (csr_write (ect 1) 0xD0000007
      ∷ csr_read (ect 1) answers 0xD0000007
      ∷ csr_write (ect 1) 0xD8000008
      ∷ csr_read (ect 1) answers 0xD0000008
      ∷ csr_write (ect 2) 0xFFFFFFFF
      ∷ csr_read (ect 2) answers 0xD7FFFFFF
      ∷ [])
  -- The answer is 1 whenever the bit is 1 afterwards, not only when it becomes so.
  pub errors-again : Plays 4 (csr_write (ect 0) 0x08000000 ∷ counts-to 0 0 0x08000001 ++ counts-to 0 1 0x08000002 ++ counts-to 0 1 0x08000003 ++ counts-to 0 0 0x08000004)
  -- "After 2^27 − 1 comes 0", and the threshold stays; bit 26 falls there, and rises at 2^26. Bit 25 falls there.
  pub errors-wrap : Plays 4 (csr_write (ect 2) 0xD7FFFFFE ∷ counts-to 2 1 0xD7FFFFFF ++ counts-to 2 0 0xD0000000 ++ counts-to 2 0 0xD0000001)
  pub errors-wrap-0 : Plays 4 (csr_write (ect 0) 0x07FFFFFF ∷ counts-to 0 0 0x00000000 ++ counts-to 0 1 0x00000001)
  pub errors-26 : Plays 4 (csr_write (ect 1) 0xD3FFFFFE ∷ counts-to 1 0 0xD3FFFFFF ++ counts-to 1 1 0xD4000000 ++ counts-to 1 1 0xD4000001)
  pub errors-25 : Plays 4 (csr_write (ect 1) 0xCBFFFFFE ∷ counts-to 1 1 0xCBFFFFFF ++ counts-to 1 0 0xCC000000)
  -- "25 when the address is above 2, after question 7"; its value is unused; the number after the last kind is of no kind.
  pub errors-questions :
      Plays 4
      (error 2 answers 1
      ∷ error 3 refused 25
      ∷ error 0xFFFF refused 25
      ∷ event 11 3 1 refused 7
      ∷ event 11 0 0xFFFFFFFF refused 7
      ∷ event no_kind 0 0 refused 6
      ∷ event no_kind 3 1 refused 6
      ∷ ects 0 0 1)
  -- "The record's reader and writer don't check it": a record with such addresses is read and played; 6 and 7 are asked.
  pub errors-read : board_verdict (record_of 4 (0xB0003 ∷ 0xBFFFF ∷ []) (0 ∷ 0 ∷ [])) ≡ no_refusal
  pub errors-read-7 : board_verdict (record_of 4 (0xB0003 ∷ 0xB0003 ∷ []) (0 ∷ 1 ∷ [])) ≡ verdict 7 1
  pub errors-print : print_of (record_of 4 (0xB0003 ∷ 0xB0002 ∷ []) (0 ∷ 0 ∷ [])) ≡ ascii "sources 4 events 2\n0 11 0 25\n1 11 1 0\nend open 0 level 0 margin 0\n"
  -- Threshold 26 is in range with every count, 27 is not.
  pub errors-sound : sound_of (erring 26 0x7FFFFFF) ≡ true
  pub errors-unsound : error_of (erring 27 0) 0 ≡ record { machine = erring 27 0; answer = 0; refusal = 8 }
  -- Two handlers nest with errors between them, the second chains, and both return.
  pub errors-nested : Plays 4 (erring-up ++ erring-down)
  pub errors-nested-up : Holds (after 4 erring-up) 2 (handler 1 1 0 1 ∷ handler 3 2 1 1 ∷ []) 2
  pub errors-nested-down : Holds (after 4 (erring-up ++ erring-down)) 0 [] 0
  -- Document 02, No. 7. "26 when the committed number is 0 or isn't what a look would answer": a look that has gone stale, and wrong numbers. A commit of the right one is
  -- accepted then, with no look just before it.
  pub commits-stale : Plays 4 (stale ++ (commit 2 answers 8 ∷ csr_read meihap answers 8 ∷ []))
  pub commits-wrong : Plays 4 (wrong ++ (commit 2 answers 8 ∷ csr_read meihap answers 8 ∷ []))
  pub commits-wrong-held : Holds (after 4 wrong) 1 (handler 1 15 0 1 ∷ []) 15
  pub commits-lower : Plays 4 (other-rank 4)
  pub commits-higher : Plays 4 (other-rank 6)
  -- "Both come under questions 17 and 19", 7 before and 26 after them; the number after the last kind is of no kind.
  pub commits-questions :
      Plays 4
      ((look refused 17 ∷ commit 0 refused 17 ∷ event 12 1 0 refused 7 ∷ event 12 0 1 refused 7 ∷ event 13 2 1 refused 7 ∷ event no_kind 0 0 refused 6 ∷ [])
      ++ both-15
      ++ (look refused 19 ∷ commit 2 refused 19 ∷ commit 0 refused 19 ∷ mask 0 ∷ event 13 2 1 refused 7 ∷ commit 2 answers 8 ∷ []))
  -- An unopened handler, and its own source: the look answers it, and the commit serves it again. Base is that of the commit.
  pub commits-own : Plays 4 (threshold 4 ++ (take answers 8 ∷ look answers 2 ∷ csr_write meivt 0x400 ∷ commit 2 answers 0x408 ∷ open-handler answers 5 ∷ []))
  -- "Of equals the lowest number": of sources 2 and 3 the look answers 2, and once the line of 2 falls, 3.
  pub commits-equals :
      Plays 4
      (two-and-three
      ++ (take answers 8 ∷ look answers 2 ∷ commit 3 refused 26 ∷ sample 0 8 ∷ commit 2 refused 26 ∷ look answers 3 ∷ commit 3 answers 12 ∷ []))
  -- The reader asks 6 and 7 of them, and nothing of the number; the players print them.
  pub commits-read : board_verdict (record_of 4 (0xC0000 ∷ 0xD0000 ∷ 0xDFFFF ∷ []) (0 ∷ 0 ∷ 0 ∷ [])) ≡ no_refusal
  pub commits-read-7 : board_verdict (record_of 4 (0xDFFFF ∷ 0xC0001 ∷ []) (0 ∷ 0 ∷ [])) ≡ verdict 7 1
  pub commits-print : print_of (record_of 4 (0xC0000 ∷ 0xD0002 ∷ []) (0 ∷ 0 ∷ [])) ≡ ascii "sources 4 events 2\n0 12 0 17\n1 13 0 17\nend open 0 level 0 margin 0\n"
  -- A machine that is not sound.
  pub looks-unsound : look_of (controlled 8) ≡ record { machine = controlled 8; answer = 0; refusal = 8 }
  pub commits-unsound : commit_of (controlled 8) 0 ≡ record { machine = controlled 8; answer = 0; refusal = 8 }
  -- "27 when the writer is given kind 7, after question 6 at that event", with the place of the first such event;
  pub retired-27 : writing (0x50000 ∷ 0x70000 ∷ 0x70000 ∷ []) (0 ∷ 0 ∷ 0 ∷ []) ≡ verdict 27 1
  -- before question 7 at that event, whatever its address and value, and before all questions of the events after it,
  pub retired-before-7 : writing (0x7FFFF ∷ head_of no_kind 0 ∷ []) (1 ∷ 0 ∷ []) ≡ verdict 27 0
  -- after those of the events before it, and after questions 2 to 5.
  pub retired-after-7 : writing (0x50001 ∷ 0x70000 ∷ []) (0 ∷ 0 ∷ []) ≡ verdict 7 0
  pub retired-after-6 : writing (head_of no_kind 0 ∷ 0x70000 ∷ []) (0 ∷ 0 ∷ []) ≡ verdict 6 0
  pub retired-after-5 : write_verdict 4 (0x70000 ∷ []) (0 ∷ []) 15 ≡ verdict 5 0
  -- The kinds beside it, look and commit, and a 7 elsewhere are written as before.
  pub retired-others : writing (0x60000 ∷ 0x80000 ∷ 0xC0000 ∷ 0xD0007 ∷ 0x00007 ∷ []) (0 ∷ 0 ∷ 0 ∷ 0 ∷ 7 ∷ []) ≡ no_refusal
  -- K10 with its chain is refused at that chain; by look and commit it is written.
  pub retired-k10 : writing (head_column served-15) (value_column served-15) ≡ verdict 27 10
  pub retired-k10-committed : writing (head_column committed-15) (value_column committed-15) ≡ no_refusal
  -- "Old records with kind 7 are still read and played as before": 6 and 7 are asked of them, and no 27.
  pub retired-read : board_verdict old-k10 ≡ no_refusal
  pub retired-read-7 : board_verdict (record_of 4 (0x70000 ∷ 0x7FFFF ∷ []) (0 ∷ 1 ∷ [])) ≡ verdict 7 1
  pub retired-print : print_of old-k10 ≡ ascii old-k10-text
