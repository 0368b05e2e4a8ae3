-- The first and the last line, and the lines of a list that was played.
use Prim.Native.Nat.{ℕ, ◌+◌, ◌≤◌, ◌<◌}
use native.Mathlib.Omega.{arith}
use native.Mathlib.Nat.{zero-add}
use mathlib.Core.Bool.{Bool, true, false}
use mathlib.Core.Path.{◌≡◌, ◌∙◌}
use mathlib.Core.List.{List, ◌++◌}
use lib.ListN.{length, get_or, take, drop, length-append}
use lib.Seq.{length-take-le, get_or-take, take_all}
use lib.IntN.{ℤ, pos, nat_abs}
use lib.Signed.{lt_z}
use Rattle.buffers.proofs.Stores.{sets-filled}
use Rattle.buffers.specs.Filled.{filled}
use Rattle.pic_source.specs.declared.Rank.{Rank}
use Rattle.pic.specs.Calls.{current_rank}
use Rattle.handlers.specs.declared.Machine.{Machine}
use Rattle.handlers.specs.Machines.{power_on_of}
use Rattle.handlers.specs.Calls.{margin_answer}
use Rattle.claims.specs.declared.Played.{Played}
use Rattle.buffers.specs.Least.{least}
use Rattle.buffers.proofs.Least.{least-both, least_first, least_above}
use Rattle.claims.specs.Play.{answers_of, refusals_of}
use Rattle.claims.proofs.Playing.{PlayedAll}
use Rattle.digits.specs.Digits.{decimal}
use Rattle.digits.proofs.Digits.{number-length}
use Rattle.digits.proofs.Pieces.{Stands, two, room-first, room-second}
use Rattle.digits.specs.Ascii.{ascii}
use Rattle.record.specs.Record.{most_events}
use Rattle.playback.specs.Text.{minus}
use Rattle.playback.specs.Size.{first_line_size, last_line_size, print_room, lines_room}
use Rattle.playback.specs.Print.{first_line, event_lines, last_line, end_line, refused_line, lines_of, played_lines, KnownKinds, events_given, given_lines, lines_length, lines_into}
use Rattle.playback.proofs.Room.{had-room, filled-as}
use Rattle.playback.proofs.Printing.{Each, known-lines, any-lines, lines-first}

sign-length : (below : Bool) → length (minus below) ≤ 1
unfolding ascii
sign-length true = omega arith
sign-length false = omega arith

-- A line of two numbers, each behind a text.
two-numbers : (s t : List ℕ) (m n : ℕ) → length (s ++ decimal m ++ t ++ decimal n ++ ascii "\n") ≤ length s + length t + 41
unfolding ascii
two-numbers s t m n = simp (length-append) (omega (arith, number-length m, number-length n))

pub first-length : (sources events : ℕ) → length (first_line sources events) ≤ first_line_size
unfolding ascii
first-length sources events = two-numbers (ascii "sources ") (ascii " events ") sources events

pub refused-length : (refusal place : ℕ) → length (refused_line refusal place) ≤ first_line_size
unfolding ascii
refused-length refusal place = omega (arith, two-numbers (ascii "refused ") (ascii " at ") refusal place)

pub last-length : (depth level : ℕ) (below : Bool) (size : ℕ) → length (last_line depth level below size) ≤ last_line_size
unfolding ascii
last-length depth level below size = simp (length-append) (omega (arith, number-length depth, number-length level, sign-length below, number-length size))

-- The last line of a machine.
pub end-line-is : (m : Machine) {level : Rank} {z : ℤ} {below : Bool} {size : ℕ} → level ≡ current_rank m.controller → z ≡ (margin_answer m).margin
    → below ≡ lt_z z (pos 0) → size ≡ nat_abs z → last_line m.service.depth level.0 below size ≡ end_line m
end-line-is m el ez eb es = rw (eb, es, ez, el)

-- The lines of a list, by the most bytes of its events' lines.
lines-length : (sources : ℕ) (hs ans rs : List ℕ) (m : Machine) (most : ℕ) → length (event_lines 0 hs ans rs) ≤ most
    → length (lines_of sources hs ans rs m) ≤ first_line_size + most + last_line_size
lines-length sources hs ans rs m most h =
    let first = first_line sources (length hs) in
    let last : length (end_line m) ≤ last_line_size = last-length m.service.depth (current_rank m.controller).0 (lt_z (margin_answer m).margin (pos 0)) (nat_abs (margin_answer m).margin) in
    rw (length-append (first ++ event_lines 0 hs ans rs) (end_line m), length-append first (event_lines 0 hs ans rs)) (omega (arith, h, last, first-length sources (length hs)))

-- Of an accepted record, and of any heads.
pub known-fit : (sources : ℕ) (hs ans rs : List ℕ) (m : Machine) → length hs ≤ most_events → KnownKinds hs → Each 4294967296 ans → Each 256 rs
    → length (lines_of sources hs ans rs m) ≤ print_room (length hs)
known-fit sources hs ans rs m few known ha hr = omega (arith, lines-length sources hs ans rs m _ (known-lines hs ans rs few known ha hr))

pub any_fit : (sources : ℕ) (hs ans rs : List ℕ) (m : Machine) (k : ℕ) → k ≤ length hs → Each 4294967296 hs → Each 4294967296 ans → Each 256 rs
    → length (lines_of sources (take k hs) ans rs m) ≤ lines_room k
any_fit sources hs ans rs m k h hh ha hr =
    let count : length (take k hs) ≡ k = length-take-le k hs h in
    let each : (i : ℕ) → i < length (take k hs) → get_or (take k hs) i 0 < 4294967296 = λ i l. rw (get_or-take k hs i 0 (omega (arith, count, l))) (hh i) in
    omega (arith, count, lines-length sources (take k hs) ans rs m _ (any-lines (take k hs) ans rs each ha hr))

-- A text that was put at the start, where there is room for it.
pub at-start : (out text : List ℕ) {d : List ℕ} {r : ℕ} → length text ≤ length out → Stands out 0 text r d → (r ≡ length text) × (d ≡ filled text out)
at-start out text room (e, f) = (e ∙ zero-add (length text), f ∙ sets-filled out text room)

-- Three texts at the start, one after the other.
module _ (out x y z : List ℕ) (room : length (x ++ y ++ z) ≤ length out) where
  start-room : 0 + length (x ++ y ++ z) ≤ length out
  start-room = omega arith

  pub first-room : 0 + length x ≤ length out
  first-room = room-first (length out) 0 x y (room-first (length out) 0 (x ++ y) z start-room)

  module _ {d : List ℕ} {a : ℕ} (first : Stands out 0 x a d) where
    pub second-room : a + length y ≤ length d
    second-room = room-second out 0 x y (room-first (length out) 0 (x ++ y) z start-room) first

    module _ {d₂ : List ℕ} {b : ℕ} (middle : Stands d a y b d₂) where
      pub third-room : b + length z ≤ length d₂
      third-room = room-second out 0 (x ++ y) z start-room (two out 0 x y first middle)

      pub three-stand : {d₃ : List ℕ} {r : ℕ} → Stands d₂ b z r d₃ → (r ≡ length (x ++ y ++ z)) × (d₃ ≡ filled (x ++ y ++ z) out)
      three-stand last = at-start out (x ++ y ++ z) room (two out 0 (x ++ y) z (two out 0 x y first middle) last)

-- The lines of a list that was played whole are those of the rule.
pub played-lines : (sources : ℕ) (hs vs answers₀ refusals₀ : List ℕ) {p : Played} {answers refusals : List ℕ}
    → PlayedAll sources hs vs answers₀ refusals₀ p answers refusals → lines_of sources hs answers refusals p.machine ≡ played_lines sources hs vs
played-lines sources hs vs answers₀ refusals₀ {p} {answers} {refusals} all =
    let m₀ = (power_on_of sources).machine in
    let same : event_lines 0 hs answers refusals ≡ event_lines 0 hs (answers_of m₀ hs vs) (refusals_of m₀ hs vs) =
    rw (all.has-answers, all.has-refusals)
    (lines-first 0 hs (answers_of m₀ hs vs) (refusals_of m₀ hs vs) (drop (length (answers_of m₀ hs vs)) answers₀) (drop (length (refusals_of m₀ hs vs)) refusals₀) all.as-many-answers all.as-many-refusals) in
    rw (same, all.machine)

-- As many events as heads, answers and refusals all have.
module _ (hs ans rs : List ℕ) {k : ℕ} (e : k ≡ events_given hs ans rs) where
  pub given-few : (k ≤ length hs) × (k ≤ length ans) × (k ≤ length rs)
  given-few =
      let p = least-both (length hs) (least (length ans) (length rs)) in
      let q = least-both (length ans) (length rs) in
      (omega (arith, e, p.0), omega (arith, e, p.1, q.0), omega (arith, e, p.1, q.1))

-- The lines of a list that was played whole, into a buffer with room for them.
pub played-given : (sources : ℕ) (hs vs answers₀ refusals₀ out : List ℕ) {p : Played} {answers refusals d : List ℕ} {r : ℕ}
    → PlayedAll sources hs vs answers₀ refusals₀ p answers refusals → length hs ≤ length answers → length hs ≤ length refusals → lines_room (length hs) ≤ length out
    → (r ≡ lines_length sources hs answers refusals p.machine (length out)) × (d ≡ lines_into sources hs answers refusals p.machine out)
    → (r ≡ length (played_lines sources hs vs)) × (d ≡ filled (played_lines sources hs vs) out)
played-given sources hs vs answers₀ refusals₀ out {p} {answers} {refusals} {d} {r} all ha hr room put =
    let count : events_given hs answers refusals ≡ length hs = least_first (length hs) (least (length answers) (length refusals)) (least_above (length hs) (length answers) (length refusals) ha hr) in
    let lines : given_lines sources hs answers refusals p.machine ≡ played_lines sources hs vs =
    rw (count, take_all (length hs) hs (omega arith)) (played-lines sources hs vs answers₀ refusals₀ all) in
    filled-as out lines (had-room (lines_room (events_given hs answers refusals)) (given_lines sources hs answers refusals p.machine) out (omega (arith, room, count)) put)
