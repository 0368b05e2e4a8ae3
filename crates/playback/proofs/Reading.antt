-- A record that was read: its parts, and what is known of them.
use Prim.Native.Nat.{ℕ, ◌≤◌, ◌<◌}
use native.Mathlib.Omega.{arith}
use mathlib.Core.Bool.{Bool, true, false, cond}
use mathlib.Core.Path.{◌≡◌, refl, sym, ap, ◌∙◌}
use mathlib.Core.List.{List}
use lib.ListN.{length, get_or, take, drop, length-append}
use lib.Seq.{length-take-le}
use Rattle.buffers.specs.Filled.{filled, HasFirst}
use borrow.Author.Tests.{eq-eqb, ne_eqb, eqb-true}
use Rattle.std.specs.Prelude.{Result, Ok, Err}
use Rattle.questions.specs.Numbers.{number_of}
use Rattle.event.specs.Event.{shape_of}
use Rattle.event.proofs.Laws.{kind-known}
use Rattle.record.specs.declared.Limits.{Limits}
use Rattle.record.specs.Verdict.{Verdict}
use Rattle.record.specs.declared.Sizes.{Sizes}
use Rattle.record.specs.declared.Refused.{Refused}
use Rattle.source_count.specs.Count.{most_sources}
use Rattle.record.specs.Record.{most_events, length_of, count_of, sources_of, heads_of, values_of}
use Rattle.record.specs.Questions.{read_verdict, verdict_within}
use Rattle.record.proofs.Questions.{readable}
use Rattle.record.specs.Answers.{all_yes, read_numbers, read_answer, read_heads, read_values}
use Rattle.record.proofs.Walk.{heads-length, values_length, walk-clear}
use Rattle.record.proofs.Answers.{read-not}
use Rattle.record.proofs.Parts.{read-parts, values-below}
use Rattle.record.proofs.Words.{Below}
use Rattle.handlers.specs.Machines.{power_on_of, sound_of}
use Rattle.handlers_laws.proofs.Kept.{power-on-sound}
use Rattle.claims.specs.Play.{end_of}
use Rattle.claims.proofs.Playing.{played-sound}
use Rattle.record.proofs.TooLong.{read-cut, long-refused}
use Rattle.digits.specs.Ascii.{ascii}
use Rattle.playback.specs.Print.{KnownKinds, print_within, played_lines, refused_line, room_for, printed_length, printed_into}
use Rattle.playback.specs.Size.{print_room}
use Rattle.playback.proofs.Room.{had-room}

-- A record that was read, where the reader's verdict is that of arrays with a and b places.
pub record WasRead (limits : Limits) (bytes : List ℕ) (a b : ℕ) (heads values : List ℕ) (n s : ℕ) : Type 0 where
  pub yes : all_yes (read_verdict limits bytes a b) ≡ true
  pub count : length (heads_of bytes) ≡ n
  pub few : n ≤ most_events
  pub in-a : n ≤ a
  pub in_b : n ≤ b
  pub sources : s ≡ sources_of bytes
  pub most : s ≤ most_sources
  pub in-heads : n ≤ length heads
  pub in-values : n ≤ length values
  pub has-heads : take n heads ≡ heads_of bytes
  pub has-values : take n values ≡ values_of bytes
  pub same : length (values_of bytes) ≡ length (heads_of bytes)
  pub kinds : KnownKinds (heads_of bytes)

-- A record that was refused.
pub record WasRefused (limits : Limits) (bytes : List ℕ) (a b number at : ℕ) : Type 0 where
  pub no : all_yes (read_verdict limits bytes a b) ≡ false
  pub refusal : number ≡ (read_verdict limits bytes a b).refusal
  pub place : at ≡ (read_verdict limits bytes a b).place

module _ (limits : Limits) (bytes heads₀ values₀ : List ℕ) (a b : ℕ) (alike : read_verdict limits bytes (length heads₀) (length values₀) ≡ read_verdict limits bytes a b) where
  pub was_read : {r : Result Sizes Refused} {heads values : List ℕ} {x : Sizes} → length heads ≡ length heads₀ → length values ≡ length values₀
      → read_numbers r ≡ read_answer limits bytes (length heads₀) (length values₀) → heads ≡ read_heads limits bytes heads₀ values₀ → values ≡ read_values limits bytes heads₀ values₀
      → r ≡ Ok x → WasRead limits bytes a b heads values x.events x.sources
  was_read {r} {heads} {values} {x} kh kv er eh ev d =
      let p = read-parts limits bytes heads₀ values₀ er eh ev d in
      let z : (read_verdict limits bytes a b).refusal ≡ 0 = ap (λ (v : Verdict). v.refusal) (sym alike) ∙ p.yes in
      let q = readable limits bytes a b z in
      let hl : length (heads_of bytes) ≡ count_of bytes = heads-length bytes (count_of bytes) q.whole in
      let same : length (values_of bytes) ≡ length (heads_of bytes) = values_length bytes (count_of bytes) q.whole ∙ sym hl in
      record {
        yes = eq-eqb (read_verdict limits bytes a b).refusal 0 z;
        count = hl ∙ sym p.count;
        few = omega (arith, p.count, q.few);
        in-a = omega (arith, p.count, q.heads_hold);
        in_b = omega (arith, p.count, q.values_hold);
        sources = p.sources;
        most = omega (arith, p.sources, q.most);
        in-heads = omega (arith, p.count, p.accepts.heads_hold, kh);
        in-values = omega (arith, p.count, p.accepts.values_hold, kv);
        has-heads = p.heads;
        has-values = p.values;
        same = same;
        kinds = λ j l. kind-known (get_or (heads_of bytes) j 0) (get_or (values_of bytes) j 0) (walk-clear shape_of (heads_of bytes) (values_of bytes) (sym same) q.events j l);
      }

  pub was-refused : {r : Result Sizes Refused} {x : Refused} → read_numbers r ≡ read_answer limits bytes (length heads₀) (length values₀) → r ≡ Err x
      → WasRefused limits bytes a b (number_of x.refusal) x.place
  was-refused er d =
      let f = read-not limits bytes (length heads₀) (length values₀) er d in
      record {
        no = ne_eqb (read_verdict limits bytes a b).refusal 0 (λ z. f.0 (ap (λ (v : Verdict). v.refusal) alike ∙ z));
        refusal = f.1 ∙ ap (λ (v : Verdict). v.refusal) alike;
        place = f.2 ∙ ap (λ (v : Verdict). v.place) alike;
      }

-- The print of a record that is played, and of one that is refused.
pub print-done : (limits : Limits) (bytes : List ℕ) → all_yes (verdict_within limits bytes) ≡ true → print_within limits bytes ≡ played_lines (sources_of bytes) (heads_of bytes) (values_of bytes)
unfolding print_within
print-done limits bytes e = rw e

module _ {limits : Limits} {bytes : List ℕ} where
  pub print-refused : {number place : ℕ} → WasRefused limits bytes limits.events limits.events number place → refused_line number place ≡ print_within limits bytes
  unfolding print_within
  print-refused f = rw (f.no, f.refusal, f.place)

  module _ {heads values : List ℕ} {n s : ℕ} (f : WasRead limits bytes limits.events limits.events heads values n s) where
    pub played-is : played_lines s (take n heads) (take n values) ≡ print_within limits bytes
    played-is = rw (f.has-heads, f.has-values, f.sources) (sym (print-done limits bytes f.yes))

    -- The room for the print of a record that is read, and of one that is refused.
    pub room-done : print_room (length (take n heads)) ≡ room_for limits bytes
    unfolding room_for
    room-done = rw (f.has-heads, f.yes)

  pub room-refused : {number place : ℕ} → WasRefused limits bytes limits.events limits.events number place → print_room 0 ≡ room_for limits bytes
  unfolding room_for
  room-refused f = rw f.no

-- The room that a record may need at most.
room_most : (limits : Limits) (bytes : List ℕ) → room_for limits bytes ≤ print_room limits.events
unfolding room_for
room_most limits bytes = go (all_yes (verdict_within limits bytes)) refl
  where
    go : (t : Bool) → all_yes (verdict_within limits bytes) ≡ t → print_room (cond t (length (heads_of bytes)) 0) ≤ print_room limits.events
    go true e =
        let ok = readable limits bytes limits.events limits.events (eqb-true _ _ e) in
        omega (arith, ok.short, heads-length bytes (count_of bytes) ok.whole)
    go false e = omega arith

module _ (limits : Limits) (bytes out : List ℕ) {d : List ℕ} {r : ℕ} where
  -- Into a buffer with room for any record that the reader takes.
  pub room-enough : length out ≡ print_room limits.events → (r ≡ printed_length limits bytes (length out)) × (d ≡ printed_into limits bytes out)
      → (r ≡ length (print_within limits bytes)) × (d ≡ filled (print_within limits bytes) out)
  room-enough l = had-room (room_for limits bytes) (print_within limits bytes) out (omega (arith, l, room_most limits bytes))

  -- The print stands at the start of the buffer that it fills.
  pub print-first : r ≡ length (print_within limits bytes) → d ≡ filled (print_within limits bytes) out → HasFirst r d
  print-first e f =
      let rest : List ℕ = drop (length (print_within limits bytes)) out in
      let within : r ≤ length d = rw (f, length-append (print_within limits bytes) rest) (omega (arith, e)) in
      (within, sym (length-take-le r d within))

-- Of an input that is longer than any record that the reader takes, as much as is longer too prints the same: what a player reads is enough.
pub print-cut : (limits : Limits) (bytes : List ℕ) (m : ℕ) → length_of limits.events < m → m ≤ length bytes → print_within limits (take m bytes) ≡ print_within limits bytes
unfolding print_within
print-cut limits bytes m h l =
    let same : verdict_within limits (take m bytes) ≡ verdict_within limits bytes = read-cut limits bytes m limits.events limits.events h l in
    let no : (verdict_within limits bytes).refusal ≡ 0 → ⊥ = long-refused limits bytes limits.events limits.events (omega arith) in
    rw (same, ne_eqb (verdict_within limits bytes).refusal 0 no)

-- Every print has a line, so an answer of 0 comes from a buffer that is too short.
pub print-not-empty : (limits : Limits) (bytes : List ℕ) → 0 < length (print_within limits bytes)
unfolding ascii print_within
print-not-empty limits bytes = go (all_yes (verdict_within limits bytes))
  where
    go : (t : Bool) → 0 < length (cond t (played_lines (sources_of bytes) (heads_of bytes) (values_of bytes)) (refused_line (verdict_within limits bytes).refusal (verdict_within limits bytes).place))
    go true = simp (length-append) (omega arith)
    go false = simp (length-append) (omega arith)

-- The machine of the last line is sound, so its margin is the query's answer and no refusal.
pub end-sound : (bytes : List ℕ) → Below 256 bytes → sound_of (end_of (power_on_of (sources_of bytes)).machine (heads_of bytes) (values_of bytes)) ≡ true
end-sound bytes b = played-sound (power_on_of (sources_of bytes)).machine (power-on-sound (sources_of bytes)) (heads_of bytes) (values_of bytes) (values-below bytes b)
