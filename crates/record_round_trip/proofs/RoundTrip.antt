-- The round trip, both ways, over the rules.
use mathlib.Core.Path.{◌≡◌, refl, sym, ap, ◌∙◌}
use Prim.Native.Nat.{ℕ, zero, suc, ◌+◌, ◌%◌, ◌^◌, ◌≤◌, ◌<◌}
use native.Mathlib.Omega.{arith}
use mathlib.Core.List.{List, [], ◌∷◌, ◌++◌}
use borrow.Author.Tests.{le-leb, eq-eqb}
use lib.Dec.{leb, lit<}
use lib.ListN.{length, get_or, drop, length-append, length-drop, take-append-drop}
use lib.Seq.{take_at, drop_at, take_all, take-length, drop-drop}
use Rattle.event.specs.Event.{shape_of}
use Rattle.buffers.specs.Filled.{filled}
use Rattle.record.specs.declared.Limits.{Limits}
use Rattle.record.specs.Verdict.{Verdict}
use Rattle.record.specs.Words.{words_of}
use Rattle.record.specs.Record.{most_events, record_of, count_of, sources_of, heads_of, values_of, length_of}
use Rattle.record.specs.Questions.{question, no_refusal, arrays_hold, write_shape_of, walk, read_verdict, write_verdict}
use Rattle.record.specs.Answers.{done_with, refused_at, write_answer, written_bytes}
use Rattle.record.specs.Retired.{NoneRetired, FirstRetired}
use Rattle.record_round_trip.specs.RoundTrip.{ReadsBackWithin, WritesBack}
use Rattle.record.proofs.Words.{Below, length-bytes, length-words, words-of-bytes, bytes-of-words}
use Rattle.record.proofs.Walk.{heads-length, equally-many}
use Rattle.record.proofs.Questions.{Readable, readable, Writable, writable}
use Rattle.record.proofs.Retired.{walks-beside}

below-cons : (b x : ℕ) (xs : List ℕ) → x < b → Below b xs → Below b (x ∷ xs)
below-cons b x xs hx h zero = hx
below-cons b x xs hx h (suc i) = h i

below-append : (b : ℕ) (xs ys : List ℕ) → Below b xs → Below b ys → Below b (xs ++ ys)
below-append b [] ys hx hy = hy
below-append b (x ∷ xs) ys hx hy = below-cons b x (xs ++ ys) (hx 0) (below-append b xs ys (λ i. hx (suc i)) hy)

-- N and n of a record have 32 bits.
pub word-sized : {n : ℕ} → n ≤ most_events → n < 2 ^ 32
word-sized {n} h = let most : most_events < 2 ^ 32 = lit< tt in omega (arith, h, most)

-- Written: the words of a record of numbers of 32 bits.
module _ (sources : ℕ) (heads values : List ℕ) (same : length heads ≡ length values)
    (hn : length heads < 2 ^ 32) (hs : sources < 2 ^ 32) (hh : Below (2 ^ 32) heads) (hv : Below (2 ^ 32) values) where
  abbrev written : List ℕ
  written = record_of sources heads values

  record-words : words_of written ≡ length heads ∷ sources ∷ heads ++ values
  record-words =
      words-of-bytes (length heads ∷ sources ∷ heads ++ values)
      (below-cons (2 ^ 32) (length heads) (sources ∷ heads ++ values) hn
      (below-cons (2 ^ 32) sources (heads ++ values) hs (below-append (2 ^ 32) heads values hh hv)))

  pub count-back : count_of written ≡ length heads
  count-back = ap (λ (ws : List ℕ). get_or ws 0 0) record-words

  pub sources-back : sources_of written ≡ sources
  sources-back = ap (λ (ws : List ℕ). get_or ws 1 0) record-words

  pub heads-back : heads_of written ≡ heads
  heads-back = rw record-words (take_at heads values (length heads) refl)

  pub values-back : values_of written ≡ values
  values-back =
      rw (record-words, ← drop-drop (length heads) 2 (length heads ∷ sources ∷ heads ++ values), drop_at heads values (length heads) refl, same)
      (take-length values)

  pub length-written : length written ≡ length_of (length heads)
  length-written = omega (arith, length-bytes (length heads ∷ sources ∷ heads ++ values), length-append heads values)

  -- For everything the writer accepts, reading what it wrote asks only for room.
  pub reads-written : (limits : Limits) (space head_places value_places : ℕ) → Writable sources heads values space → sources ≤ limits.sources → length heads ≤ limits.events
      → read_verdict limits written head_places value_places ≡ question 5 (arrays_hold (length heads) head_places value_places) no_refusal
  unfolding read_verdict
  reads-written limits space hp vp w taken short =
      let all : walk shape_of heads values ≡ no_refusal = ((walks-beside heads values same).accepted w.events).0 in
      let eight : 8 ≤ length_of (length heads) = omega arith in
      rw (
        heads-back,
        values-back,
        count-back,
        sources-back,
        length-written,
        all,
        le-leb _ _ eight,
        le-leb _ _ w.two,
        le-leb _ _ w.most,
        le-leb _ _ taken,
        le-leb _ _ w.few,
        le-leb _ _ short,
        eq-eqb (length_of (length heads)) _ refl,
      )

two-more : (ws : List ℕ) → 2 ≤ length ws → get_or ws 0 0 ∷ get_or ws 1 0 ∷ drop 2 ws ≡ ws
two-more [] h = absurd (omega arith)
two-more (a ∷ []) h = absurd (omega arith)
two-more (a ∷ b ∷ ws) h = refl

-- Read: the bytes of an accepted record.
module _ (limits : Limits) (bytes : List ℕ) (head_places value_places : ℕ) (byte : Below 256 bytes) (r : Readable limits bytes head_places value_places) where
  pub heads-count : length (heads_of bytes) ≡ count_of bytes
  heads-count = heads-length bytes (count_of bytes) r.whole

  rest : drop (2 + count_of bytes) (words_of bytes) ≡ values_of bytes
  rest =
      let long = r.whole in
      let l : length (drop (2 + count_of bytes) (words_of bytes)) ≤ count_of bytes = simp (length-drop, length-words) (omega arith) in
      sym (take_all (count_of bytes) _ l)

  split : count_of bytes ∷ sources_of bytes ∷ heads_of bytes ++ values_of bytes ≡ words_of bytes
  split =
      let long = r.whole in
      let n : ℕ = count_of bytes in
      let l : 2 ≤ length (words_of bytes) = simp length-words (omega arith) in
      ap (λ (t : List ℕ). n ∷ sources_of bytes ∷ heads_of bytes ++ t) (sym rest ∙ sym (drop-drop n 2 (words_of bytes)))
      ∙ ap (λ (t : List ℕ). n ∷ sources_of bytes ∷ t) (take-append-drop n (drop 2 (words_of bytes)))
      ∙ two-more (words_of bytes) l

  -- For everything the reader accepts, writing what it read gives the same bytes.
  pub bytes_back : record_of (sources_of bytes) (heads_of bytes) (values_of bytes) ≡ bytes
  bytes_back =
      let long = r.whole in
      let whole : length bytes % 4 ≡ 0 = omega arith in
      rw (heads-count, split) (bytes-of-words bytes byte whole)

  same-places : length (heads_of bytes) ≡ length (values_of bytes)
  same-places = equally-many bytes (count_of bytes) r.whole

  -- Writing what was read asks only for room, and for events that the writer takes.
  pub writes-read : (space : ℕ) → write_verdict (sources_of bytes) (heads_of bytes) (values_of bytes) space ≡ question 5 (leb (length bytes) space) (walk write_shape_of (heads_of bytes) (values_of bytes))
  unfolding write_verdict
  writes-read space = rw (eq-eqb _ _ same-places, heads-count, ← r.whole, le-leb _ _ r.two, le-leb _ _ r.most, le-leb _ _ r.few)

  -- With room.
  module _ (back : List ℕ) (l : length bytes ≤ length back) where
    with-room : {v : Verdict} → walk write_shape_of (heads_of bytes) (values_of bytes) ≡ v → write_verdict (sources_of bytes) (heads_of bytes) (values_of bytes) (length back) ≡ v
    with-room e = writes-read (length back) ∙ rw (le-leb _ _ l) e

    pub returned : NoneRetired (heads_of bytes)
        → (write_answer (sources_of bytes) (heads_of bytes) (values_of bytes) (length back) ≡ done_with (length bytes ∷ []))
        × (written_bytes (sources_of bytes) (heads_of bytes) (values_of bytes) back ≡ filled bytes back)
    returned none =
        let v = with-room ((walks-beside (heads_of bytes) (values_of bytes) same-places).accepts r.events none) in
        let long : length_of (length (heads_of bytes)) ≡ length bytes = rw heads-count (sym r.whole) in
        (rw (v, long), rw (v, bytes_back))

    pub not-returned : (p : ℕ) → FirstRetired (heads_of bytes) p
        → (write_answer (sources_of bytes) (heads_of bytes) (values_of bytes) (length back) ≡ refused_at 27 p)
        × (written_bytes (sources_of bytes) (heads_of bytes) (values_of bytes) back ≡ back)
    not-returned p first =
        let v = with-room ((walks-beside (heads_of bytes) (values_of bytes) same-places).refuses r.events p first) in
        (rw v, rw v)

-- The round trip: for everything the writer accepts, a reader that takes N and n returns n, N, heads and values of what it wrote.
pub reads-back : (limits : Limits) (sources : ℕ) (heads values : List ℕ) → Below (2 ^ 32) heads → Below (2 ^ 32) values → (space : ℕ) (heads_back values_back : List ℕ)
    → ReadsBackWithin limits sources heads values space heads_back values_back
reads-back limits sources heads values hh hv space heads_back values_back taken short z lh lv =
    let w = writable sources heads values space z in
    let hn : length heads < 2 ^ 32 = word-sized w.few in
    let hs : sources < 2 ^ 32 = word-sized (omega (arith, w.most)) in
    let v : read_verdict limits (record_of sources heads values) (length heads_back) (length values_back) ≡ no_refusal =
    reads-written sources heads values w.same hn hs hh hv limits space _ _ w taken short ∙ rw (le-leb _ _ lh, le-leb _ _ lv) in (
      rw (v, count-back sources heads values w.same hn hs hh hv, sources-back sources heads values w.same hn hs hh hv),
      rw (v, heads-back sources heads values w.same hn hs hh hv),
      rw (v, values-back sources heads values w.same hn hs hh hv),
    )

-- The round trip: for everything the reader accepts, writing what it read returns the same bytes, or is refused at the first event of kind 7.
pub writes-back : (limits : Limits) (bytes : List ℕ) → Below 256 bytes → (head_places value_places : ℕ) (back : List ℕ)
    → WritesBack limits bytes head_places value_places back
    (write_answer (sources_of bytes) (heads_of bytes) (values_of bytes) (length back))
    (written_bytes (sources_of bytes) (heads_of bytes) (values_of bytes) back)
writes-back limits bytes byte head_places value_places back z l =
    let r = readable limits bytes head_places value_places z in
    (returned limits bytes head_places value_places byte r back l, not-returned limits bytes head_places value_places byte r back l)
