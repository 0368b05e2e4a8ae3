-- What a flip, an update and the flips of a word do to each source in each set.
use Prim.Native.Nat.{ℕ, zero, suc, ◌/◌, ◌%◌, ◌^◌, ◌<◌, ◌≤◌}
use mathlib.Core.Path.{◌≡◌, refl, sym, ap, ◌∙◌}
use mathlib.Core.Bool.{Bool, true, false, not, ◌&&◌}
use mathlib.Core.List.{List, []}
use mathlib.Core.Logic.{◌⊎◌, inl, inr}
use native.Mathlib.Omega.{arith}
use lib.Bits.{bit_xor, xor_lt}
use lib.Dec.{eqb}
use lib.ListN.{get_or, set}
use lib.Pow.{pow-lt}
use lib.Seq.{get_or-set_same, get_or-set_other}
use borrow.Author.Tests.{eq-eqb, ne_eqb, eqb-true}
use Rattle.pic_source.specs.declared.Rank.{Rank}
use Rattle.std.proofs.lemmas.Bool.{and_parts, cases_eq}
use Rattle.pic_source.proofs.Bools.{never}
use Rattle.pic_bits.specs.Bits.{bit_of, has_bit, is_member, member_of, source_of}
use Rattle.pic_bits.specs.Tables.{Shaped}
use Rattle.pic_bits.proofs.Bits.{bit-cases, toggle-same, toggle-other}
use Rattle.pic_bits.proofs.Shapes.{store-shape}
use Rattle.pic_bits.proofs.Tables.{member-in, member-out}
use Rattle.pic_sets.specs.Sets.{in_set, flipped_at, flipped_if, updated_of, OthersStay, flipped_to, flipped_word}
use Rattle.pic_sets.specs.Laws.{differs, is_in, FlipMember, UpdateMember, WordMember}

-- A member that is not asked to change stays, and one that is asked to changes.
unchanged : (m f : Bool) → (f ≡ true → ⊥) → differs m f ≡ m
unchanged m true n = absurd (n refl)
unchanged true false n = refl
unchanged false false n = refl

changed : (m f : Bool) → f ≡ true → differs m f ≡ not m
changed m false e = never e
changed true true e = refl
changed false true e = refl

-- A bit the other way round.
other-bit : (b : ℕ) → (b ≡ 0) ⊎ (b ≡ 1) → eqb (bit_xor b 1) 1 ≡ not (eqb b 1)
other-bit b (inl e) = rw e
other-bit b (inr e) = rw e

-- One source in one set.
module _ (sets : List (List ℕ)) (h : Shaped 16 sets) (r s : ℕ) where
  abbrev word_after : ℕ
  word_after = bit_xor (get_or (get_or sets r []) (s / 32) 0) (2 ^ (s % 32))

  pub flip-shape : Shaped 16 (flipped_at sets r s)
  unfolding flipped_at
  flip-shape =
      store-shape 16 sets r (s / 32) word_after h
      (xor_lt 32 (get_or (get_or sets r []) (s / 32) 0) (2 ^ (s % 32)) (h.words r (s / 32)) (pow-lt {i = s % 32} {j = 32} (omega arith)))

  module _ (q t : ℕ) (a : q < 16) (l : t < 256) where
    abbrev member : Bool
    member = in_set sets q t

    same_row : q ≡ r → in_set (flipped_at sets r s) q t ≡ is_member (set (get_or sets r []) (s / 32) word_after) t
    unfolding flipped_at
    same_row e = rw e (ap (λ (row : List ℕ). is_member row t) (get_or-set_same sets r (set (get_or sets r []) (s / 32) word_after) [] (omega (arith, h.many, a, e))))

    abbrev goal : Type 0
    goal = in_set (flipped_at sets r s) q t ≡ differs member (is_in s r t q)

    stays : in_set (flipped_at sets r s) q t ≡ member → (t ≡ s → q ≡ r → ⊥) → goal
    stays e n =
        e
        ∙ sym (unchanged member (is_in s r t q) (λ f. let p = and_parts (eqb t s) (eqb q r) f in n (eqb-true t s p.0) (eqb-true q r p.1)))

    in-word : q ≡ r → t / 32 ≡ s / 32 → member_of (set (get_or sets r []) (s / 32) word_after) t ≡ bit_of word_after (t % 32)
    in-word e i = member-in (get_or sets r []) (s / 32) word_after t (omega (arith, h.rows r (omega (arith, a, e)), l, i)) i

    at-word : q ≡ r → t / 32 ≡ s / 32 → bit_of (get_or (get_or sets r []) (s / 32) 0) (t % 32) ≡ member_of (get_or sets q []) t
    at-word e i = rw (e, i)

    pub flip-at : goal
    unfolding flipped_at
    flip-at = go (cases_eq q r) (cases_eq (t / 32) (s / 32)) (cases_eq (t % 32) (s % 32))
      where
        go : (q ≡ r) ⊎ (q ≡ r → ⊥) → (t / 32 ≡ s / 32) ⊎ (t / 32 ≡ s / 32 → ⊥) → (t % 32 ≡ s % 32) ⊎ (t % 32 ≡ s % 32 → ⊥) → goal
        go (inr d) i j = stays (ap (λ (row : List ℕ). is_member row t) (get_or-set_other sets r q _ [] d)) (λ e f. d f)
        go (inl e) (inr d) j =
            stays
            (same_row e ∙ ap (λ (b : ℕ). eqb b 1) (member-out (get_or sets r []) (s / 32) word_after t d) ∙ ap (λ (k : ℕ). in_set sets k t) (sym e))
            (λ f g. d (ap (λ (k : ℕ). k / 32) f))
        go (inl e) (inl i) (inr d) =
            stays
            (same_row e ∙ ap (λ (b : ℕ). eqb b 1) (in-word e i ∙ toggle-other (get_or (get_or sets r []) (s / 32) 0) (s % 32) (t % 32) d ∙ at-word e i))
            (λ f g. d (ap (λ (k : ℕ). k % 32) f))
        go (inl e) (inl i) (inl j) =
            let v = get_or (get_or sets r []) (s / 32) 0 in
            same_row e
            ∙ ap (λ (b : ℕ). eqb b 1) (in-word e i ∙ ap (bit_of word_after) j ∙ toggle-same v (s % 32))
            ∙ other-bit (bit_of v (s % 32)) (bit-cases v (s % 32))
            ∙ ap (λ (b : ℕ). not (eqb b 1)) (ap (bit_of v) (sym j) ∙ at-word e i)
            ∙ sym (changed member (is_in s r t q) (let f : t ≡ s = omega (arith, i, j) in rw (eq-eqb t s f, eq-eqb q r e)))

pub flip-member : FlipMember
flip-member sets h r s q t a l = flip-at sets h r s q t a l

-- The same, where it is asked for.
pub if-shape : (on : Bool) (sets : List (List ℕ)) (r s : ℕ) → Shaped 16 sets → Shaped 16 (flipped_if on sets r s)
unfolding flipped_if
if-shape true sets r s h = flip-shape sets h r s
if-shape false sets r s h = h

if-member : (on : Bool) (sets : List (List ℕ)) → Shaped 16 sets → (r s q t : ℕ) → q < 16 → t < 256
    → in_set (flipped_if on sets r s) q t ≡ differs (in_set sets q t) (on && is_in s r t q)
unfolding flipped_if
if-member true sets h r s q t a l = flip-at sets h r s q t a l
if-member false sets h r s q t a l = sym (unchanged (in_set sets q t) false never)

-- One source whose rank, or whether it is ready, changes.
pub update-shape : (sets : List (List ℕ)) (s : ℕ) (old : Rank) (was : Bool) (new : Rank) (is : Bool) → Shaped 16 sets → Shaped 16 (updated_of sets s old was new is)
unfolding updated_of
update-shape sets s old was new is h = if-shape is (flipped_if was sets old.0 s) new.0 s (if-shape was sets old.0 s h)

pub update-member : UpdateMember
unfolding updated_of
update-member sets h s old was new is q t a l =
    if-member is (flipped_if was sets old.0 s) (if-shape was sets old.0 s h) new.0 s q t a l
    ∙ ap (λ (m : Bool). differs m (is && is_in s new.0 t q)) (if-member was sets h old.0 s q t a l)

-- Every set but those of the two ranks is as before.
if-row : (on : Bool) (sets : List (List ℕ)) (r s q : ℕ) → (q ≡ r → ⊥) → get_or (flipped_if on sets r s) q [] ≡ get_or sets q []
unfolding flipped_if flipped_at
if-row true sets r s q n = get_or-set_other sets r q _ [] n
if-row false sets r s q n = refl

pub others-stay : (sets : List (List ℕ)) (s : ℕ) (old : Rank) (was : Bool) (new : Rank) (is : Bool) → OthersStay sets (updated_of sets s old was new is) old new
unfolding updated_of
others-stay sets s old was new is r m n = if-row is (flipped_if was sets old.0 s) new.0 s r n ∙ if-row was sets old.0 s r m

-- The sources of one word.
module _ (sets : List (List ℕ)) (h : Shaped 16 sets) (rank : ℕ → Rank) (x w : ℕ) where
  pub to-shape : (k : ℕ) → Shaped 16 (flipped_to sets rank x w k)
  unfolding flipped_to
  to-shape zero = h
  to-shape (suc k) = if-shape (has_bit w k) (flipped_to sets rank x w k) (rank (source_of x k)).0 (source_of x k) (to-shape k)

  module _ (q t : ℕ) (a : q < 16) (l : t < 256) where
    -- Bit k done: its source may have changed, and no other.
    step : (k : ℕ)
        → in_set (flipped_to sets rank x w (suc k)) q t
        ≡ differs (in_set (flipped_to sets rank x w k) q t) (has_bit w k && is_in (source_of x k) (rank (source_of x k)).0 t q)
    unfolding flipped_to
    step k = if-member (has_bit w k) (flipped_to sets rank x w k) (to-shape k) (rank (source_of x k)).0 (source_of x k) q t a l

    step_other : (k : ℕ) → (t ≡ source_of x k → ⊥) → in_set (flipped_to sets rank x w (suc k)) q t ≡ in_set (flipped_to sets rank x w k) q t
    step_other k n =
        let s = source_of x k in
        let here = is_in s (rank s).0 t q in
        step k
        ∙ unchanged (in_set (flipped_to sets rank x w k) q t) (has_bit w k && here) (λ f. n (eqb-true t s (and_parts (eqb t s) (eqb q (rank s).0) (and_parts (has_bit w k) here f).1).0))

    -- Sources of other words, and those whose turn has not come.
    to-miss : (k : ℕ) → k ≤ 32 → (t / 32 ≡ x → k ≤ t % 32) → in_set (flipped_to sets rank x w k) q t ≡ in_set sets q t
    unfolding flipped_to
    to-miss zero b c = refl
    to-miss (suc k) b c =
        step_other k (λ e. let p : t / 32 ≡ x = omega arith in omega (arith, c p)) ∙ to-miss k (omega arith) (λ e. omega (arith, c e))

    -- Sources of the word.
    abbrev hit : ℕ → Type 0
    hit k = in_set (flipped_to sets rank x w k) q t ≡ differs (in_set sets q t) (has_bit w (t % 32) && eqb q (rank t).0)

    to-hit : (k : ℕ) → k ≤ 32 → t / 32 ≡ x → t % 32 < k → hit k
    to-hit zero b e c = absurd (omega arith)
    to-hit (suc k) b e c = go (cases_eq (t % 32) k) (λ d. to-hit k (omega arith) e d)
      where
        go : (t % 32 ≡ k) ⊎ (t % 32 ≡ k → ⊥) → (t % 32 < k → hit k) → hit (suc k)
        go (inr d) i = step_other k (λ f. d (omega arith)) ∙ i (omega (arith, d))
        go (inl j) i =
            let f : source_of x k ≡ t = omega arith in
            step k
            ∙ ap (λ (m : Bool). differs m (has_bit w k && is_in (source_of x k) (rank (source_of x k)).0 t q)) (to-miss k (omega arith) (λ p. omega (arith, j)))
            ∙ rw (f, eq-eqb t t refl, j)

pub word-member : WordMember
unfolding flipped_word
word-member sets h rank x w q t a l = go (cases_eq (t / 32) x)
  where
    go : (t / 32 ≡ x) ⊎ (t / 32 ≡ x → ⊥)
        → in_set (flipped_to sets rank x w 32) q t ≡ differs (in_set sets q t) (eqb (t / 32) x && (has_bit w (t % 32) && eqb q (rank t).0))
    go (inl e) = rw (eq-eqb (t / 32) x e) (to-hit sets h rank x w q t a l 32 (omega arith) e (omega arith))
    go (inr d) = rw (ne_eqb (t / 32) x d) (to-miss sets h rank x w q t a l 32 (omega arith) (λ e. absurd (d e)) ∙ sym (unchanged (in_set sets q t) false never))
