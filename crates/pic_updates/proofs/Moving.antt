-- Sets that follow one source, and the sources of a word.
use Prim.Native.Nat.{ℕ, ◌+◌, ◌*◌, ◌/◌, ◌%◌, ◌<◌, ◌≤◌}
use mathlib.Core.Path.{◌≡◌, refl, sym, ap, ◌∙◌}
use mathlib.Core.Bool.{Bool, true, false, ◌&&◌}
use mathlib.Core.List.{List}
use mathlib.Core.Logic.{◌⊎◌, inl, inr}
use native.Mathlib.Omega.{arith}
use lib.Dec.{eqb, ltb}
use borrow.Author.Tests.{eq-eqb, ne_eqb, lt-ltb, le-ltb}
use Rattle.pic_source.specs.declared.Rank.{Rank}
use Rattle.std.proofs.lemmas.Bool.{cases_eq}
use Rattle.pic_source.proofs.Bools.{le-cases}
use Rattle.pic_bits.specs.Tables.{Shaped}
use Rattle.pic.specs.declared.Controller.{Controller}
use Rattle.pic.specs.Sources.{rank_at}
use Rattle.pic_sets.specs.Sets.{in_set, updated_of}
use Rattle.pic_sets.specs.Laws.{differs, is_in}
use Rattle.pic_sets.proofs.Members.{update-shape, update-member}
use Rattle.pic_ready.specs.Ready.{ready_at, belongs, moved_of}
use Rattle.pic_ready.proofs.Members.{by-same, in-sets, sets-are}
use Rattle.pic_updates.specs.Updates.{moved_where, moved_at, moved_word}

module _ (c d : Controller) where
  abbrev moves : ℕ → ℕ → Bool
  moves r t = differs (belongs c r t) (belongs d r t)

  -- An update from what c says of a source to what d says of it.
  pub source-moved : (sets : List (List ℕ)) (s : ℕ) → Shaped 16 sets → updated_of sets s (rank_at c s) (ready_at c s) (rank_at d s) (ready_at d s) ≡ moved_at c d s sets
  source-moved sets s h =
      sets-are _ _ (update-shape sets s (rank_at c s) (ready_at c s) (rank_at d s) (ready_at d s) h)
      (λ r t l k. update-member sets h s (rank_at c s) (ready_at c s) (rank_at d s) (ready_at d s) r t l k ∙ at r t (cases_eq t s))
    where
      one : (o a p b q : Bool) → differs (differs o (a && (true && p))) (b && (true && q)) ≡ differs o (true && differs (a && p) (b && q))
      one true true true true true = refl
      one true true true true false = refl
      one true true true false q = refl
      one true true false true true = refl
      one true true false true false = refl
      one true true false false q = refl
      one true false p true true = refl
      one true false p true false = refl
      one true false p false q = refl
      one false true true true true = refl
      one false true true true false = refl
      one false true true false q = refl
      one false true false b q = refl
      one false false p b q = refl

      none : (o a b : Bool) → differs (differs o (a && false)) (b && false) ≡ differs o false
      none true true true = refl
      none true true false = refl
      none true false true = refl
      none true false false = refl
      none false true true = refl
      none false true false = refl
      none false false true = refl
      none false false false = refl

      at : (r t : ℕ) → (t ≡ s) ⊎ (t ≡ s → ⊥)
          → differs (differs (in_set sets r t) (ready_at c s && is_in s (rank_at c s).0 t r)) (ready_at d s && is_in s (rank_at d s).0 t r)
          ≡ differs (in_set sets r t) (eqb t s && moves r t)
      at r t (inl e) = rw (e, eq-eqb s s refl) (one (in_set sets r s) (ready_at c s) (eqb r (rank_at c s).0) (ready_at d s) (eqb r (rank_at d s).0))
      at r t (inr n) = rw (ne_eqb t s n) (none (in_set sets r t) (ready_at c s) (ready_at d s))

  -- The same, over plain variables.
  pub follow_one : (sets : List (List ℕ)) (s : ℕ) {next : List (List ℕ)} {old new : Rank} {was is : Bool} → Shaped 16 sets → old ≡ rank_at c s → was ≡ ready_at c s
      → new ≡ rank_at d s → is ≡ ready_at d s → next ≡ updated_of sets s old was new is → next ≡ moved_at c d s sets
  follow_one sets s h ho hw hn hi e = e ∙ rw (ho, hw, hn, hi) (source-moved sets s h)

  -- The sources of the first y bits of word x.
  abbrev pub up_to : ℕ → ℕ → ℕ → Bool
  up_to x y t = eqb (t / 32) x && ltb (t % 32) y

  -- One turn: bit y too.
  pub word-turn : (sets now next : List (List ℕ)) (x y : ℕ) → y < 32 → now ≡ moved_where (up_to x y) c d sets → next ≡ moved_at c d (32 * x + y) now
      → next ≡ moved_where (up_to x (y + 1)) c d sets
  word-turn sets now next x y l e f =
      f ∙ by-same _ _ (λ r t a b. ap (λ (o : Bool). differs o (eqb t (32 * x + y) && moves r t)) (ap (λ (q : List (List ℕ)). in_set q r t) e ∙ in-sets (λ (q u : ℕ). differs (in_set sets q u) (up_to x y u && moves q u)) r t a b) ∙ at r t (cases_eq t (32 * x + y)))
    where
      new : (o m : Bool) → differs (differs o (true && false && m)) (true && m) ≡ differs o (true && true && m)
      new true true = refl
      new true false = refl
      new false true = refl
      new false false = refl

      old : (o : Bool) → differs o false ≡ o
      old true = refl
      old false = refl

      order : (t : ℕ) → (t ≡ 32 * x + y → ⊥) → (t / 32 ≡ x) ⊎ (t / 32 ≡ x → ⊥) → (t % 32 ≤ y) ⊎ (y < t % 32) → up_to x y t ≡ up_to x (y + 1) t
      order t n (inr z) q = rw (ne_eqb (t / 32) x z)
      order t n (inl z) (inl q) = rw (lt-ltb (t % 32) y (omega (arith, n, z, q)), lt-ltb (t % 32) (y + 1) (omega (arith, q)))
      order t n (inl z) (inr q) = rw (le-ltb (t % 32) y (omega (arith, q)), le-ltb (t % 32) (y + 1) (omega (arith, q)))

      at : (r t : ℕ) → (t ≡ 32 * x + y) ⊎ (t ≡ 32 * x + y → ⊥)
          → differs (differs (in_set sets r t) (up_to x y t && moves r t)) (eqb t (32 * x + y) && moves r t) ≡ differs (in_set sets r t) (up_to x (y + 1) t && moves r t)
      at r t (inl z) =
          let a : t / 32 ≡ x = omega (arith, z, l) in
          let b : t % 32 ≡ y = omega (arith, z, l) in
          rw (eq-eqb t (32 * x + y) z, eq-eqb (t / 32) x a, le-ltb (t % 32) y (omega (arith, b)), lt-ltb (t % 32) (y + 1) (omega (arith, b))) (new (in_set sets r t) (moves r t))
      at r t (inr n) =
          rw (ne_eqb t (32 * x + y) n) (old (differs (in_set sets r t) (up_to x y t && moves r t)) ∙ ap (λ (q : Bool). differs (in_set sets r t) (q && moves r t)) (order t n (cases_eq (t / 32) x) (le-cases (t % 32) y)))

  pub word-begun : (sets : List (List ℕ)) (x : ℕ) → Shaped 16 sets → sets ≡ moved_where (up_to x 0) c d sets
  word-begun sets x h = sets-are _ sets h (λ r t l k. none (in_set sets r t) (eqb (t / 32) x) (ltb (t % 32) 0) (moves r t) (le-ltb (t % 32) 0 (omega arith)))
    where
      none : (o a b m : Bool) → b ≡ false → o ≡ differs o (a && b && m)
      none true true b m e = rw e
      none true false b m e = refl
      none false true b m e = rw e
      none false false b m e = refl

  pub word-ended : (sets : List (List ℕ)) (x : ℕ) → moved_where (up_to x 32) c d sets ≡ moved_word c d x sets
  word-ended sets x = by-same _ _ (λ r t l k. ap (λ (q : Bool). differs (in_set sets r t) (q && moves r t)) (all (eqb (t / 32) x) (ltb (t % 32) 32) (lt-ltb (t % 32) 32 (omega arith))))
    where
      all : (a b : Bool) → b ≡ true → (a && b) ≡ a
      all true b e = e
      all false b e = refl

  -- Where all others stay, to follow these is to follow all.
  pub all_moved : (on : ℕ → Bool) (sets : List (List ℕ)) → ((r t : ℕ) → t < 256 → on t ≡ false → belongs c r t ≡ belongs d r t) → moved_where on c d sets ≡ moved_of c d sets
  unfolding moved_of
  all_moved on sets h = by-same _ _ (λ r t l k. ap (differs (in_set sets r t)) (go r t k (on t) refl))
    where
      same : (a b : Bool) → a ≡ b → false ≡ differs a b
      same true true e = refl
      same true false e = sym e
      same false true e = e
      same false false e = refl

      go : (r t : ℕ) → t < 256 → (b : Bool) → on t ≡ b → (b && moves r t) ≡ moves r t
      go r t k true e = refl
      go r t k false e = same (belongs c r t) (belongs d r t) (h r t k e)
