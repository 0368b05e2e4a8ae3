-- Sources that enter their sets one after the other.
use Prim.Native.Nat.{ℕ, zero, suc, ◌+◌, ◌<◌, ◌≤◌}
use mathlib.Core.Path.{◌≡◌, refl, sym, ap, ◌∙◌}
use mathlib.Core.Bool.{Bool, true, false, ◌&&◌}
use mathlib.Core.List.{List}
use mathlib.Core.Logic.{◌⊎◌, inl, inr}
use native.Mathlib.Omega.{arith}
use lib.Dec.{leb}
use lib.ListN.{replicate}
use borrow.Author.Tests.{eq-eqb, ne_eqb, le-leb, lt-leb}
use Rattle.pic_source.specs.declared.Rank.{Rank}
use Rattle.std.proofs.lemmas.Bool.{cases_eq}
use Rattle.pic_source.proofs.Bools.{le-cases}
use Rattle.pic_bits.specs.Bits.{join_of, word_to}
use Rattle.pic_bits.specs.Tables.{table_of}
use Rattle.pic.specs.declared.Controller.{Controller}
use Rattle.pic.specs.Sources.{rank_at}
use Rattle.pic_sets.specs.Sets.{updated_of}
use Rattle.pic_sets.specs.Laws.{differs, is_in}
use Rattle.pic_sets.proofs.Members.{update-shape, update-member}
use Rattle.pic_ready.specs.Ready.{ready_at, belongs, sets_by, fresh_of}
use Rattle.pic_ready.proofs.Members.{by-shaped, by-same, in-sets, sets-are}

-- Sets with no source are words of 0.
no_source : replicate 16 (replicate 8 0) ≡ sets_by (λ (r s : ℕ). false)
unfolding table_of word_to join_of
no_source = refl

module _ (c : Controller) where
  -- The sources up to k have entered.
  abbrev pub entered : ℕ → ℕ → ℕ → Bool
  entered k r t = leb t k && belongs c r t

  -- What one turn does to the bit of t in set r.
  turned : (k s : ℕ) → s ≡ suc k → (r t : ℕ)
      → differs (differs (entered k r t) (false && is_in s (rank_at c s).0 t r)) (ready_at c s && is_in s (rank_at c s).0 t r) ≡ entered s r t
  turned k s e r t = go (cases_eq t s)
    where
      old : (a w : Bool) → differs (differs a false) (w && false) ≡ a
      old true true = refl
      old true false = refl
      old false true = refl
      old false false = refl

      order : (t ≡ s → ⊥) → (t ≤ k) ⊎ (k < t) → leb t k ≡ leb t s
      order n (inl a) = le-leb t k a ∙ sym (le-leb t s (omega (arith, a, e)))
      order n (inr a) = lt-leb t k a ∙ sym (lt-leb t s (omega (arith, a, e, n)))

      go : (t ≡ s) ⊎ (t ≡ s → ⊥)
          → differs (differs (entered k r t) (false && is_in s (rank_at c s).0 t r)) (ready_at c s && is_in s (rank_at c s).0 t r) ≡ entered s r t
      go (inl z) = rw (z, lt-leb s k (omega (arith, e)), le-leb s s (omega arith), eq-eqb s s refl)
      go (inr n) = rw (ne_eqb t s n) (old (entered k r t) (ready_at c s) ∙ ap (λ (b : Bool). b && belongs c r t) (order n (le-cases t k)))

  pub entered-turn : (k s : ℕ) → s ≡ suc k → updated_of (sets_by (entered k)) s (rank_at c s) false (rank_at c s) (ready_at c s) ≡ sets_by (entered s)
  entered-turn k s e =
      sets-are (entered s) _ (update-shape (sets_by (entered k)) s (rank_at c s) false (rank_at c s) (ready_at c s) (by-shaped (entered k)))
      (λ r t a b. update-member (sets_by (entered k)) (by-shaped (entered k)) s (rank_at c s) false (rank_at c s) (ready_at c s) r t a b
      ∙ ap (λ (x : Bool). differs (differs x (false && is_in s (rank_at c s).0 t r)) (ready_at c s && is_in s (rank_at c s).0 t r)) (in-sets (entered k) r t a b)
      ∙ turned k s e r t)

  -- One turn, over plain variables.
  pub entered-next : (k s : ℕ) {sets next : List (List ℕ)} {old : Rank} {w : Bool} → s ≡ k + 1 → sets ≡ sets_by (entered k) → old ≡ rank_at c s
      → w ≡ ready_at c s → next ≡ updated_of sets s old false old w → next ≡ sets_by (entered s)
  entered-next k s e hs hr hw hn = rw (hn, hs, hr, hw) (entered-turn k s (omega (arith, e)))

  -- Before the first, no source has entered: all words are 0;
  pub entered-none : replicate 16 (replicate 8 0) ≡ sets_by (entered 0)
  unfolding ready_at
  entered-none = no_source ∙ by-same (λ (r s : ℕ). false) (entered 0) (λ r s l k. none r s)
    where
      none : (r s : ℕ) → false ≡ entered 0 r s
      none r zero = refl
      none r (suc s) = rw (lt-leb (suc s) 0 (omega arith))

  -- after the last, all have.
  pub entered_all : sets_by (entered c.sources) ≡ fresh_of c
  unfolding fresh_of ready_at
  entered_all = by-same (entered c.sources) (belongs c) (λ r s l k. all r s (leb s c.sources) refl)
    where
      all : (r s : ℕ) (t : Bool) → leb s c.sources ≡ t → entered c.sources r s ≡ belongs c r s
      all r s true e = rw e
      all r s false e = rw e (off (leb 1 s) _ _)
        where
          off : (t w q : Bool) → false ≡ ((t && false) && w) && q
          off true w q = refl
          off false w q = refl
