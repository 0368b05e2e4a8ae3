-- One turn of each loop over the bits of a word, over plain variables.
use Prim.Native.Nat.{ℕ, zero, suc, ◌+◌, ◌≤◌, ◌<◌}
use mathlib.Core.Path.{◌≡◌, refl, sym, ◌∙◌}
use mathlib.Core.Bool.{Bool, true, false, cond, ◌&&◌}
use mathlib.Core.List.{List}
use native.Mathlib.Numerals.{add-one}
use native.Mathlib.Omega.{arith}
use lib.ListN.{length, get_or, set}
use lib.Seq.{get_or-set_same, get_or-set_other}
use Rattle.pic_source.specs.Sources.{is_source}
use Rattle.pic.specs.declared.Controller.{Controller}
use Rattle.pic.specs.Fields.{with_line, with_latch}
use Rattle.pic.specs.Sources.{pending_at, settle_at}
use Rattle.pic_bits.specs.Bits.{bit_of, join_of, word_to, source_of}
use Rattle.pic_registers.specs.Words.{places_to}
use Rattle.pic_registers.specs.Registers.{latch_sampled, pending_bit}
use Rattle.pic_registers.proofs.Words.{places-to-length}

pub pending-turn : (c : Controller) (x y : ℕ) {w w' : ℕ} {i p : Bool}
    → w ≡ word_to (pending_bit c x) y
    → i ≡ is_source c.sources (source_of x y)
    → p ≡ pending_at c (source_of x y)
    → w' ≡ join_of w y (i && p)
    → w' ≡ word_to (pending_bit c x) (y + 1)
unfolding word_to
pending-turn c x y hw hi hp hj = rw (hj, hw, hi, hp, add-one)

-- The places from bit y up are as they were.
pub place-ahead : (n : ℕ) (l : List ℕ) (x : ℕ) (f : ℕ → ℕ) (y s : ℕ) → source_of x y ≤ s → get_or (places_to n l x f y) s 0 ≡ get_or l s 0
unfolding places_to
place-ahead n l x f zero s b = refl
place-ahead n l x f (suc y) s b = go (is_source n (source_of x y)) (place-ahead n l x f y s (omega arith))
  where
    go : (t : Bool) → get_or (places_to n l x f y) s 0 ≡ get_or l s 0
        → get_or (cond t (set (places_to n l x f y) (source_of x y) (f y)) (places_to n l x f y)) s 0 ≡ get_or l s 0
    go true i = get_or-set_other (places_to n l x f y) (source_of x y) s (f y) 0 (λ e. omega arith) ∙ i
    go false i = i

-- A sample, bit by bit: the lines have the first y bits, and their latches have followed.
module _ (c : Controller) (x v : ℕ) where
  abbrev pub sampled_to : ℕ → Controller
  sampled_to y =
      with_latch (with_line c (places_to c.sources c.line x (bit_of v) y)) (places_to c.sources c.latch x (latch_sampled c x v) y)

  pub sample-start : c ≡ sampled_to 0
  unfolding places_to
  sample-start = refl

  module _ (y : ℕ) {m : Controller} {i : Bool} (hm : m ≡ sampled_to y) (hi : i ≡ is_source m.sources (source_of x y)) where
    -- One turn at a source: its latch is still the one that it had.
    pub sample_in : {b : ℕ} {m' : Controller} → b ≡ bit_of v y → i ≡ true → source_of x y < length c.line
        → m' ≡ settle_at (with_line m (set m.line (source_of x y) b)) (source_of x y) → m' ≡ sampled_to (y + 1)
    unfolding places_to
    sample_in {b = b} hb ht h hs =
        let t : is_source c.sources (source_of x y) ≡ true = rw hm at (sym hi ∙ ht) in
        rw (hs, add-one, t, get_or-set_same m.line (source_of x y) b 0 (rw (hm, places-to-length c.sources c.line x (bit_of v) y) h), hm, place-ahead c.sources c.latch x (latch_sampled c x v) y (source_of x y) (omega arith), hb)

    -- One turn at a bit of no source.
    pub sample_out : i ≡ false → m ≡ sampled_to (y + 1)
    unfolding places_to
    sample_out hf = let t : is_source c.sources (source_of x y) ≡ false = rw hm at (sym hi ∙ hf) in rw (add-one, t) hm
