-- Document 02, No. 9: ready sets that follow some of the sources, from the controller c before an event to d after it.
use Rattle.std.specs.Prelude.{ℕ, ◌/◌, ◌≡◌, Bool, true, ◌&&◌, List, eqb}
use Rattle.pic.specs.declared.Controller.{Controller}
use Rattle.pic.specs.Sound.{sound_of}
use Rattle.pic_registers.specs.Calls.{sample_of, store_of}
use Rattle.pic_sets.specs.Sets.{in_set}
use Rattle.pic_sets.specs.Laws.{differs}
use Rattle.pic_ready.specs.Ready.{belongs, sets_by, fresh_of, followed_of}

-- A bit changes where its source is one of these, and enters or leaves that set.
abbrev pub moved_where : (ℕ → Bool) → Controller → Controller → List (List ℕ) → List (List ℕ)
moved_where on c d sets = sets_by (λ (r s : ℕ). differs (in_set sets r s) (on s && differs (belongs c r s) (belongs d r s)))

-- One source,
abbrev pub moved_at : Controller → Controller → ℕ → List (List ℕ) → List (List ℕ)
moved_at c d s sets = moved_where (λ (t : ℕ). eqb t s) c d sets

-- and the sources of a word.
abbrev pub moved_word : Controller → Controller → ℕ → List (List ℕ) → List (List ℕ)
moved_word c d x sets = moved_where (λ (t : ℕ). eqb (t / 32) x) c d sets

-- "After every event on a sound machine the sets equal those worked out afresh": the part of it that a sample and a store have.
abbrev pub SampleFresh : Type 0
SampleFresh = (c : Controller) (x v : ℕ) → followed_of c (sample_of c x v).machine (fresh_of c) ≡ fresh_of (sample_of c x v).machine

abbrev pub StoreFresh : Type 0
StoreFresh =
    (c : Controller) (offset v : ℕ) → sound_of c ≡ true → followed_of c (store_of c offset v).machine (fresh_of c) ≡ fresh_of (store_of c offset v).machine
