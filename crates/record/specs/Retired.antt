-- Document 02, No. 8: kind 7 retired. The check of an event that is written beside that of one that is read, and the records with kind 7. What is proved of them.
use Rattle.std.specs.Prelude.{ℕ, ◌<◌, Bool, true, false, not, cond, ◌&&◌, ◌≡◌, ◌⊎◌, List, length, get_or, eqb}
use Rattle.event.specs.Kinds as kind
use Rattle.event.specs.Event.{kind_of, address_of, is_kind, unused_are_zero, shape_of}
use Rattle.record.specs.Questions.{verdict, no_refusal, is_retired, write_shape_of, walk, write_verdict}

-- "The writer no longer takes it": of an event of kind 7 the writer's check gives 27, whatever its address and value; of any other what the reader's gives.
abbrev pub RetiredAlone : Type 0
RetiredAlone = (head value : ℕ) → write_shape_of head value ≡ cond (is_retired head) 27 (shape_of head value)

-- So it accepts just what the reader's does, kind 7 aside.
abbrev pub AcceptsOthers : Type 0
AcceptsOthers = (head value : ℕ) → eqb (write_shape_of head value) 0 ≡ (not (is_retired head) && eqb (shape_of head value) 0)

-- The number of an event that fails is that of its first no, in the order 6, 27, 7.
abbrev pub FirstNoOf : Bool → Bool → Bool → ℕ → Type 0
FirstNoOf six retired seven q =
    ((six ≡ false) × (q ≡ 6)) ⊎ (((six ≡ true) × (retired ≡ true) × (q ≡ 27)) ⊎ ((six ≡ true) × (retired ≡ false) × (seven ≡ false) × (q ≡ 7)))

abbrev pub FirstNoWriting : Type 0
FirstNoWriting =
    (head value : ℕ) → (write_shape_of head value ≡ 0 → ⊥)
    → FirstNoOf (is_kind (kind_of head)) (is_retired head) (unused_are_zero (kind_of head) (address_of head) value) (write_shape_of head value)

-- The event at a place is of kind 7.
abbrev pub RetiredAt : List ℕ → ℕ → Type 0
RetiredAt heads p = (p < length heads) × (kind_of (get_or heads p 0) ≡ kind.chain)

-- "Records without kind 7."
abbrev pub NoneRetired : List ℕ → Type 0
NoneRetired heads = (p : ℕ) → RetiredAt heads p → ⊥

-- The first event of kind 7 is at this place.
abbrev pub FirstRetired : List ℕ → ℕ → Type 0
FirstRetired heads p = RetiredAt heads p × ((j : ℕ) → j < p → RetiredAt heads j → ⊥)

-- A record without kind 7, or one that has a first event of kind 7: there is no other.
pub record SomeRetired (heads : List ℕ) : Type 0 where
  pub place : ℕ
  pub first : FirstRetired heads place

abbrev pub NoneOrFirst : Type 0
NoneOrFirst = (heads : List ℕ) → NoneRetired heads ⊎ SomeRetired heads

-- The walk of the writer beside that of the reader, over events whose heads and values are equally many.
pub record WalksBeside (heads values : List ℕ) : Type 0 where
  -- The writer's accepts just the events that the reader's accepts and of which none is of kind 7.
  pub accepts : (walk shape_of heads values).refusal ≡ 0 → NoneRetired heads → walk write_shape_of heads values ≡ no_refusal
  pub accepted : (walk write_shape_of heads values).refusal ≡ 0 → (walk shape_of heads values ≡ no_refusal) × NoneRetired heads
  -- Events that the reader's accepts, with one of kind 7: it is refused with 27 at the first.
  pub refuses : (walk shape_of heads values).refusal ≡ 0 → (p : ℕ) → FirstRetired heads p → walk write_shape_of heads values ≡ verdict 27 p

-- What the writer accepts has no event of kind 7.
abbrev pub WritesNoneRetired : Type 0
WritesNoneRetired = (sources : ℕ) (heads values : List ℕ) (space : ℕ) → (write_verdict sources heads values space).refusal ≡ 0 → NoneRetired heads
