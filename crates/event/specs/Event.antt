-- Document 01, "Events and registers": the head and the value of an event; questions 6 and 7.
use Rattle.std.specs.Prelude.{ℕ, ◌+◌, ◌*◌, ◌/◌, ◌%◌, ◌≡◌, Bool, true, false, cond, ◌&&◌, ◌||◌, List, [], ◌∷◌, length, get_or, ltb, eqb, Result, MatchResult}
use Rattle.questions.specs.declared.Refusal.{Refusal}
use Rattle.questions.specs.declared.Refusal.TheVariants as refusal
use Rattle.questions.specs.Numbers.{number_of}
use Rattle.event.specs.declared.kinds.Kind.{Kind}
use Rattle.event.specs.declared.kinds.NoKind.{NoKind}
use Rattle.event.specs.Kinds as kind

-- Kind = head / 65,536.
abbrev pub kind_of : ℕ → ℕ
kind_of head = head / 65536

-- Address = head mod 65,536.
abbrev pub address_of : ℕ → ℕ
address_of head = head % 65536

-- The head of a kind and an address.
abbrev pub head_of : ℕ → ℕ → ℕ
head_of k address = k * 65536 + address

-- Whether a kind uses the address, and whether it uses the value.
pub record Uses : Type 0 where
  pub address : Bool
  pub value : Bool

abbrev pub uses : Bool → Bool → Uses
uses address value = record { address = address; value = value }

-- One row for each kind. Kinds 5 to 9 don't use the address; kinds 1, 3, 5, 6, 7, 8 don't use the value. "Kind 10 is one clock and uses neither address nor
-- value" (document 02, No. 1). "Kind 11 counts one error in the counter that its address names ...; its value is unused" (No. 5). Look and commit: "Neither uses the
-- value, and 12 uses no address" (No. 7).
abbrev pub kinds : List Uses
kinds =
    uses true true  -- 0 sample
    ∷ uses true false  -- 1 load
    ∷ uses true true  -- 2 store
    ∷ uses true false  -- 3 CSR read
    ∷ uses true true  -- 4 CSR write
    ∷ uses false false  -- 5 take
    ∷ uses false false  -- 6 open
    ∷ uses false false  -- 7 chain
    ∷ uses false false  -- 8 return
    ∷ uses false true  -- 9 set mask to the value
    ∷ uses false false  -- 10 clock
    ∷ uses true false  -- 11 error
    ∷ uses false false  -- 12 look
    ∷ uses true false  -- 13 commit
    ∷ []

-- The number after the last kind: the least that is of no kind.
abbrev pub no_kind : ℕ
no_kind = length kinds

-- 6. Is the kind 0..13? It has a row.
abbrev pub is_kind : ℕ → Bool
is_kind k = ltb k no_kind

-- A number names the kind that has it; one that no kind has is handed back.
abbrev pub Names : ℕ → Result Kind NoKind → Type 0
Names number r = MatchResult r (λ k. kind.number_of_kind k ≡ number) (λ e. (e.0 ≡ number) × (is_kind number ≡ false))

-- The row of a kind.
abbrev pub row_of : ℕ → Uses
row_of k = get_or kinds k (uses false false)

-- What it says of a kind by its name.
abbrev pub uses_address : Kind → Bool
uses_address k = (row_of (kind.number_of_kind k)).address

abbrev pub uses_value : Kind → Bool
uses_value k = (row_of (kind.number_of_kind k)).value

-- 7. Are unused parts 0?
abbrev pub unused_are_zero : ℕ → ℕ → ℕ → Bool
unused_are_zero kind address value = ((row_of kind).address || eqb address 0) && ((row_of kind).value || eqb value 0)

-- Question 7 of a kind by its name; 0 where it is answered yes.
abbrev pub unused_of : Kind → ℕ → ℕ → ℕ
unused_of k address value = cond (unused_are_zero (kind.number_of_kind k) address value) 0 7

-- Questions 6 and 7, first no decides; 0 where both are answered yes.
unfoldable pub shape_of : ℕ → ℕ → ℕ
shape_of head value = cond (is_kind (kind_of head)) (cond (unused_are_zero (kind_of head) (address_of head) value) 0 7) 6

-- What is handed back of an event: where question 6 is answered yes its kind,
abbrev pub NamedIn : ℕ → Result Kind Refusal → Type 0
NamedIn head r = MatchResult r (λ k. kind.number_of_kind k ≡ kind_of head) (λ q. (q ≡ refusal.NoSuchKind) × (is_kind (kind_of head) ≡ false))

-- and where 6 and 7 are.
abbrev pub AskedOf : ℕ → ℕ → Result Kind Refusal → Type 0
AskedOf head value r = MatchResult r (λ k. (kind.number_of_kind k ≡ kind_of head) × (shape_of head value ≡ 0)) (λ q. number_of q ≡ shape_of head value)

-- What 6 and 7 ask of an event of a kind that uses the address alone, and of one that uses neither.
abbrev pub UsesAddress : ℕ → Type 0
UsesAddress k = (head value : ℕ) → kind_of head ≡ k → shape_of head value ≡ cond (eqb value 0) 0 7

abbrev pub UsesNeither : ℕ → Type 0
UsesNeither k = (head value : ℕ) → kind_of head ≡ k → shape_of head value ≡ cond (eqb (address_of head) 0 && eqb value 0) 0 7

-- Document 02, No. 5: "the record's reader and writer don't check" question 25. Of an event of kind 11 they ask that the value is 0, and nothing of the address.
abbrev pub ErrorShape : Type 0
ErrorShape = UsesAddress kind.error

-- No. 7: of a commit they ask the same, and nothing of the number that it commits; of a look, as the reader of a chain, that address and value are 0.
abbrev pub CommitShape : Type 0
CommitShape = UsesAddress kind.commit

abbrev pub LookShape : Type 0
LookShape = UsesNeither kind.look

abbrev pub ChainShape : Type 0
ChainShape = UsesNeither kind.chain
