-- Words about lists.
use Rattle.std.specs.Prelude.{◌≡◌, Bool, true, false, ◌⊎◌, List, [], ◌∷◌}

-- `a` stands in the list.
abbrev pub Member : {A : Type 0} → A → List A → Type 0
Member a [] = ⊥
Member a (b ∷ l) = (a ≡ b) ⊎ Member a l

-- Each of the list has the property.
abbrev pub All : {A : Type 0} → (A → Type 0) → List A → Type 0
All P [] = Unit {0}
All P (a ∷ l) = P a × All P l

-- Of every two, the earlier is so related to the later.
abbrev pub Rising : {A : Type 0} → (A → A → Type 0) → List A → Type 0
Rising P [] = Unit {0}
Rising P (a ∷ l) = All (P a) l × Rising P l

-- The lists are equally long, and are so related place by place.
abbrev pub Match : {A B : Type 0} → (A → B → Type 0) → List A → List B → Type 0
Match P [] [] = Unit {0}
Match P [] (b ∷ bs) = ⊥
Match P (a ∷ l) [] = ⊥
Match P (a ∷ l) (b ∷ bs) = P a b × Match P l bs

-- The list with `a` in front, or without it.
abbrev pub add_if : {A : Type 0} → Bool → A → List A → List A
add_if true a l = a ∷ l
add_if false a l = l

-- The last of the list, `a` if it is empty.
abbrev pub last_or : {A : Type 0} → A → List A → A
last_or a [] = a
last_or a (b ∷ l) = last_or b l

abbrev pub is_nil : {A : Type 0} → List A → Bool
is_nil [] = true
is_nil (a ∷ l) = false
