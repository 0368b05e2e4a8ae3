-- The pieces of the lines.
use Prim.Native.Nat.{ℕ}
use mathlib.Core.Bool.{Bool}
use mathlib.Core.Path.{◌≡◌, ap}
use mathlib.Core.List.{List, [], ◌∷◌, ◌++◌, append_assoc}
use Rattle.digits.specs.Ascii.{ascii}
use Rattle.digits.specs.Digits.{decimal}
use Rattle.digits.specs.Pieces.{joined}
use Rattle.playback.specs.Text.{minus}
use Rattle.playback.specs.Print.{last_line}

-- Of a line of two numbers, each behind a text,
abbrev pub two_texts : List ℕ → ℕ → List ℕ → ℕ → List (List ℕ)
two_texts s m t n = s ∷ decimal m ∷ t ∷ decimal n ∷ ascii "\n" ∷ []

-- of the line of an event,
abbrev pub event_texts : ℕ → ℕ → ℕ → ℕ → List (List ℕ)
event_texts index kind answer refusal = decimal index ∷ ascii " " ∷ decimal kind ∷ ascii " " ∷ decimal answer ∷ ascii " " ∷ decimal refusal ∷ ascii "\n" ∷ []

-- and of the last line.
abbrev pub last_texts : ℕ → ℕ → Bool → ℕ → List (List ℕ)
last_texts depth level below size =
    ascii "end open " ∷ decimal depth ∷ ascii " level " ∷ decimal level ∷ ascii " margin " ∷ minus below ∷ decimal size ∷ ascii "\n" ∷ []

pub last-joined : (depth level : ℕ) (below : Bool) (size : ℕ) → joined (last_texts depth level below size) ≡ last_line depth level below size
last-joined depth level below size =
    ap (λ (l : List ℕ). l ++ ascii "\n")
    (append_assoc (ascii "end open " ++ decimal depth ++ ascii " level " ++ decimal level ++ ascii " margin ") (minus below) (decimal size))
