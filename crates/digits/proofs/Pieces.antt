-- A text put into a buffer piece by piece.
use Prim.Native.Nat.{ℕ, ◌+◌, ◌≤◌}
use native.Mathlib.Nat.{add-zero}
use native.Mathlib.Omega.{arith}
use mathlib.Core.Path.{◌≡◌, refl, sym, subst, ap, ◌∙◌}
use mathlib.Core.List.{List, [], ◌∷◌, ◌++◌}
use lib.ListN.{length, length-append}
use lib.Seq.{sets, length-sets}
use Rattle.buffers.proofs.Stores.{sets_then}
use Rattle.digits.specs.Pieces.{joined_behind, joined, put_each, place_after_each}
use Rattle.digits.specs.Put.{put_at, place_after}
use Rattle.digits.proofs.Stores.{fitting}

-- A text stands in the buffer from a place on; d is the buffer now, and a is the place after the text.
abbrev pub Stands : List ℕ → ℕ → List ℕ → ℕ → List ℕ → Type 0
Stands buffer at text a d = (a ≡ at + length text) × (d ≡ sets buffer at text)

-- Two texts in a row.
pub two : (buffer : List ℕ) (at : ℕ) (s t : List ℕ) {d₁ d₂ : List ℕ} {a₁ a₂ : ℕ}
    → Stands buffer at s a₁ d₁ → Stands d₁ a₁ t a₂ d₂ → Stands buffer at (s ++ t) a₂ d₂
two buffer at s t {d₁} {d₂} {a₁} {a₂} (e₁, f₁) (e₂, f₂) =
    let l : a₂ ≡ at + length (s ++ t) = rw (length-append s t) (omega (arith, e₁, e₂)) in
    (l, f₂ ∙ ap (λ (d : List ℕ). sets d a₁ t) f₁ ∙ sets_then buffer at s t a₁ e₁)

-- There is room for the first of two.
pub room-first : (n at : ℕ) (s t : List ℕ) → at + length (s ++ t) ≤ n → at + length s ≤ n
room-first n at s t h = let l : length (s ++ t) ≡ length s + length t = length-append s t in omega (arith, h, l)

-- And then for the second.
pub room-second : (buffer : List ℕ) (at : ℕ) (s t : List ℕ) {d : List ℕ} {a : ℕ} → at + length (s ++ t) ≤ length buffer → Stands buffer at s a d → a + length t ≤ length d
room-second buffer at s t {d} {a} h (e, f) =
    let l : length (s ++ t) ≡ length s + length t = length-append s t in
    rw (f, length-sets buffer at s) (omega (arith, h, l, e))

-- A piece that there is room for stands.
pub put : (buffer : List ℕ) (at : ℕ) (text : List ℕ) {d : List ℕ} {a : ℕ} → at + length text ≤ length buffer
    → a ≡ place_after buffer at text → d ≡ put_at buffer at text → Stands buffer at text a d
put buffer at text h e f = (e ∙ sym (fitting buffer at text h).0, f ∙ sym (fitting buffer at text h).1)

-- A piece behind a text.
pub put-behind : (buffer : List ℕ) (at : ℕ) (s t : List ℕ) {d₁ d₂ : List ℕ} {a₁ a₂ : ℕ} → at + length (s ++ t) ≤ length buffer → Stands buffer at s a₁ d₁
    → a₂ ≡ place_after d₁ a₁ t → d₂ ≡ put_at d₁ a₁ t → Stands buffer at (s ++ t) a₂ d₂
put-behind buffer at s t {d₁} {d₂} {a₁} {a₂} h stands e f = two buffer at s t stands (put d₁ a₁ t (room-second buffer at s t h stands) e f)

-- A text that is bracketed another way.
pub stands-as : (buffer : List ℕ) (at : ℕ) {a : ℕ} {d s t : List ℕ} → s ≡ t → Stands buffer at s a d → Stands buffer at t a d
stands-as buffer at {a} {d} e stands = subst (λ (t : List ℕ). Stands buffer at t a d) e stands

-- There is room for a text where there is room for it and those behind it.
pub room-before : (n at : ℕ) (text : List ℕ) (texts : List (List ℕ)) → at + length (joined_behind text texts) ≤ n → at + length text ≤ n
room-before n at text [] h = h
room-before n at text (next ∷ texts) h = room-first n at text next (room-before n at (text ++ next) texts h)

-- Texts that there is room for, behind one that stands.
each-behind : (buffer : List ℕ) (at : ℕ) (text : List ℕ) (texts : List (List ℕ)) {d : List ℕ} {a : ℕ} → at + length (joined_behind text texts) ≤ length buffer
    → Stands buffer at text a d → Stands buffer at (joined_behind text texts) (place_after_each d a texts) (put_each d a texts)
each-behind buffer at text [] h stands = stands
each-behind buffer at text (next ∷ texts) h stands =
    each-behind buffer at (text ++ next) texts h (put-behind buffer at text next (room-before (length buffer) at (text ++ next) texts h) stands refl refl)

-- Texts that there is room for.
pub each : (buffer : List ℕ) (at : ℕ) (texts : List (List ℕ)) {d : List ℕ} {a : ℕ} → at + length (joined texts) ≤ length buffer
    → a ≡ place_after_each buffer at texts → d ≡ put_each buffer at texts → Stands buffer at (joined texts) a d
each buffer at [] h e f = (rw add-zero e, f)
each buffer at (text ∷ texts) h e f =
    rw (e, f) (each-behind buffer at text texts h (put buffer at text (room-before (length buffer) at text texts h) refl refl))

-- Such texts, bracketed another way.
pub each-as : (buffer : List ℕ) (at : ℕ) (texts : List (List ℕ)) {whole d : List ℕ} {a : ℕ} → joined texts ≡ whole → at + length whole ≤ length buffer
    → a ≡ place_after_each buffer at texts → d ≡ put_each buffer at texts → Stands buffer at whole a d
each-as buffer at texts w h e f = stands-as buffer at w (each buffer at texts (rw w h) e f)

-- Texts behind one that stands.
pub each-then : (buffer : List ℕ) (at : ℕ) (text : List ℕ) (texts : List (List ℕ)) {d₁ d₂ : List ℕ} {a₁ a₂ : ℕ} → at + length (text ++ joined texts) ≤ length buffer
    → Stands buffer at text a₁ d₁ → a₂ ≡ place_after_each d₁ a₁ texts → d₂ ≡ put_each d₁ a₁ texts → Stands buffer at (text ++ joined texts) a₂ d₂
each-then buffer at text texts {d₁} {d₂} {a₁} {a₂} h stands e f =
    two buffer at text (joined texts) stands (each d₁ a₁ texts (room-second buffer at text (joined texts) h stands) e f)
