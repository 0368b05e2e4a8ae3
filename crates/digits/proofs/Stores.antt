-- Stores of lists into a buffer.
use Prim.Native.Nat.{ℕ, suc, ◌+◌, ◌≤◌, ◌<◌}
use mathlib.Core.Path.{◌≡◌, refl, sym, ap, ◌∙◌}
use mathlib.Core.List.{List, [], ◌∷◌, ◌++◌}
use mathlib.Core.Bool.{Bool, true, false}
use native.Mathlib.Numerals.{add-one}
use native.Mathlib.Omega.{arith}
use lib.ListN.{length, get_or, set, take}
use lib.Seq.{sets, set_comm, take-suc, take_all, length-take-le}
use Rattle.buffers.proofs.Stores.{sets_then}
use lib.Dec.{leb}
use borrow.Author.Tests.{leb-true, leb-false, le-leb, lt-leb}
use Rattle.digits.specs.Put.{put_at, place_after}

-- A turn of a loop that stores a text from a place on.
pub copy-turn : (d₀ text : List ℕ) (at i : ℕ) {d : List ℕ} → i < length text → d ≡ sets d₀ at (take i text)
    → set d (at + i) (get_or text i 0) ≡ sets d₀ at (take (i + 1) text)
copy-turn d₀ text at i h e =
    let m : at + i ≡ at + length (take i text) = simp (length-take-le i text (omega arith)) refl in
    rw (e, add-one, take-suc text i 0 h) (sets_then d₀ at (take i text) (get_or text i 0 ∷ []) (at + i) m)

pub copy-end : (d₀ text : List ℕ) (at i : ℕ) {d : List ℕ} → length text ≤ i → d ≡ sets d₀ at (take i text) → d ≡ sets d₀ at text
copy-end d₀ text at i h e = rw (e, take_all i text h)

-- A store behind a list is as well made before it.
set-behind : (d : List ℕ) (at : ℕ) (xs : List ℕ) (m x : ℕ) → at + length xs ≤ m → set (sets d at xs) m x ≡ sets (set d m x) at xs
set-behind d at [] m x h = refl
set-behind d at (y ∷ xs) m x h =
    let h' : suc at + length xs ≤ m = omega arith in
    set-behind (set d at y) (suc at) xs m x h' ∙ ap (λ (b : List ℕ). sets b (suc at) xs) (set_comm d at m y x (λ e. absurd (omega (arith, e))))

-- A list is stored with its last element first.
pub last-first : (d : List ℕ) (at : ℕ) (xs : List ℕ) (m x : ℕ) → m ≡ at + length xs → sets (set d m x) at xs ≡ sets d at (xs ++ x ∷ [])
last-first d at xs m x e = sym (set-behind d at xs m x (omega (arith, e))) ∙ sets_then d at xs (x ∷ []) m e

-- The answer and the buffer where the text fits, and where it does not.
pub fitting : (buffer : List ℕ) (at : ℕ) (text : List ℕ) → at + length text ≤ length buffer
    → (at + length text ≡ place_after buffer at text) × (sets buffer at text ≡ put_at buffer at text)
fitting buffer at text h = rw (le-leb (at + length text) (length buffer) h) (refl, refl)

pub not-fitting : (buffer : List ℕ) (at : ℕ) (text : List ℕ) → length buffer < at + length text
    → (at ≡ place_after buffer at text) × (buffer ≡ put_at buffer at text)
not-fitting buffer at text h = rw (lt-leb (at + length text) (length buffer) h) (refl, refl)

-- The same by the answer whether there is room.
pub room : (at count space : ℕ) {r : Bool} → r ≡ leb (at + count) space → r ≡ true → at + count ≤ space
room at count space e t = leb-true (at + count) space (sym e ∙ t)

pub no_room : (at count space : ℕ) {r : Bool} → r ≡ leb (at + count) space → r ≡ false → space < at + count
no_room at count space e t = leb-false (at + count) space (sym e ∙ t)
