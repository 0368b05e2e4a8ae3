-- A text for which so much room is asked.
use Prim.Native.Nat.{ℕ, ◌≤◌}
use mathlib.Core.Path.{◌≡◌}
use mathlib.Core.List.{List}
use lib.ListN.{length}
use borrow.Author.Tests.{le-leb}
use Rattle.buffers.specs.Filled.{filled}
use Rattle.playback.specs.Print.{length_put, put_into}

module _ (room : ℕ) (text out : List ℕ) {d : List ℕ} {r : ℕ} (h : room ≤ length out) where
  pub with-room : (r ≡ length text) × (d ≡ filled text out) → (r ≡ length_put room text (length out)) × (d ≡ put_into room text out)
  with-room p = rw (le-leb room (length out) h) p

  pub had-room : (r ≡ length_put room text (length out)) × (d ≡ put_into room text out) → (r ≡ length text) × (d ≡ filled text out)
  had-room p = rw (le-leb room (length out) h) at p

-- The same text, and the same room, by other names.
pub filled-as : (out : List ℕ) {s t d : List ℕ} {r : ℕ} → s ≡ t → (r ≡ length s) × (d ≡ filled s out) → (r ≡ length t) × (d ≡ filled t out)
filled-as out e p = rw (← e) p

pub put_as : (out : List ℕ) {room room' r : ℕ} {s t d : List ℕ} → room ≡ room' → s ≡ t
    → (r ≡ length_put room s (length out)) × (d ≡ put_into room s out) → (r ≡ length_put room' t (length out)) × (d ≡ put_into room' t out)
put_as out e f p = rw (← e, ← f) p
