-- The numbers of a record that was played, and of one that was refused.
use Prim.Native.Nat.{ℕ, ◌≤◌}
use native.Mathlib.Omega.{arith}
use mathlib.Core.Path.{◌≡◌, refl}
use mathlib.Core.List.{List}
use lib.ListN.{length, take}
use Rattle.buffers.specs.Filled.{filled}
use Rattle.handlers.specs.Machines.{power_on_of}
use Rattle.claims.specs.declared.Played.{Played}
use Rattle.claims.specs.Play.{answers_of, refusals_of, events_played, played_of}
use Rattle.claims.proofs.Playing.{played-all}
use Rattle.record.specs.Record.{board}
use Rattle.playback.proofs.Reading.{WasRead, WasRefused}
use Rattle.playback_numbers.specs.Numbers.{Numbers}
use Rattle.playback_numbers.specs.Numbers.{accepted_with, refused_with, numbers_of, answers_left, refusals_left}

-- The result, and what stands in the two arrays.
abbrev pub Left : List ℕ → List ℕ → List ℕ → Numbers → List ℕ → List ℕ → Type 0
Left bytes answers₀ refusals₀ r answers refusals =
    (r ≡ numbers_of bytes (length answers₀) (length refusals₀)) × ((answers ≡ answers_left bytes answers₀ refusals₀) × (refusals ≡ refusals_left bytes answers₀ refusals₀))

pub left-refused : (bytes answers refusals : List ℕ) {number at : ℕ} {r : Numbers} → WasRefused board bytes (length answers) (length refusals) number at
    → r ≡ refused_with number at → Left bytes answers refusals r answers refusals
unfolding numbers_of
left-refused bytes answers refusals f e = rw (e, f.no, f.refusal, f.place) (refl, (refl, refl))

pub left-played : (bytes answers₀ refusals₀ heads values : List ℕ) {n s : ℕ} {p : Played} {answers refusals : List ℕ} {r : Numbers}
    → WasRead board bytes (length answers₀) (length refusals₀) heads values n s
    → p ≡ played_of s (events_played (length (take n heads)) (length (take n values)) (length answers₀) (length refusals₀)) (take n heads) (take n values)
    → answers ≡ filled (answers_of (power_on_of s).machine (take p.events (take n heads)) (take p.events (take n values))) answers₀
    → refusals ≡ filled (refusals_of (power_on_of s).machine (take p.events (take n heads)) (take p.events (take n values))) refusals₀
    → r ≡ accepted_with s n p.machine → Left bytes answers₀ refusals₀ r answers refusals
unfolding numbers_of
left-played bytes answers₀ refusals₀ heads values {n} {s} {p} {answers} {refusals} f ep ea er e =
    let same : length (take n values) ≡ length (take n heads) = rw (f.has-heads, f.has-values) f.same in
    let in-answers : length (take n heads) ≤ length answers₀ = rw f.has-heads (omega (arith, f.count, f.in-a)) in
    let in-refusals : length (take n heads) ≤ length refusals₀ = rw f.has-heads (omega (arith, f.count, f.in_b)) in
    let all = played-all s (take n heads) (take n values) answers₀ refusals₀ same in-answers in-refusals ep ea er in
    rw (e, all.machine, all.has-answers, all.has-refusals, f.has-heads, f.has-values, f.yes, f.sources, ← f.count) (refl, (refl, refl))
