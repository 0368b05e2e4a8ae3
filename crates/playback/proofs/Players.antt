-- The print of a player whose reader has limits beside the big player's.
use Prim.Native.Nat.{ℕ, ◌≤◌}
use native.Mathlib.Omega.{arith}
use mathlib.Core.Bool.{Bool, true, false, cond}
use mathlib.Core.Path.{◌≡◌, refl, sym, ap, ◌∙◌}
use mathlib.Core.List.{List}
use Rattle.record.specs.declared.Limits.{Limits}
use Rattle.record.specs.Verdict.{Verdict}
use Rattle.record.specs.Record.{board, compact, most_events}
use Rattle.record.specs.Questions.{verdict, board_verdict}
use Rattle.record.specs.Readers.{meets22, meets23}
use Rattle.record.proofs.Readers.{within-beside}
use Rattle.playback.specs.Print.{refused_line, print_by, print_within}
use Rattle.playback.specs.Players.{PrintsAlike}
use Rattle.playback.proofs.Reading.{print-done}

-- The print by the verdict that two questions decide.
by-answers : (big : Verdict) (bytes : List ℕ) (a b : Bool)
    → print_by (cond a (verdict 22 0) (cond b (verdict 23 0) big)) bytes ≡ cond a (refused_line 22 0) (cond b (refused_line 23 0) (print_by big bytes))
by-answers big bytes true b = refl
by-answers big bytes false true = refl
by-answers big bytes false false = refl

pub prints-alike : (limits : Limits) → limits.events ≤ most_events → (bytes : List ℕ) → PrintsAlike limits bytes
unfolding print_within
prints-alike limits most bytes =
    record {
      same = λ own big. print-done limits bytes own ∙ sym (print-done board bytes big);
      otherwise =
          ap (λ (v : Verdict). print_by v bytes) (within-beside limits most bytes).decides
          ∙ by-answers (board_verdict bytes) bytes (meets22 limits bytes) (meets23 limits bytes);
    }

-- The compact player.
pub compact-prints : (bytes : List ℕ) → PrintsAlike compact bytes
compact-prints = prints-alike compact (omega arith)
