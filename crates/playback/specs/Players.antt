-- Document 02, No. 3: the print of a player whose reader has limits beside the big player's. What is proved of it.
use Rattle.std.specs.Prelude.{ℕ, true, cond, ◌≡◌, List}
use Rattle.record.specs.declared.Limits.{Limits}
use Rattle.record.specs.Questions.{verdict_within, board_verdict}
use Rattle.record.specs.Answers.{all_yes}
use Rattle.record.specs.Readers.{meets22, meets23}
use Rattle.playback.specs.Print.{refused_line, print_within, print_of}

pub record PrintsAlike (limits : Limits) (bytes : List ℕ) : Type 0 where
  -- "A record that both accept prints the same lines on both,
  pub same : all_yes (verdict_within limits bytes) ≡ true → all_yes (board_verdict bytes) ≡ true → print_within limits bytes ≡ print_of bytes
  -- and the van's reader refuses by 01's questions otherwise": 22 or 23 where it meets N or n above its most, and else the big player's print.
  pub otherwise : print_within limits bytes ≡ cond (meets22 limits bytes) (refused_line 22 0) (cond (meets23 limits bytes) (refused_line 23 0) (print_of bytes))
