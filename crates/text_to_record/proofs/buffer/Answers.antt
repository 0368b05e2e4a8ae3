use Prim.Native.Nat.{ℕ, ◌+◌}
use mathlib.Core.Path.{sym}
use lib.ListN.{length-replicate}
use Rattle.text_reader.specs.Reading.{text_size}
use Rattle.text_to_record.proofs.buffer.Goals as goal

pub returns : goal.returns
returns c = sym (length-replicate {A = ℕ} (text_size + 1) 0)
