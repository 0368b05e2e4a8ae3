use borrow.Author.Rules.{rules}
use mathlib.Core.Path.{◌≡◌, ◌∙◌}
use lib.ListN.{take}
use lib.Seq.{take_all}
use Rattle.record.specs.Words.{bytes_of_words}
use Rattle.record_writer.proofs.Stores.{bytes-turn}
use Rattle.record_writer.proofs.put_words.Goals as goal

pub loop-i-init : goal.loop-i-init
unfolding bytes_of_words
loop-i-init c = search rules

pub loop-i-preserved : goal.loop-i-preserved
loop-i-preserved c = c.put_word.ensures ∙ bytes-turn _ _ _ _ c.loop-i-test.true c.loop-i.invariant

pub returns : goal.returns
returns c =
    let words = c.args.words.now in
    let whole : take c.loop-i.i words ≡ words = take_all _ _ c.loop-i-test.false in
    rw whole at c.loop-i.invariant
