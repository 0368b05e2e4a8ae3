use Prim.Native.Nat.{◌≤◌}
use mathlib.Core.Path.{◌≡◌, sym, ◌∙◌}
use mathlib.Core.Bool.{true, false}
use mathlib.Core.List.{[], ◌∷◌, ◌++◌, append_assoc}
use lib.ListN.{length}
use Rattle.digits.specs.Ascii.{ascii}
use Rattle.digits.specs.Digits.{decimal}
use Rattle.digits.specs.Pieces.{joined}
use Rattle.digits.proofs.Pieces.{put, each-as}
use Rattle.text_messages.specs.Messages.{saying, why_words, is_of_line, at_line, too_long, message_size}
use Rattle.text_messages.proofs.Messages.{bad-line-fits, too-long-fits, made}
use borrow.Author.Rules.{rules}
use Rattle.text_messages.proofs.bad_text.Goals as goal

pub returns-then-is_of_line : goal.returns-then-is_of_line
unfolding ascii
returns-then-is_of_line c =
    let room : message_size ≤ length c.args.out.now = search rules in
    let bad : is_of_line c.args.why ≡ true = sym c.is_of_line.ensures ∙ c.if-is_of_line.true in
    let fits = bad-line-fits c.args.why c.args.line (length c.args.out.now) room in
    let texts = ascii "refused at line " ∷ decimal c.args.line ∷ ascii ": " ∷ why_words c.args.why ∷ ascii "\n" ∷ [] in
    let whole : joined texts ≡ at_line c.args.line ++ saying (why_words c.args.why) = simp append_assoc in
    let r = made c.args.out.now (at_line c.args.line ++ saying (why_words c.args.why)) fits (each-as c.args.out.now 0 texts whole fits
    (rw (← c.why_words.ensures) c.put_pieces.ensures.value) (rw (← c.why_words.ensures) c.put_pieces.ensures.buffer_after)) in
    record { value = rw bad r.0; out_after = rw bad r.1.0; has_first = r.1.1 }

pub returns-else-is_of_line : goal.returns-else-is_of_line
unfolding ascii
returns-else-is_of_line c =
    let room : message_size ≤ length c.args.out.now = search rules in
    let fits = too-long-fits (length c.args.out.now) room in
    let long : is_of_line c.args.why ≡ false = sym c.is_of_line.ensures ∙ c.if-is_of_line.false in
    let r = (made c.args.out.now too_long fits (put c.args.out.now 0 too_long fits c.put_text.ensures.value c.put_text.ensures.buffer_after)) in record { value = rw long r.0; out_after = rw long r.1.0; has_first = r.1.1 }
