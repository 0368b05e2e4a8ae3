use mathlib.Core.List.{[], ◌∷◌, ◌++◌}
use Prim.Native.Nat.{◌+◌, ◌≤◌}
use native.Mathlib.Omega.{arith}
use lib.ListN.{length}
use Rattle.digits.specs.Ascii.{ascii}
use Rattle.digits.specs.Digits.{decimal}
use Rattle.digits.specs.Pieces.{texts_of, joined}
use Rattle.digits.proofs.Pieces.{each, each-then, room-first}
use Rattle.refusals.specs.Words.{words_of}
use Rattle.text_messages.specs.Messages.{saying, refused_at, refused_with}
use Rattle.text_messages.proofs.Messages.{made}
use Rattle.text_messages.proofs.put_refusal.Goals as goal

pub returns : goal.returns
unfolding ascii
returns c =
    let out = c.args.out.now in
    let at_place = refused_at c.args.refusal c.args.place in
    let line = joined (texts_of c.args.line.now) in
    let h : 0 + length (refused_with c.args.refusal c.args.place line) ≤ length out = omega (arith, c.requires) in
    let first = room-first (length out) 0 (at_place ++ line) (saying (words_of c.args.refusal)) h in
    let r = made out (refused_with c.args.refusal c.args.place line) h
    (each-then out 0 (at_place ++ line) (ascii ": " ∷ words_of c.args.refusal ∷ ascii "\n" ∷ []) h
    (each-then out 0 at_place (texts_of c.args.line.now) first
    (each out 0 (ascii "refused " ∷ decimal c.args.refusal ∷ ascii " at " ∷ decimal c.args.place ∷ []) (room-first (length out) 0 at_place line first)
    c.put_pieces-a.ensures.value c.put_pieces-a.ensures.buffer_after)
    c.put_pieces-b.ensures.value c.put_pieces-b.ensures.buffer_after)
    (rw (← c.words_of.ensures) c.put_pieces.ensures.value) (rw (← c.words_of.ensures) c.put_pieces.ensures.buffer_after)) in record { value = r.0; out_after = r.1.0; has_first = r.1.1 }
