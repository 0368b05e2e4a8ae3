use mathlib.Core.Path.{◌≡◌}
use lib.ListN.{drop}
use Rattle.digits.specs.Pieces.{texts_of, put_each, place_after_each}
use Rattle.digits.proofs.row.put_pieces.Given as goal

abbrev pub invariant-loop-piece : goal.invariant-loop-piece
invariant-loop-piece l = record {
  value : place_after_each l.buffer l.next (texts_of (drop l.piece-index l.pieces)) ≡ place_after_each l.initial.buffer l.at (texts_of l.pieces);
  buffer_after : put_each l.buffer l.next (texts_of (drop l.piece-index l.pieces)) ≡ put_each l.initial.buffer l.at (texts_of l.pieces);
}
