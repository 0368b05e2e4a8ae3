use Rattle.digits.proofs.Digits.{one-decimal}
use Rattle.digits.proofs.put_decimal.Goals as goal

pub returns-then-n-lt10 : goal.returns-then-n-lt10
returns-then-n-lt10 c =
    record {
      value = rw (one-decimal c.args.n c.if-n-lt10.true) c.put_byte.ensures.value;
      buffer_after = rw (one-decimal c.args.n c.if-n-lt10.true, ← c.glyph.ensures) c.put_byte.ensures.buffer_after;
    }
