use Rattle.std.specs.Prelude.{◌≡◌, ◌+◌, refl}
use Rattle.questions.specs.declared.Refusal.{Refusal}
use Rattle.questions.specs.declared.Refusal.TheVariants as refusal
use Rattle.questions.specs.contracts.Refusal.{the_type}
use Rattle.questions.specs.Numbers.{number_of}
use Rattle.questions.proofs.U8FromRefusal.from.Goals as goal

one-more : (r : Refusal) → denote.Enum.Declared.tag_of the_type r + 1 ≡ number_of r
one-more refusal.TooShort = refl
one-more refusal.SourceCount = refl
one-more refusal.TooManyEvents = refl
one-more refusal.WrongLength = refl
one-more refusal.NoRoom = refl
one-more refusal.NoSuchKind = refl
one-more refusal.UnusedPart = refl
one-more refusal.NotSound = refl
one-more refusal.NoSuchWord = refl
one-more refusal.OffsetTooHigh = refl
one-more refusal.OffsetNotAligned = refl
one-more refusal.NoSuchCsr = refl
one-more refusal.ReadOnlyCsr = refl
one-more refusal.CurrentInHandler = refl
one-more refusal.InterruptsOff = refl
one-more refusal.NoMargin = refl
one-more refusal.NoHandler = refl
one-more refusal.OpenedAlready = refl
one-more refusal.InterruptsOn = refl
one-more refusal.NotABit = refl
one-more refusal.NotOpened = refl
one-more refusal.CompactSources = refl
one-more refusal.CompactEvents = refl
one-more refusal.PriordInHandler = refl
one-more refusal.NoSuchCounter = refl
one-more refusal.NotTheNext = refl
one-more refusal.RetiredKind = refl

pub returns : goal.returns
returns c = one-more c.args.refusal
