-- No question has the number 0, so 0 can say that every question was answered yes.
use Rattle.std.specs.Prelude.{◌≡◌, refl, false, eqb}
use Rattle.questions.specs.declared.Refusal.{Refusal}
use Rattle.questions.specs.declared.Refusal.TheVariants as refusal
use Rattle.questions.specs.Numbers.{number_of}

pub never_0 : (r : Refusal) → eqb (number_of r) 0 ≡ false
never_0 refusal.TooShort = refl
never_0 refusal.SourceCount = refl
never_0 refusal.TooManyEvents = refl
never_0 refusal.WrongLength = refl
never_0 refusal.NoRoom = refl
never_0 refusal.NoSuchKind = refl
never_0 refusal.UnusedPart = refl
never_0 refusal.NotSound = refl
never_0 refusal.NoSuchWord = refl
never_0 refusal.OffsetTooHigh = refl
never_0 refusal.OffsetNotAligned = refl
never_0 refusal.NoSuchCsr = refl
never_0 refusal.ReadOnlyCsr = refl
never_0 refusal.CurrentInHandler = refl
never_0 refusal.InterruptsOff = refl
never_0 refusal.NoMargin = refl
never_0 refusal.NoHandler = refl
never_0 refusal.OpenedAlready = refl
never_0 refusal.InterruptsOn = refl
never_0 refusal.NotABit = refl
never_0 refusal.NotOpened = refl
never_0 refusal.CompactSources = refl
never_0 refusal.CompactEvents = refl
never_0 refusal.PriordInHandler = refl
never_0 refusal.NoSuchCounter = refl
never_0 refusal.NotTheNext = refl
never_0 refusal.RetiredKind = refl
