-- Documents 01 and 02, "Questions, first no decides": the number of the question that a refusal answers no.
use Rattle.std.specs.Prelude.{ℕ, Result, Ok, Err}
use Rattle.questions.specs.declared.Refusal.{Refusal}
use Rattle.questions.specs.declared.Refusal.TheVariants as refusal

abbrev pub number_of : Refusal → ℕ
number_of refusal.TooShort = 1
number_of refusal.SourceCount = 2
number_of refusal.TooManyEvents = 3
number_of refusal.WrongLength = 4
number_of refusal.NoRoom = 5
number_of refusal.NoSuchKind = 6
number_of refusal.UnusedPart = 7
number_of refusal.NotSound = 8
number_of refusal.NoSuchWord = 9
number_of refusal.OffsetTooHigh = 10
number_of refusal.OffsetNotAligned = 11
number_of refusal.NoSuchCsr = 12
number_of refusal.ReadOnlyCsr = 13
number_of refusal.CurrentInHandler = 14
number_of refusal.InterruptsOff = 15
number_of refusal.NoMargin = 16
number_of refusal.NoHandler = 17
number_of refusal.OpenedAlready = 18
number_of refusal.InterruptsOn = 19
number_of refusal.NotABit = 20
number_of refusal.NotOpened = 21
number_of refusal.CompactSources = 22
number_of refusal.CompactEvents = 23
number_of refusal.PriordInHandler = 24
number_of refusal.NoSuchCounter = 25
number_of refusal.NotTheNext = 26
number_of refusal.RetiredKind = 27

-- 0 where every question was answered yes.
unfoldable pub number_in : Result Unit Refusal → ℕ
number_in (Ok _) = 0
number_in (Err r) = number_of r
