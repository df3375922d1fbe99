-- The numbers of the questions (01, The gatekeeper's questions; 02, Jobs 1, 3, 5 and 6).
use Rattle.std.specs.Prelude.{ℕ, Result, Ok, Err}
use Rattle.refusals.specs.declared.Refusal.{Refusal}
use Rattle.refusals.specs.declared.Refusal.TheVariants.{Size, FileLength, RecordForm, CellCopies, ValueRange, Settings, OutputRoom, Cut, CountSums, PaidSums, Shares, SolvedDelays, Incurred, RowBases, PageRoom, JournalForm, ClaimOrder, Booking, Dates, GivenDelays}

-- the number of the question that got the first no
abbrev pub number : Refusal → ℕ
number Size = 1
number FileLength = 2
number RecordForm = 3
number CellCopies = 4
number ValueRange = 5
number Settings = 6
number OutputRoom = 7
number Cut = 8
number CountSums = 9
number PaidSums = 10
number Shares = 11
number SolvedDelays = 12
number Incurred = 13
number RowBases = 14
number PageRoom = 15
number JournalForm = 16
number ClaimOrder = 17
number Booking = 18
number Dates = 19
number GivenDelays = 20

-- the refusal number of a call: 0 where it is accepted
abbrev pub refusal_number : {A : Type 0} → Result A Refusal → ℕ
refusal_number (Ok _) = 0
refusal_number (Err e) = number e
