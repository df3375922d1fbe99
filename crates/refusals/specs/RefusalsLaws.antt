-- Laws of Refusals: no number is 0; what `?` and `ok_or` hand on. Assumes nothing.
use Rattle.std.specs.Prelude.{Result, Ok, Err, Option, Some, None}
use Rattle.std.specs.Option.{ok_or}
use Rattle.std.specs.Result.{IsErrAnd}
use Rattle.std.proofs.Common.{◌≡◌, refl, arith}
use Rattle.std.proofs.lemmas.Result.{err_from_is_err_and}
use Rattle.refusals.specs.Refusals.{number, refusal_number}
use Rattle.refusals.specs.declared.Refusal.{Refusal}
use Rattle.refusals.specs.declared.Refusal.TheVariants.{Size, FileLength, RecordForm, CellCopies, ValueRange, Settings, OutputRoom, Cut, CountSums, PaidSums, Shares, SolvedDelays, Incurred, RowBases, PageRoom, JournalForm, ClaimOrder, Booking, Dates, GivenDelays}

-- no question has the number 0
pub not_accepted : (e : Refusal) → number e ≡ 0 → ⊥
not_accepted Size h = absurd (omega arith)
not_accepted FileLength h = absurd (omega arith)
not_accepted RecordForm h = absurd (omega arith)
not_accepted CellCopies h = absurd (omega arith)
not_accepted ValueRange h = absurd (omega arith)
not_accepted Settings h = absurd (omega arith)
not_accepted OutputRoom h = absurd (omega arith)
not_accepted Cut h = absurd (omega arith)
not_accepted CountSums h = absurd (omega arith)
not_accepted PaidSums h = absurd (omega arith)
not_accepted Shares h = absurd (omega arith)
not_accepted SolvedDelays h = absurd (omega arith)
not_accepted Incurred h = absurd (omega arith)
not_accepted RowBases h = absurd (omega arith)
not_accepted PageRoom h = absurd (omega arith)
not_accepted JournalForm h = absurd (omega arith)
not_accepted ClaimOrder h = absurd (omega arith)
not_accepted Booking h = absurd (omega arith)
not_accepted Dates h = absurd (omega arith)
not_accepted GivenDelays h = absurd (omega arith)

-- what `?` hands on has the number of what it was given
pub handed_on : {A : Type 0} (r : Result A Refusal) (e : Refusal) → IsErrAnd r (λ x. x ≡ e) → refusal_number r ≡ number e
handed_on r e h = let p = err_from_is_err_and r h in rw (p.1, p.2)

-- a missing value where `ok_or` gave a refusal, and a value where it gave none
pub none_of : {A : Type 0} (o : Option A) (x e : Refusal) → ◌≡◌ {A = Result A Refusal} (Err x) (ok_or o e) → (o ≡ None) × (x ≡ e)
none_of None x e h = (refl, cc)
none_of (Some a) x e h = absurd cc

pub some_of : {A : Type 0} (o : Option A) (a : A) (e : Refusal) → ◌≡◌ {A = Result A Refusal} (Ok a) (ok_or o e) → o ≡ Some a
some_of None a e h = absurd cc
some_of (Some b) a e h = let g : a ≡ b = cc in rw g
