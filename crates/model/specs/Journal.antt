-- 02, Job 3: the claims journal; each definition here is of that request. A journal is the list of
-- its bytes; m is the caller's.
use Rattle.std.specs.Prelude.{ℕ, zero, suc, ◌+◌, ◌-◌, ◌*◌, ◌^◌, Bool, ◌&&◌, cond, List, [], ◌∷◌, length, get_or, set, replicate, leb, eqb, ℤ, pos, ◌+ℤ◌}
use Rattle.integers.specs.Sums.{sum}
use Rattle.model.specs.Lists.{at, chained, count}
use Rattle.model.specs.Records.{least_first, value_at, records, in_range}
use Rattle.model.specs.Questions.{Question, within}
use Rattle.model.specs.declared.JournalTally.{JournalTally}
use Rattle.model.specs.declared.Transaction.{Transaction}

-- ---- a transaction

-- transaction k, k from 0, of 16 bytes: the claim's number in the first four, a byte each for the
-- kind, the accident year and the calendar year, one that is not used, and the amount
unfoldable pub transaction_at : List ℕ → ℕ → Transaction
transaction_at f k =
    record {
      claim = least_first 4 f (16 * k);
      kind = get_or f (16 * k + 4) 0;
      accident = get_or f (16 * k + 5) 0;
      calendar = get_or f (16 * k + 6) 0;
      spare = get_or f (16 * k + 7) 0;
      amount = value_at f k;
    }

-- it reports a claim; else it pays an amount
abbrev pub is_report : Transaction → Bool
is_report x = eqb x.kind 0

-- the place of its cell in a triangle: the delay is how many years the calendar year is after the
-- accident year
abbrev pub booked_at : Transaction → ℕ
booked_at x = 20 * (x.accident - 1) + (x.calendar - x.accident)

-- ---- its questions, t being the tally before it

-- 16: each field is in its range, and a report has no amount
unfoldable pub q16 : ℕ → Transaction → Bool
q16 m x =
    leb x.claim 4095 && leb x.kind 1 && leb 1 x.accident && leb x.accident m && leb x.accident x.calendar
    && leb x.calendar m && eqb x.spare 0 && within (pos 0) (pos (cond (is_report x) 0 (10 ^ 10))) x.amount

-- 17: so far the claim has no accident year where it is reported, and this one where it is paid
unfoldable pub q17 : JournalTally → Transaction → Bool
q17 t x = eqb (get_or t.claims x.claim 0) (cond (is_report x) 0 x.accident)

-- the triangle that it goes to, and its cell afterwards: one report more, or the amount
abbrev pub booked_to : JournalTally → Transaction → List ℤ
booked_to t x = cond (is_report x) t.counts t.paid

abbrev pub cell_after : JournalTally → Transaction → ℤ
cell_after t x = at (booked_to t x) (booked_at x) +ℤ cond (is_report x) (pos 1) x.amount

-- 18: its calendar year is not below the last, and its cell stays in the range of question 5
unfoldable pub q18 : JournalTally → Transaction → Bool
q18 t x = leb t.last x.calendar && in_range x.kind (cell_after t x)

-- 17 and 18
unfoldable pub of_booking : JournalTally → Transaction → List Question
of_booking t x = (17, q17 t x) ∷ (18, q18 t x) ∷ []

-- 16 to 18
unfoldable pub of_transaction : ℕ → JournalTally → Transaction → List Question
of_transaction m t x = (16, q16 m x) ∷ of_booking t x

-- ---- the tally

-- brought up to date by a transaction
unfoldable pub booked : JournalTally → Transaction → JournalTally
booked t x =
    record {
      claims = cond (is_report x) (set t.claims x.claim x.accident) t.claims;
      counts = cond (is_report x) (set t.counts (booked_at x) (cell_after t x)) t.counts;
      paid = cond (is_report x) t.paid (set t.paid (booked_at x) (cell_after t x));
      last = x.calendar;
    }

-- with nothing in it
unfoldable pub no_tally : JournalTally
no_tally = record { claims = replicate 4096 0; counts = replicate 400 (pos 0); paid = replicate 400 (pos 0); last = 0 }

-- after the first k transactions: each journal starts from zeros
unfoldable pub tally_after : List ℕ → ℕ → JournalTally
tally_after f zero = no_tally
tally_after f (suc k) = booked (tally_after f k) (transaction_at f k)

-- ---- the questions of a journal

-- 16, of its length: 0 to 4096 transactions and nothing else
unfoldable pub q16_length : List ℕ → Bool
q16_length f = eqb (length f) (16 * records f) && leb (records f) 4096

-- 16 to 18 of its first n transactions, one after the other
unfoldable pub of_transactions : ℕ → List ℕ → ℕ → List Question
of_transactions m f n = chained n (λ k. of_transaction m (tally_after f k) (transaction_at f k))

-- ---- what an accepted journal comes to, cell by cell over all of it

-- transaction k is of kind t and cell (i,j)
unfoldable pub is_entry : List ℕ → ℕ → ℕ → ℕ → ℕ → Bool
is_entry f t i j k = let x = transaction_at f k in eqb x.kind t && eqb x.accident i && eqb x.calendar (i + j)

-- the reports of cell (i,j), counted
unfoldable pub reports : List ℕ → ℕ → ℕ → ℤ
reports f i j = pos (count (records f) (is_entry f 0 i j))

-- the payments of cell (i,j), added
unfoldable pub payments : List ℕ → ℕ → ℕ → ℤ
payments f i j = sum (records f) (λ k. cond (is_entry f 1 i j k) (transaction_at f k).amount (pos 0))
