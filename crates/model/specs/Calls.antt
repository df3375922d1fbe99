-- The whole answer of each public call, refusals included: what it hands back, and what the lent
-- memory holds afterwards. A call that takes one set's file, but for the closing page and
-- `closing`, hands back the set's line of cover too (02, Job 7).
use Rattle.std.specs.Prelude.{ℕ, ◌-◌, ◌*◌, ◌≤◌, ◌≡◌, Bool, false, cond, List, [], ◌∷◌, ◌++◌, Option, Some, None, eqb, leb, ℤ, pos, length, take, drop, replicate}
use Rattle.model.specs.Records.{triangle, records, set_of, given_set, set_length, has_incurred, is_line}
use Rattle.model.specs.SetFile.{file_of}
use Rattle.model.specs.Journal.{of_transaction, booked, tally_after, q16_length, of_transactions, reports, payments}
use Rattle.model.specs.Shares.{g_list, b_list, ultimates}
use Rattle.model.specs.Delays.{delays_of}
use Rattle.model.specs.RowBases.{leftovers}
use Rattle.model.specs.Cells.{output_from}
use Rattle.model.specs.PaidReserve.{NearReserves}
use Rattle.model.specs.Calendar.{tally_of, tally_text, refusal_text, first_line, refusal_of}
use Rattle.model.specs.Page.{page_text}
use Rattle.model.specs.ClaimCosts.{claim_costs, no_claim_costs}
use Rattle.model.specs.Cash.{cash_in}
use Rattle.model.specs.BackTest.{cut_to, gap, cell_number, cellwise, yearwise, overall}
use Rattle.model.specs.Questions.{Question, first_no, of_file, of_shares, of_delays, of_given_delays, of_forecast, of_forecast_with, q1, q5_writer, q6, q7, q7_writer, q8, q15, q19}
use Rattle.model.specs.declared.TriangleSet.{TriangleSet}
use Rattle.model.specs.declared.ReadAnswer.{ReadAnswer}
use Rattle.model.specs.declared.SharesAnswer.{SharesAnswer}
use Rattle.model.specs.declared.DelaysAnswer.{DelaysAnswer}
use Rattle.model.specs.declared.CheckDelaysAnswer.{CheckDelaysAnswer}
use Rattle.model.specs.declared.ForecastAnswer.{ForecastAnswer}
use Rattle.model.specs.declared.ClaimCosts.{ClaimCosts}
use Rattle.model.specs.declared.ClaimCostsAnswer.{ClaimCostsAnswer}
use Rattle.model.specs.declared.BackTestAnswer.{BackTestAnswer}
use Rattle.model.specs.declared.JournalTally.{JournalTally}
use Rattle.year_tally.specs.declared.Tally.{Tally}
use Rattle.model.specs.declared.Date.{Date}
use Rattle.model.specs.declared.CashAnswer.{CashAnswer}
use Rattle.model.specs.declared.Transaction.{Transaction}
use Rattle.model.specs.declared.Asked.{Asked}

-- what a call with the refusal number n hands back: that of an accepted call where n is 0, else
-- that of a refused one
abbrev pub if_accepted : {A : Type 0} → ℕ → A → A → A
if_accepted n accepted refused = cond (eqb n 0) accepted refused

-- 01, Cell forecasts: what stands beside a refusal is zero
abbrev pub zeros : ℕ → List ℤ
zeros n = replicate n (pos 0)

-- the refusal of a call on a file: questions 1 to 5, then the call's own, then those of the set
unfoldable pub call_refusal : ℕ → List ℕ → List Question → List Question → ℕ
call_refusal m f own of_set = first_no (of_file m f ++ (own ++ of_set))

-- ---- the reader: questions 1 to 5

unfoldable pub read_refusal : ℕ → List ℕ → ℕ
read_refusal m f = first_no (of_file m f)

abbrev pub no_set : TriangleSet
no_set = record { line = 0; has_incurred = false; counts = zeros 400; paid = zeros 400; incurred = zeros 400 }

abbrev pub accepted_read : TriangleSet → ReadAnswer
accepted_read s = record { refusal = 0; set = s }

abbrev pub refused_read : ℕ → ReadAnswer
refused_read n = record { refusal = n; set = no_set }

unfoldable pub read_answer : ℕ → List ℕ → ReadAnswer
read_answer m f = let n = read_refusal m f in if_accepted n (accepted_read (set_of m f)) (refused_read n)

-- ---- the writer (its order: 02, Job 2): questions 1, 3 of the line alone (02, Job 7), 5 and 7

unfoldable pub write_refusal : ℕ → ℕ → Bool → List ℤ → List ℤ → List ℤ → ℕ → ℕ
write_refusal m line has_incurred c d e room =
    first_no ((1, q1 m) ∷ (3, is_line line) ∷ (5, q5_writer m has_incurred c d e) ∷ (7, q7_writer m has_incurred room) ∷ [])

-- the output afterwards: the set's file, and behind it what stood there; a refusal leaves it as it
-- was
unfoldable pub write_output : ℕ → ℕ → Bool → List ℤ → List ℤ → List ℤ → List ℕ → List ℕ
write_output m line has_incurred c d e before =
    if_accepted (write_refusal m line has_incurred c d e (length before)) (file_of m (given_set m line has_incurred c d e) ++ drop (set_length m has_incurred) before) before

-- ---- shares and ultimates: questions 1 to 5 and 9 to 11

unfoldable pub shares_refusal : ℕ → List ℕ → ℕ
shares_refusal m f = let s = set_of m f in call_refusal m f [] (of_shares m s.counts s.paid)

abbrev pub accepted_shares : ℕ → List ℤ → List ℤ → List ℤ → List ℤ → List ℤ → SharesAnswer
accepted_shares line b n q g u = record { refusal = 0; line = line; b = b; n = n; q = q; g = g; u = u }

unfoldable pub shares_of : ℕ → TriangleSet → SharesAnswer
shares_of m s = accepted_shares s.line (b_list m s.counts) (ultimates m s.counts) (b_list m s.paid) (g_list m s.paid) (ultimates m s.paid)

abbrev pub refused_shares : ℕ → SharesAnswer
refused_shares k = record { refusal = k; line = 0; b = zeros 20; n = zeros 20; q = zeros 20; g = zeros 20; u = zeros 20 }

unfoldable pub shares_answer : ℕ → List ℕ → SharesAnswer
shares_answer m f = let n = shares_refusal m f in if_accepted n (shares_of m (set_of m f)) (refused_shares n)

-- ---- delays: the same questions, and 12

unfoldable pub delays_refusal : ℕ → List ℕ → ℕ
delays_refusal m f = let s = set_of m f in call_refusal m f [] (of_shares m s.counts s.paid ++ of_delays m (delays_of m s))

abbrev pub accepted_delays : ℕ → List ℤ → DelaysAnswer
accepted_delays line p = record { refusal = 0; line = line; p = p }

abbrev pub refused_delays : ℕ → DelaysAnswer
refused_delays n = record { refusal = n; line = 0; p = zeros 20 }

unfoldable pub delays_answer : ℕ → List ℕ → DelaysAnswer
delays_answer m f =
    let s = set_of m f in
    let n = delays_refusal m f in
    if_accepted n (accepted_delays s.line (delays_of m s)) (refused_delays n)

-- ---- given delays (02, Job 6): the same questions, 20 in place of 12

unfoldable pub check_delays_refusal : ℕ → List ℕ → List ℤ → ℕ
check_delays_refusal m f p =
    let s = set_of m f in
    call_refusal m f [] (of_shares m s.counts s.paid ++ of_given_delays m s.counts s.paid p)

abbrev pub accepted_check : ℕ → CheckDelaysAnswer
accepted_check line = record { refusal = 0; line = line }

abbrev pub refused_check : ℕ → CheckDelaysAnswer
refused_check n = record { refusal = n; line = 0 }

unfoldable pub check_delays_answer : ℕ → List ℕ → List ℤ → CheckDelaysAnswer
check_delays_answer m f p = let n = check_delays_refusal m f p in if_accepted n (accepted_check (set_of m f).line) (refused_check n)

-- ---- the forecast: questions 1 to 14, without 8

unfoldable pub forecast_refusal : ℕ → List ℕ → ℕ → ℕ → ℕ → ℕ
forecast_refusal m f method basis room =
    let s = set_of m f in
    call_refusal m f ((6, q6 (has_incurred m f) method basis) ∷ (7, q7 m room) ∷ []) (of_forecast m s (delays_of m s) method)

abbrev pub accepted_forecast : ℕ → List ℤ → ForecastAnswer
accepted_forecast line l = record { refusal = 0; line = line; leftovers = l }

abbrev pub refused_forecast : ℕ → ForecastAnswer
refused_forecast n = record { refusal = n; line = 0; leftovers = zeros 20 }

unfoldable pub forecast_answer : ℕ → List ℕ → ℕ → ℕ → ℕ → ForecastAnswer
forecast_answer m f method basis room =
    let s = set_of m f in
    let n = forecast_refusal m f method basis room in
    if_accepted n (accepted_forecast s.line (leftovers m s method)) (refused_forecast n)

-- the output afterwards: a refusal leaves it as it was
unfoldable pub forecast_output : ℕ → List ℕ → ℕ → ℕ → List ℤ → List ℤ
forecast_output m f method basis before =
    let s = set_of m f in
    if_accepted (forecast_refusal m f method basis (length before)) (output_from m s (delays_of m s) method basis before) before

-- What the forecast hands back and leaves in the output, and demand 3: an accepted file under plain
-- DCL with estimated counts (method 0, basis 1) comes near its paid reserves.
pub record Forecasted (m : ℕ) (f : List ℕ) (method basis : ℕ) (before after : List ℤ) (a : ForecastAnswer) : Type 0 where
  pub result : a ≡ forecast_answer m f method basis (length before)
  pub output : after ≡ forecast_output m f method basis before
  pub reserve : a.refusal ≡ 0 → method ≡ 0 → basis ≡ 1 → NearReserves m (set_of m f).paid after

-- ---- the forecast with given delays p (02, Job 6): as above, with p, and 20 in place of 12

unfoldable pub forecast_with_refusal : ℕ → List ℕ → ℕ → ℕ → List ℤ → ℕ → ℕ
forecast_with_refusal m f method basis p room =
    call_refusal m f ((6, q6 (has_incurred m f) method basis) ∷ (7, q7 m room) ∷ []) (of_forecast_with m (set_of m f) p method)

unfoldable pub forecast_with_answer : ℕ → List ℕ → ℕ → ℕ → List ℤ → ℕ → ForecastAnswer
forecast_with_answer m f method basis p room =
    let s = set_of m f in
    let n = forecast_with_refusal m f method basis p room in
    if_accepted n (accepted_forecast s.line (leftovers m s method)) (refused_forecast n)

-- the output afterwards: a refusal leaves it as it was
unfoldable pub forecast_with_output : ℕ → List ℕ → ℕ → ℕ → List ℤ → List ℤ → List ℤ
forecast_with_output m f method basis p before =
    if_accepted (forecast_with_refusal m f method basis p (length before)) (output_from m (set_of m f) p method basis before) before

-- What this forecast hands back and leaves in the output, and demand 3 for whatever accepted delays
-- were given.
pub record ForecastedWith (m : ℕ) (f : List ℕ) (method basis : ℕ) (p before after : List ℤ) (a : ForecastAnswer) : Type 0 where
  pub result : a ≡ forecast_with_answer m f method basis p (length before)
  pub output : after ≡ forecast_with_output m f method basis p before
  pub reserve : a.refusal ≡ 0 → method ≡ 0 → basis ≡ 1 → NearReserves m (set_of m f).paid after

-- ---- claim costs: the questions of the shares

abbrev pub accepted_claim_costs : ℕ → ClaimCosts → ClaimCostsAnswer
accepted_claim_costs line c = record { refusal = 0; line = line; costs = c }

abbrev pub refused_claim_costs : ℕ → ClaimCostsAnswer
refused_claim_costs n = record { refusal = n; line = 0; costs = no_claim_costs }

unfoldable pub claim_costs_answer : ℕ → List ℕ → ClaimCostsAnswer
claim_costs_answer m f =
    let s = set_of m f in
    let n = shares_refusal m f in
    if_accepted n (accepted_claim_costs s.line (claim_costs m s)) (refused_claim_costs n)

-- ---- the back-test: questions 1 to 6 and 8, then 9 to 14 of the cut set

unfoldable pub back_test_refusal : ℕ → List ℕ → ℕ → ℕ → ℕ → ℕ
back_test_refusal m f c method basis =
    let s = cut_to (m - c) (set_of m f) in
    call_refusal m f ((6, q6 (has_incurred m f) method basis) ∷ (8, q8 m c) ∷ []) (of_forecast (m - c) s (delays_of (m - c) s) method)

abbrev pub accepted_back_test : ℕ → ℕ → ℕ → ℕ → ℕ → BackTestAnswer
accepted_back_test line cells cell year all = record { refusal = 0; line = line; cells = cells; cellwise = cell; yearwise = year; overall = all }

unfoldable pub back_test_of : ℕ → TriangleSet → ℕ → ℕ → ℕ → BackTestAnswer
back_test_of m s c method basis =
    let n = m - c in
    let p = delays_of n (cut_to n s) in
    let d : ℕ → ℕ → ℤ = gap m n s p method basis in
    accepted_back_test s.line (cell_number c n) (cellwise n d) (yearwise n c d) (overall n d)

abbrev pub refused_back_test : ℕ → BackTestAnswer
refused_back_test n = record { refusal = n; line = 0; cells = 0; cellwise = 0; yearwise = 0; overall = 0 }

unfoldable pub back_test_answer : ℕ → List ℕ → ℕ → ℕ → ℕ → BackTestAnswer
back_test_answer m f c method basis =
    let n = back_test_refusal m f c method basis in
    if_accepted n (back_test_of m (set_of m f) c method basis) (refused_back_test n)

-- ---- the program `closing` (01, Calendar years): what it prints for its standard input

-- the tally of a file's forecast; 1560 entries are room for m = 20
unfoldable pub file_tally : ℕ → List ℕ → ℕ → ℕ → Tally
file_tally m f method basis = tally_of m (forecast_output m f method basis (zeros 1560))

-- for the file behind the first line: the text of its tally, or of its refusal
unfoldable pub file_text : ℕ → List ℕ → ℕ → ℕ → List ℕ
file_text m f method basis =
    let n = forecast_refusal m f method basis 1560 in
    if_accepted n (tally_text m (file_tally m f method basis)) (refusal_text n)

-- for the input s, whose first line asks this
unfoldable pub closing_of : List ℕ → Option Asked → List ℕ
closing_of s None = refusal_text (refusal_of None)
closing_of s (Some a) = file_text a.m (drop a.start s) a.method a.basis

unfoldable pub closing_text : List ℕ → List ℕ
closing_text s = closing_of s (first_line s)

-- `respond`: the text's length, or 0 where the output is too short for the text
unfoldable pub respond_answer : List ℕ → List ℕ → ℕ
respond_answer s before = let t = closing_text s in cond (leb (length t) (length before)) (length t) 0

-- the output afterwards: the text and then what stood there, or, too short, as it was
unfoldable pub respond_output : List ℕ → List ℕ → List ℕ
respond_output s before = let t = closing_text s in cond (leb (length t) (length before)) (t ++ drop (length t) before) before

-- `respond_to`, where n bytes were read into a buffer: their text's length, and the text in the
-- output, which always has room. Bytes that fill the buffer may be only the start of the input:
-- every input that starts with them has the same text.
pub record Responded (buffer : List ℕ) (n : ℕ) (before after : List ℕ) (r : ℕ) : Type 0 where
  pub result : r ≡ length (closing_text (take n buffer))
  pub output : after ≡ closing_text (take n buffer) ++ drop (length (closing_text (take n buffer))) before
  pub started : length buffer ≤ n → (s : List ℕ) → take (length buffer) s ≡ buffer → closing_text (take n buffer) ≡ closing_text s

-- ---- the closing page (02, Job 1): questions 1 to 6, 15 in place of 7, and 9 to 14

unfoldable pub page_refusal : ℕ → List ℕ → ℕ → ℕ → ℕ → ℕ
page_refusal m f method basis room =
    let s = set_of m f in
    call_refusal m f ((6, q6 (has_incurred m f) method basis) ∷ (15, q15 m room) ∷ []) (of_forecast m s (delays_of m s) method)

-- the page of a file: of the very tally whose text `closing` prints
unfoldable pub file_page : ℕ → List ℕ → ℕ → ℕ → List ℕ
file_page m f method basis = page_text m (file_tally m f method basis)

-- the lent page afterwards: the file's page in the first 136 × m bytes, and what stood behind them;
-- a refusal leaves it as it was
unfoldable pub page_output : ℕ → List ℕ → ℕ → ℕ → List ℕ → List ℕ
page_output m f method basis before =
    if_accepted (page_refusal m f method basis (length before)) (file_page m f method basis ++ drop (136 * m) before) before

-- ---- the claims journal (02, Job 3): question 1, and 16 to 18

-- 16 to 18 of one transaction after question 1
abbrev pub of_step : ℕ → JournalTally → Transaction → List Question
of_step m t x = (1, q1 m) ∷ of_transaction m t x

-- `step`: the refusal of these questions, and the tally afterwards, brought up to date or as it was
pub record Stepped (questions : List Question) (t : JournalTally) (x : Transaction) (after : JournalTally) (r : ℕ) : Type 0 where
  pub result : r ≡ first_no questions
  pub tally : after ≡ if_accepted (first_no questions) (booked t x) t

-- a whole journal: 16 of its length before its transactions
unfoldable pub replay_refusal : ℕ → List ℕ → ℕ
replay_refusal m f = first_no ((1, q1 m) ∷ (16, q16_length f) ∷ of_transactions m f (records f))

-- the tally afterwards: that of the journal, whatever stood there before; a refusal leaves it as it
-- was
unfoldable pub replay_tally : ℕ → List ℕ → JournalTally → JournalTally
replay_tally m f before = if_accepted (replay_refusal m f) (tally_after f (records f)) before

-- What `replay` hands back and leaves in the tally. The triangles of an accepted journal are its
-- reports counted and its payments added by cell over all of its transactions.
pub record Replayed (m : ℕ) (f : List ℕ) (before after : JournalTally) (r : ℕ) : Type 0 where
  pub result : r ≡ replay_refusal m f
  pub tally : after ≡ replay_tally m f before
  pub counted : r ≡ 0 → after.counts ≡ triangle m (reports f)
  pub added : r ≡ 0 → after.paid ≡ triangle m (payments f)

-- ---- cash by dates (02, Job 5): questions 1 to 6, 9 to 14, and 19

unfoldable pub cash_refusal : ℕ → List ℕ → ℕ → ℕ → Date → Date → Date → ℕ
cash_refusal m f method basis v a b =
    let s = set_of m f in
    call_refusal m f ((6, q6 (has_incurred m f) method basis) ∷ []) (of_forecast m s (delays_of m s) method ++ ((19, q19 m v a b) ∷ []))

abbrev pub accepted_cash : ℕ → ℤ → CashAnswer
accepted_cash line z = record { refusal = 0; line = line; amount = z }

abbrev pub refused_cash : ℕ → CashAnswer
refused_cash n = record { refusal = n; line = 0; amount = pos 0 }

-- the window from a to b, by the valuation date v: of the very tally whose text `closing` prints
unfoldable pub cash_answer : ℕ → List ℕ → ℕ → ℕ → Date → Date → Date → CashAnswer
cash_answer m f method basis v a b =
    let n = cash_refusal m f method basis v a b in
    if_accepted n (accepted_cash (set_of m f).line (cash_in (2 * m - 2) (file_tally m f method basis) v a b)) (refused_cash n)
