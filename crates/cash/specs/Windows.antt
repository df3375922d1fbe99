-- What the definitions of 02, Job 5 come to: windows that follow on add up, a whole forecast year's
-- window is its RBNS and IBNR, and that of all of them the total that `closing` prints. Assumes
-- nothing.
use Rattle.std.specs.Prelude.{◌≡◌, true, List, [], ◌∷◌, ◌++◌, ℕ, suc, ◌-◌, ◌*◌, ◌≤◌, ◌<◌, ◌+ℤ◌}
use Rattle.std.proofs.Math.Path.{refl, sym, ap, ap₂}
use Rattle.std.proofs.Common.{◌∙◌, append_assoc, arith}
use Rattle.std.proofs.Math.IntN.{ℤ, pos, ◌-ℤ◌}
use Rattle.integers.specs.Solver.{ring, form}
use Rattle.integers.specs.Sums.{sum}
use Rattle.model.specs.Lists.{at}
use Rattle.model.specs.Records.{set_of}
use Rattle.model.specs.Dates.{is_date, day_number, anniversary}
use Rattle.model.specs.Calendar as Calendar
use Rattle.model.specs.Calendar.{amount, lines, all_lines, tally_text}
use Rattle.model.specs.Cash.{full_years, year_total, due_before, cash_in}
use Rattle.model.specs.Questions.{is_valuation}
use Rattle.model.specs.Calls.{zeros, forecast_refusal, file_tally, file_text, cash_refusal, accepted_cash, cash_answer}
use Rattle.model.specs.CallsLaws.{number_of}
use Rattle.year_tally.specs.declared.Tally.{Tally}
use Rattle.model.specs.declared.Date.{Date}
use Rattle.model.specs.declared.CashAnswer.{CashAnswer}
use Rattle.forecast.specs.FileLaws as FileLaws
use Rattle.dates.specs.DatesLaws.{anniversary_is_date}
use Rattle.forecast_years.specs.YearsLaws.{valued, Window, window, window_yes, start_zero, starts_order, starts_most}
use Rattle.due.specs.DueLaws.{due_at_start, no_years, one_year}
use Rattle.cash.specs.CashCall.{accepted, cash_so, accepted_is}

-- ---- over a tally

module _ (n : ℕ) (t : Tally) (v : Date) where
  -- windows from a to b and from b to c
  pub cash_follows : (a b c : Date) → cash_in n t v a b +ℤ cash_in n t v b c ≡ cash_in n t v a c
  unfolding cash_in
  cash_follows a b c = both (due a) (due b) (due c)
    where
      due : Date → ℤ
      due d = due_before n t v (day_number d)

      both : (x y z : ℤ) → (y -ℤ x) +ℤ (z -ℤ y) ≡ z -ℤ x
      both x y z = ring (x ∷ y ∷ z ∷ []) (search form depth 20) tt

  module _ (e : is_date v ≡ true) where
    -- from one anniversary to another
    cash_years : (j k : ℕ) → j ≤ n → k ≤ n → cash_in n t v (anniversary v j) (anniversary v k) ≡ full_years t k -ℤ full_years t j
    unfolding cash_in
    cash_years j k h l = ap₂ ◌-ℤ◌ (due_at_start t v e k n l) (due_at_start t v e j n h)

    pub cash_year : (k : ℕ) → k < n → cash_in n t v (anniversary v k) (anniversary v (suc k)) ≡ year_total t k
    cash_year k h = cash_years k (suc k) (omega arith) h ∙ one_year t k

    pub cash_all : cash_in n t v v (anniversary v n) ≡ full_years t n
    unfolding cash_in
    cash_all =
        let z : due_before n t v (day_number v) ≡ pos 0 = ap (due_before n t v) (sym (start_zero v e)) ∙ due_at_start t v e 0 n (omega arith) ∙ no_years t in
        ap₂ ◌-ℤ◌ (due_at_start t v e n n (omega arith)) z ∙ less_none (full_years t n)
      where
        less_none : (x : ℤ) → x -ℤ pos 0 ≡ x
        less_none x = ring (x ∷ []) (search form depth 20) tt

-- ---- of a file

-- a text's last bytes
pub record EndsWith (s end : List ℕ) : Type 0 where
  pub front : List ℕ
  pub whole : s ≡ front ++ end

-- the text of a tally ends with the sum of its totals
text_ends : (m : ℕ) (t : Tally) → EndsWith (tally_text m t) (amount (full_years t (2 * m - 2)) ++ (10 ∷ []))
unfolding tally_text all_lines Calendar.line full_years
text_ends m t =
    record {
      front = years ++ totals;
      whole = ap (λ (s : List ℕ). years ++ s) (append_assoc totals (amount (x +ℤ y)) (10 ∷ [])) ∙ sym (append_assoc years totals (amount (x +ℤ y) ++ (10 ∷ [])));
    }
  where
    years : List ℕ
    years = lines Calendar.line t (2 * m - 2)

    x : ℤ
    x = sum (2 * m - 2) (at t.rbns)

    y : ℤ
    y = sum (2 * m - 2) (at t.ibnr)

    totals : List ℕ
    totals = (84 ∷ []) ++ (32 ∷ []) ++ amount x ++ (32 ∷ []) ++ amount y ++ (32 ∷ [])

module _ (m : ℕ) (f : List ℕ) (method basis : ℕ) (v : Date) where
  abbrev t : Tally
  t = file_tally m f method basis

  abbrev line : ℕ
  line = (set_of m f).line

  abbrev answer : Date → Date → CashAnswer
  answer a b = cash_answer m f method basis v a b

  -- what an accepted window is
  module _ (a b : Date) (z : (answer a b).refusal ≡ 0) where
    refusal_is : cash_refusal m f method basis v a b ≡ 0
    unfolding cash_answer
    refusal_is = sym (number_of (cash_refusal m f method basis v a b) _ _ (λ (x : CashAnswer). x.refusal) refl refl) ∙ z

    amount_is : (answer a b).amount ≡ cash_in (2 * m - 2) t v a b
    amount_is = ap (λ (x : CashAnswer). x.amount) (sym (accepted_is m f method basis v a b refusal_is refl refl))

    is_window : Window m v a b
    is_window = window m v a b (cash_so m f method basis v a b refusal_is).2

  -- windows that follow on are one window
  pub windows_follow : (a b c : Date) → (answer a b).refusal ≡ 0 → (answer b c).refusal ≡ 0 → answer a c ≡ accepted_cash line ((answer a b).amount +ℤ (answer b c).amount)
  windows_follow a b c y z =
      let p = is_window a b y in
      let q = is_window b c z in
      let so = cash_so m f method basis v a b (refusal_is a b y) in
      let w : Window m v a c = record {
        valuation = p.valuation;
        start_date = p.start_date;
        end_date = q.end_date;
        after_valuation = p.after_valuation;
        ordered = omega (arith, p.ordered, q.ordered);
        starts_within = p.starts_within;
        ends_within = q.ends_within;
      } in
      sym (
      accepted_is m f method basis v a c (accepted m f method basis v a c so.0 so.1 (window_yes m v a c w)) refl
      (ap₂ ◌+ℤ◌ (amount_is a b y) (amount_is b c z) ∙ cash_follows (2 * m - 2) t v a b c)
      )

  -- of a file that `closing` accepts
  module _ (forecast : forecast_refusal m f method basis 1560 ≡ 0) (e : is_valuation v ≡ true) where
    abbrev d : is_date v ≡ true
    d = (valued v e).date

    accepted_window : (a b : Date) {z : ℤ} → Window m v a b → cash_in (2 * m - 2) t v a b ≡ z → answer a b ≡ accepted_cash line z
    accepted_window a b w q =
        let p = FileLaws.passed m f method basis (zeros 1560) forecast in
        sym (accepted_is m f method basis v a b (accepted m f method basis v a b p.0 p.2 (window_yes m v a b w)) refl (sym q))

    -- a whole forecast year
    pub whole_year : (k : ℕ) → k < 2 * m - 2 → answer (anniversary v k) (anniversary v (suc k)) ≡ accepted_cash line (year_total t k)
    whole_year k h =
        accepted_window (anniversary v k) (anniversary v (suc k))
        (record {
          valuation = e;
          start_date = anniversary_is_date v k d;
          end_date = anniversary_is_date v (suc k) d;
          after_valuation = omega (arith, start_zero v d, starts_most v d 0 k (omega arith));
          ordered = starts_most v d k (suc k) (omega arith);
          starts_within = starts_order v d k (2 * m - 2) h;
          ends_within = starts_most v d (suc k) (2 * m - 2) h;
        })
        (cash_year (2 * m - 2) t v d k h)

    -- all of them
    pub whole_span : 2 ≤ m → answer v (anniversary v (2 * m - 2)) ≡ accepted_cash line (full_years t (2 * m - 2))
    whole_span h =
        accepted_window v (anniversary v (2 * m - 2))
        (record {
          valuation = e;
          start_date = d;
          end_date = anniversary_is_date v (2 * m - 2) d;
          after_valuation = omega arith;
          ordered = omega (arith, start_zero v d, starts_most v d 0 (2 * m - 2) (omega arith));
          starts_within = omega (arith, start_zero v d, starts_order v d 0 (2 * m - 2) (omega arith));
          ends_within = omega arith;
        })
        (cash_all (2 * m - 2) t v d)

    -- the last number that `closing` prints
    pub closing_total : 2 ≤ m → EndsWith (file_text m f method basis) (amount (answer v (anniversary v (2 * m - 2))).amount ++ (10 ∷ []))
    unfolding file_text
    closing_total h = rw (forecast, whole_span h) (text_ends m t)
