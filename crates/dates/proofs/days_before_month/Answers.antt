-- `dates::days_before_month` meets its contract: the table's sum before a month is that of a common
-- year. Assumes nothing.
use Rattle.std.proofs.Common.{◌≡◌, true, ◌≤◌, ◌-◌, ℕ, Bool, false, eqb, refl, take, arith, ◌∙◌, sym, ⊎_elim}
use Rattle.std.proofs.lemmas.Iterator.{YieldsList-from_slice}
use Rattle.std.proofs.lemmas.Iterator.Consumers.{sum_from_yields_List, fits_from_yields_list}
use Rattle.std.specs.List.{sum}
use Rattle.model.specs.Lists.{total, every}
use Rattle.model.specs.ListsLaws.{every_at}
use borrow.Author.Tests.{eqb-true}
use Rattle.model.specs.Dates.{month_days, month_length, days_before_month}
use Rattle.dates.specs.DatesLaws.{months_few, before_march, from_march}
use Rattle.dates.proofs.days_before_month.Goals as goal
use Rattle.dates.proofs.days_before_month.Goals.{After-sum-common}

-- computed for each month
sum_rule : ℕ → Bool
sum_rule m = eqb (sum (take (m - 1) month_days)) (days_before_month false m)

sum_rules : every 13 sum_rule ≡ true
unfolding every sum_rule days_before_month month_length month_days total
sum_rules = refl

table_sum : (m : ℕ) → m ≤ 12 → sum (take (m - 1) month_days) ≡ days_before_month false m
unfolding sum_rule
table_sum m h = eqb-true _ _ (every_at sum_rule 13 m sum_rules (omega arith))

pub sum-common-requires-clause-fits : goal.sum-common-requires-clause-fits
unfolding month_days
sum-common-requires-clause-fits c =
    let m = c.args.month in
    fits_from_yields_list c.iter.result _ (YieldsList-from_slice (take (m - 1) month_days) cc)
    (omega (arith, table_sum m c.requires.1, months_few false m (omega arith)))

-- what the code adds up
common_is : (c : After-sum-common) → c.sum-common.result ≡ days_before_month false c.args.month
unfolding month_days
common_is c =
    sum_from_yields_List c.iter.result _ c.sum-common.ensures.ran (YieldsList-from_slice (take (c.args.month - 1) month_days) cc)
    ∙ table_sum c.args.month c.requires.1

pub overflow_add-result : goal.overflow_add-result
overflow_add-result c = omega (arith, common_is c.before.before, months_few false c.args.month (omega arith))

pub returns-then-month-ge3 : goal.returns-then-month-ge3
returns-then-month-ge3 c = rw c.if-leap.true (omega (arith, common_is c.before.before, from_march c.args.month c.if-month-ge3.true c.requires.1))

pub returns-else-leap : goal.returns-else-leap
returns-else-leap c =
    ⊎_elim (λ h. common_is c.before ∙ sym (before_march c.args.leap c.args.month h.1)) (λ h. rw h (common_is c.before)) c.else-leap.either
