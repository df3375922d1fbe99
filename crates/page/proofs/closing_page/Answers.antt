-- `page::closing_page` meets its contract: questions 1 to 6, then 15, the forecast of the
-- set, and the page of its tally. Assumes nothing.
use Rattle.std.proofs.Common.{refl, sym, ◌∙◌, arith}
use Rattle.model.specs.Records.{set_of}
use Rattle.model.specs.CellsLaws.{size_most}
use Rattle.refusals.specs.RefusalsLaws.{not_accepted, handed_on}
use Rattle.forecast.specs.ReadFile.{passed_settings, read_sized, read_in_range}
use Rattle.forecast.specs.SmallEntries.{set_small}
use Rattle.page.specs.PageCall.{by_settings, by_room, page_refused, set_refused, forecast_printable, page_written}
use Rattle.page.proofs.closing_page.Goals as goal

pub returns-in_err-read_to_forecast : goal.returns-in_err-read_to_forecast
returns-in_err-read_to_forecast c =
    let e = c.in_err-read_to_forecast.ensures.refusal in
    let w = page_refused _ _ _ _ _ (not_accepted _) (by_settings _ _ _ _ _ (λ z. not_accepted _ (e ∙ z)) ∙ sym e) in
    record { value = handed_on _ _ c.from_residual.ensures.1 ∙ w.0; page_after = w.1 }

pub overflow_mul-m : goal.overflow_mul-m
overflow_mul-m c = omega (arith, read_sized c.in_ok-read_to_forecast.ensures refl)

pub returns-then-page-m : goal.returns-then-page-m
returns-then-page-m c =
    let p = passed_settings c.in_ok-read_to_forecast.ensures refl in
    let w = page_refused _ _ _ _ _ {n = 15} (λ z. omega arith) (by_room _ _ _ _ _ p c.if-page-m.true) in
    record { value = w.0; page_after = w.1 }

pub forecast_set-requires : goal.forecast_set-requires
forecast_set-requires c = let r = c.in_ok-read_to_forecast.ensures in (read_in_range r refl, size_most _ (read_sized r refl).1)

pub returns-in_err-forecast_set : goal.returns-in_err-forecast_set
returns-in_err-forecast_set c =
    let r = c.in_ok-read_to_forecast.ensures in
    let w = set_refused _ _ _ _ _ (passed_settings r refl) c.if-page-m.false (r.holds refl) (c.in_err-forecast_set.ensures.fact (set_of c.args.m c.args.file.now)) (not_accepted _) in
    record { value = handed_on _ _ c.from_residual-in_err-forecast_set.ensures.1 ∙ w.0; page_after = w.1 }

pub tally_of-requires : goal.tally_of-requires
tally_of-requires c =
    let r = c.in_ok-read_to_forecast.ensures in
    let s = set_small _ _ _ _ (passed_settings r refl) (r.holds refl) (c.in_ok-forecast_set.ensures.fact (set_of c.args.m c.args.file.now)) refl in
    (s.0, s.1, omega (arith, s.2, c.forecast_set.auto), s.3)

pub write_page-requires : goal.write_page-requires
write_page-requires c =
    let r = c.in_ok-read_to_forecast.ensures in
    let s = read_sized r refl in
    rw c.tally_of.ensures
    record {
      le_m = (s.0, s.1, c.if-page-m.false);
      printable = forecast_printable _ _ _ _ _ (passed_settings r refl) c.if-page-m.false (r.holds refl) (c.in_ok-forecast_set.ensures.fact (set_of c.args.m c.args.file.now)) refl;
    }

pub returns : goal.returns
returns c =
    let r = c.in_ok-read_to_forecast.ensures in
    let e = rw c.tally_of.ensures at c.write_page.ensures in
    let w = page_written _ _ _ _ _ (passed_settings r refl) c.if-page-m.false (r.holds refl) (c.in_ok-forecast_set.ensures.fact (set_of c.args.m c.args.file.now)) refl e in
    record { value = w.0; page_after = w.1 }
