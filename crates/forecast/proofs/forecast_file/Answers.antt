-- `forecast::forecast_file` meets its contract: questions 1 to 6, then 7, and then the forecast of
-- the set. Assumes nothing.
use Rattle.std.proofs.Common.{refl, sym, ◌∙◌, arith}
use Rattle.model.specs.Records.{set_of}
use Rattle.model.specs.CellsLaws.{size_most}
use Rattle.refusals.specs.RefusalsLaws.{not_accepted, handed_on}
use Rattle.forecast.specs.ReadFile.{passed_settings, read_sized, read_in_range}
use Rattle.forecast.specs.FileLaws.{by_settings, by_room, refused, forecasted}
use Rattle.forecast.proofs.forecast_file.Goals as goal

pub returns-in_err-read_to_forecast : goal.returns-in_err-read_to_forecast
returns-in_err-read_to_forecast c =
    let e = c.in_err-read_to_forecast.ensures.refusal in
    rw (handed_on _ _ c.from_residual.ensures.1) (refused _ _ _ _ _ _ (not_accepted _) (by_settings _ _ _ _ _ _ (λ z. not_accepted _ (e ∙ z)) ∙ sym e))

pub returns-then-out-m : goal.returns-then-out-m
returns-then-out-m c =
    refused _ _ _ _ _ _ (λ z. omega arith) (by_room _ _ _ _ _ _ (passed_settings c.in_ok-read_to_forecast.ensures refl) c.if-out-m.true)

pub forecast_either-requires : goal.forecast_either-requires
forecast_either-requires c = (read_in_range c.in_ok-read_to_forecast.ensures refl, c.if-out-m.false)

pub returns : goal.returns
returns c =
    let r = c.in_ok-read_to_forecast.ensures in
    let e = c.forecast_either.ensures in
    forecasted _ _ _ _ _ _ (passed_settings r refl) c.if-out-m.false (r.holds refl) (e.fact (set_of c.args.m c.args.file.now)) e.near_reserves

pub overflow_mul-m : goal.overflow_mul-m
overflow_mul-m c = omega (arith, read_sized c.in_ok-read_to_forecast.ensures refl)

pub overflow_mul-m-2 : goal.overflow_mul-m-2
overflow_mul-m-2 c = omega (arith, read_sized c.in_ok-read_to_forecast.ensures refl)

pub overflow_sub-m : goal.overflow_sub-m
overflow_sub-m c = omega (arith, read_sized c.in_ok-read_to_forecast.ensures refl)

pub overflow_mul-m-3 : goal.overflow_mul-m-3
overflow_mul-m-3 c = omega (arith, size_most _ (read_sized c.in_ok-read_to_forecast.ensures refl).1)
