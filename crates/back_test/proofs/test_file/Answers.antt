-- `test_file` meets its contract: questions 1 to 6, then 8, and then the back-test of the set.
-- Assumes nothing.
use Rattle.std.proofs.Common.{refl, sym, ◌∙◌, ap, arith}
use Rattle.model.specs.Records.{set_of}
use Rattle.model.specs.declared.TriangleSet.{TriangleSet}
use Rattle.forecast.specs.ReadFile.{passed_settings, read_sized, read_in_range}
use Rattle.refusals.specs.RefusalsLaws.{not_accepted}
use Rattle.back_test.specs.SetTest.{set_test}
use Rattle.back_test.specs.TestLaws.{handed_on, refused, by_settings, none_cut, much_cut, tested}
use Rattle.back_test.proofs.test_file.Goals as goal
use Rattle.back_test.proofs.test_file.Goals.{then-c-lt1-via-then-c-lt1, then-c-lt1-via-else-c-lt1+then-m-c}

pub returns-in_err-read_to_forecast : goal.returns-in_err-read_to_forecast
returns-in_err-read_to_forecast c =
    let e = c.in_err-read_to_forecast.ensures.refusal in
    let o = not_accepted c.in_err-read_to_forecast.field-0.0 in
    handed_on _ _ c.from_residual.ensures.1 ∙ sym (refused _ _ _ _ _ _ o (by_settings _ _ _ _ _ (λ z. o (e ∙ z)) ∙ sym e))

pub overflow_sub-m : goal.overflow_sub-m
overflow_sub-m c = omega (arith, read_sized c.in_ok-read_to_forecast.ensures refl)

pub returns-then-c-lt1 : goal.returns-then-c-lt1
returns-then-c-lt1 c =
    let read = c.in_ok-read_to_forecast.ensures in
    let passed = passed_settings read refl in
    let sized = read_sized read refl in
    sym
    (refused _ _ _ _ _ 8 (λ z. omega arith)
    (elim c.then-c-lt1.branch [
      | then-c-lt1-via-then-c-lt1 w ↦ none_cut _ _ _ _ _ passed w.if-c-lt1.true
      | then-c-lt1-via-else-c-lt1+then-m-c w ↦ much_cut _ _ _ _ _ passed (omega (arith, w.if-m-c.true, sized))
    ]))

pub test_set-requires : goal.test_set-requires
test_set-requires c =
    let read = c.in_ok-read_to_forecast.ensures in
    (read_in_range read refl, c.if-c-lt1.false, omega (arith, c.if-m-c.false, read_sized read refl))

pub returns : goal.returns
unfolding set_of
returns c =
    let a = c.args in
    let read = c.in_ok-read_to_forecast.ensures in
    c.test_set.ensures (set_of a.m a.file.now) c.line.ensures
    ∙ ap (λ (t : TriangleSet). set_test a.m t a.c a.method a.basis) (read.holds refl)
    ∙ tested a.m a.file.now a.c a.method a.basis (passed_settings read refl) c.if-c-lt1.false (omega (arith, c.if-m-c.false, read_sized read refl))
