-- `calendar::answer_file` meets its contract: the text of the tally of the forecast, or of the
-- refusal. Assumes nothing.
use Rattle.std.proofs.Common.{◌≡◌, refl, sym, ◌∙◌, ap, subst, List, ℕ, ◌≤◌, arith, ℤ, length}
use Rattle.std.proofs.Math.Nat.{le_trans}
use Rattle.model.specs.Cells.{size}
use Rattle.model.specs.Calendar.{tally_of, tally_text}
use Rattle.model.specs.Calls.{zeros, forecast_refusal, forecast_answer, forecast_output, file_tally, file_text}
use Rattle.model.specs.CallsLaws.{forecast_refusal_lem}
use Rattle.refusals.specs.RefusalsLaws.{not_accepted}
use Rattle.forecast.specs.SmallEntries.{file_small}
use Rattle.tally.specs.YearSums.{Small}
use Rattle.tally.specs.Printable.{Printable, small_printable}
use Rattle.tally_text.specs.TallyTextLaws.{tally_text_length, refusal_short}
use Rattle.calendar.specs.Respond.{text_refused, text_accepted}
use Rattle.calendar.proofs.answer_file.Goals as goal

-- the forecast is accepted, with the entries that it wrote
module _ (m : ℕ) (file : List ℕ) (method basis : ℕ) {out : List ℤ} (value : 0 ≡ (forecast_answer m file method basis 1560).refusal)
    (output : out ≡ forecast_output m file method basis (zeros 1560)) where
  accepted : forecast_refusal m file method basis 1560 ≡ 0
  accepted = sym (value ∙ forecast_refusal_lem _ _ _ _ _ refl)

  small : (2 ≤ m) × (m ≤ 20) × (size m ≤ 1560) × Small m out
  small = let f = file_small m file method basis (zeros 1560) accepted in (f.0, f.1, f.2, subst (Small m) (sym output) f.3)

  printable : Printable m (tally_of m out)
  printable = small_printable m out small.1 small.3

  room : length (tally_text m (tally_of m out)) ≤ 2573
  room = tally_text_length m _ small.1 printable

  text_is : file_text m file method basis ≡ tally_text m (tally_of m out)
  unfolding file_tally
  text_is = text_accepted m file method basis accepted ∙ ap (λ (xs : List ℤ). tally_text m (tally_of m xs)) (sym output)

pub tally_of-requires : goal.tally_of-requires
tally_of-requires c =
    let s = small _ _ _ _ c.in-Ok.ensures.value c.forecast_into.ensures.out_after in
    (s.0, s.1, omega (arith, s.2, c.forecast_into.auto), s.3)

pub write_tally_text-requires : goal.write_tally_text-requires
write_tally_text-requires c =
    let v = c.in-Ok.ensures.value in
    let o = c.forecast_into.ensures.out_after in
    rw c.tally_of.ensures
    record { le_m = let s = small _ _ _ _ v o in (s.0, s.1); printable = printable _ _ _ _ v o; text_in_bounds = le_trans (room _ _ _ _ v o) c.requires }

pub returns-in-Ok : goal.returns-in-Ok
returns-in-Ok c = rw (text_is _ _ _ _ c.in-Ok.ensures.value c.forecast_into.ensures.out_after) (rw c.tally_of.ensures at c.write_tally_text.ensures)

pub write_refusal-requires : goal.write_refusal-requires
write_refusal-requires c = le_trans (refusal_short _ (omega arith)) c.requires

pub returns-in-Err : goal.returns-in-Err
returns-in-Err c =
    let e = sym (c.in-Err.ensures.value ∙ forecast_refusal_lem _ _ _ _ _ refl) in
    rw (text_refused c.args.m c.args.file.now c.args.method c.args.basis _ (not_accepted c.in-Err.refusal) e) (rw c.from.ensures at c.write_refusal.ensures)
