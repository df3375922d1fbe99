-- `replay` meets its contract, by the laws of `Replays`. Assumes nothing.
use Rattle.std.proofs.Common.{refl, arith}
use Rattle.model.specs.Journal.{no_tally}
use Rattle.refusals.specs.RefusalsLaws.{not_accepted, handed_on}
use Rattle.journal.specs.Replays.{begins, turns, ends_yes, ends_no}
use Rattle.journal.proofs.replay.Goals as goal

pub returns-in_err-framed : goal.returns-in_err-framed
returns-in_err-framed c =
    rw (handed_on _ _ c.from_residual.ensures.1)
    (ends_no _ _ 0 _ _ no_tally (begins _ _ _ no_tally c.in_err-framed.ensures refl) (not_accepted _))

pub loop-k-init : goal.loop-k-init
loop-k-init c = begins _ _ _ _ c.in_ok-framed.ensures c.empty-t.ensures

pub loop-k-preserved : goal.loop-k-preserved
loop-k-preserved c = turns _ _ _ 0 _ c.loop-k.invariant refl c.loop-k-test.true _ _ (rw c.transaction_at.ensures at c.in_ok-step.ensures)

pub returns-in_err-step : goal.returns-in_err-step
returns-in_err-step c =
    rw (handed_on _ _ c.from_residual-in_err-step.ensures.1)
    (ends_no _ _ _ _ _ _ (turns _ _ _ 0 _ c.loop-k.invariant refl c.loop-k-test.true _ _ (rw c.transaction_at.ensures at c.in_err-step.ensures)) (not_accepted _))

pub returns : goal.returns
returns c = ends_yes _ _ _ _ _ c.loop-k.invariant (omega arith)
