-- `cash::cash_in_window` meets its contract: what is due in the window, or the refusal. Assumes
-- nothing.
use Rattle.std.proofs.Common.{sym, ◌∙◌, w64, to_z-of_z, rules}
use Rattle.model.specs.Records.{set_of}
use Rattle.refusals.specs.RefusalsLaws.{not_accepted}
use Rattle.cash.specs.CashCall.{refused_is, accepted_is}
use Rattle.cash.proofs.cash_in_window.Goals as goal

pub returns-in-Ok : goal.returns-in-Ok
unfolding set_of
returns-in-Ok c =
    accepted_is _ _ _ _ _ _ _ (sym c.in-Ok.ensures.value) c.line.ensures (to_z-of_z {w = w64} (search rules) ∙ c.in-Ok.ensures.amount)

pub returns-in-Err : goal.returns-in-Err
returns-in-Err c =
    rw c.from.ensures (refused_is _ _ _ _ _ _ _ (not_accepted c.in-Err.refusal) (sym c.in-Err.ensures.value))
