-- `claim_costs` meets its contract: the reader's questions, and then those of the set. Assumes
-- nothing.
use Rattle.std.proofs.Common.{refl, sym, ◌∙◌, ap}
use Rattle.model.specs.Records.{set_of}
use Rattle.chain_ladder.specs.Accepted.{accepted}
use Rattle.chain_ladder.specs.Valid.{counts_of, paid_of}
use Rattle.refusals.specs.RefusalsLaws.{not_accepted}
use Rattle.claim_costs.specs.Costs.{costs_of_set}
use Rattle.claim_costs.specs.CostsLaws.{file_no, file_yes}
use Rattle.claim_costs.proofs.claim_costs.Goals as goal

pub returns-in-Err : goal.returns-in-Err
returns-in-Err c = rw (c.refused.ensures, c.from.ensures) (sym (file_no _ _ _ (sym c.in-Err.ensures.result) (not_accepted c.in-Err.refusal)))

pub claim_costs_of_set-requires : goal.claim_costs_of_set-requires
claim_costs_of_set-requires c = let v = (accepted _ _ c.in_default.ensures refl).valid in (counts_of _ _ v, paid_of _ _ v)

pub returns : goal.returns
unfolding set_of
returns c =
    let m = c.args.m in
    let f = c.args.file.now in
    let file = accepted m f c.in_default.ensures refl in
    c.claim_costs_of_set.ensures (set_of m f) c.line.ensures ∙ ap (costs_of_set m) file.is ∙ sym (file_yes m f file.read)
