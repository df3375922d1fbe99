-- `file_delays` meets its contract: the reader's questions, and then those of the set. Assumes
-- nothing.
use Rattle.std.proofs.Common.{refl, sym, ◌∙◌, ap}
use Rattle.std.specs.Option.{option_copied}
use Rattle.model.specs.Calls.{if_accepted}
use Rattle.model.specs.declared.TriangleSet.{TriangleSet}
use Rattle.refusals.specs.Refusals.{refusal_number}
use Rattle.refusals.specs.RefusalsLaws.{not_accepted, handed_on}
use Rattle.chain_ladder.specs.Accepted.{accepted}
use Rattle.chain_ladder.specs.Valid.{counts_of, paid_of}
use Rattle.delays.specs.Prepared.{delays_from, refusal_from}
use Rattle.delays.specs.PreparedLaws.{unread, from_pair}
use Rattle.delays.proofs.file_delays.Goals as goal

pub returns-in_err-read_cells : goal.returns-in_err-read_cells
returns-in_err-read_cells c = rw (handed_on _ _ c.from_residual.ensures.1) (unread _ _ _ _ c.in_err-read_cells.ensures.result (not_accepted _))

pub prepare_from-requires-clause-amounts : goal.prepare_from-requires-clause-amounts
prepare_from-requires-clause-amounts c = let v = (accepted _ _ c.in_ok-read_cells.ensures refl).valid in (counts_of _ _ v, paid_of _ _ v)

pub returns : goal.returns
returns c =
    let m = c.args.m in
    let given = option_copied c.args.given in
    let file = accepted _ _ c.in_ok-read_cells.ensures refl in
    let e = c.prepare_from.ensures in
    record {
      refusal = e.refusal ∙ ap (λ (s : TriangleSet). refusal_from m s.counts s.paid given) file.is ∙ sym (from_pair m c.args.file.now given file.read);
      delays_are = e.delays_are ∙ ap (λ (s : TriangleSet). if_accepted (refusal_number c.prepare_from.result) (delays_from m s.counts s.paid given) c.args.p.now) file.is;
    }
