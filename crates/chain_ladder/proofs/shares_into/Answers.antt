-- `shares_into` meets its contract: the reader's questions, and then those of the chain ladder.
-- Assumes nothing.
use Rattle.std.proofs.Common.{◌≡◌, List, ℕ, ◌≤◌, ℤ, refl, sym, ap, ◌∙◌}
use Rattle.model.specs.Records.{set_of}
use Rattle.model.specs.Questions.{first_no, of_shares}
use Rattle.model.specs.Calls.{shares_refusal, shares_of, shares_answer}
use Rattle.model.specs.Lent.{triangle_in, lent_set, ReadInto}
use Rattle.model.specs.declared.TriangleSet.{TriangleSet}
use Rattle.model.specs.declared.SharesAnswer.{SharesAnswer}
use Rattle.chain_ladder.specs.Accepted.{Accepted, accepted}
use Rattle.chain_ladder.specs.Developed.{Developed}
use Rattle.chain_ladder.specs.SharesCall.{shares_first, shares_after, shares_yes, shares_refusal_lem}
use Rattle.chain_ladder.specs.DevelopedLaws.{Shared, shared_set, counts_ready, paid_ready}
use Rattle.ladder.specs.LadderLaws.{ladder_ready, ladder_shares, ladder_ultimates}
use Rattle.chain_ladder.specs.Valid.{counts_of, paid_of}
use Rattle.refusals.specs.RefusalsLaws.{not_accepted, handed_on}
use Rattle.chain_ladder.proofs.shares_into.Goals as goal
use Rattle.chain_ladder.proofs.shares_into.Goals.{In_ok-develop}

-- the file is accepted
module _ {m : ℕ} {f : List ℕ} {lent : List ℤ} (ok : ReadInto m f 0 lent) where
  read : Accepted m f (lent_set (set_of m f) lent)
  read = accepted m f ok refl

  -- the questions of the lent set are those of the file's
  asked : {n : ℕ} {cl cg dl dg : List ℤ} → Developed m lent n cl cg dl dg → shares_refusal m f ≡ n
  asked d =
      shares_after m f read.read
      ∙ ap (λ (s : TriangleSet). first_no (of_shares m s.counts s.paid)) (sym read.is)
      ∙ sym d.refusal

  -- and so is its set
  module _ {cl cg dl dg : List ℤ} (d : Developed m lent 0 cl cg dl dg) where
    shared : Shared m (triangle_in 0 lent) (triangle_in 1 lent)
    shared = shared_set m (lent_set (set_of m f) lent) read.valid (sym d.refusal)

    few : m ≤ 20
    few = shared.counts.small.few

    answer_is : shares_of m (lent_set (set_of m f) lent) ≡ shares_answer m f
    answer_is = ap (shares_of m) read.is ∙ sym (shares_yes m f (asked d))

pub returns-in_err-read_cells-clause-value : goal.returns-in_err-read_cells-clause-value
returns-in_err-read_cells-clause-value c =
    let e = c.in_err-read_cells.ensures.result in
    handed_on _ _ c.from_residual.ensures.1 ∙ e ∙ sym (shares_refusal_lem _ _ ∙ shares_first _ _ (λ z. not_accepted _ (e ∙ z)))

pub develop-requires-clause-amounts : goal.develop-requires-clause-amounts
develop-requires-clause-amounts c = let v = (read c.in_ok-read_cells.ensures).valid in (counts_of _ _ v, paid_of _ _ v)

pub returns-in_err-develop-clause-value : goal.returns-in_err-develop-clause-value
returns-in_err-develop-clause-value c =
    handed_on _ _ c.from_residual-in_err-develop.ensures.1 ∙ sym (shares_refusal_lem _ _ ∙ asked c.in_ok-read_cells.ensures c.in_err-develop.ensures)

pub shares-requires : goal.shares-requires
shares-requires c = (ladder_ready (c.in_ok-develop.ensures.counts refl) (counts_ready (shared c.in_ok-read_cells.ensures c.in_ok-develop.ensures))).bounds

pub ultimates-requires : goal.ultimates-requires
ultimates-requires c = ladder_ready (c.in_ok-develop.ensures.counts refl) (counts_ready (shared c.in_ok-read_cells.ensures c.in_ok-develop.ensures))

pub shares-requires-2 : goal.shares-requires-2
shares-requires-2 c = (ladder_ready (c.in_ok-develop.ensures.paid refl) (paid_ready (shared c.in_ok-read_cells.ensures c.in_ok-develop.ensures))).bounds

pub ultimates-requires-2 : goal.ultimates-requires-2
ultimates-requires-2 c = ladder_ready (c.in_ok-develop.ensures.paid refl) (paid_ready (shared c.in_ok-read_cells.ensures c.in_ok-develop.ensures))

pub returns-clause-value : goal.returns-clause-value
returns-clause-value c = sym (shares_refusal_lem _ _ ∙ asked c.in_ok-read_cells.ensures c.in_ok-develop.ensures)

pub returns-clause-b_after : goal.returns-clause-b_after
unfolding shares_of
returns-clause-b_after c =
    c.shares.ensures ∙ ladder_shares (c.in_ok-develop.ensures.counts refl) (few c.in_ok-read_cells.ensures c.in_ok-develop.ensures)
    ∙ ap (λ (x : SharesAnswer). x.b) (answer_is c.in_ok-read_cells.ensures c.in_ok-develop.ensures)

pub returns-clause-n_after : goal.returns-clause-n_after
unfolding shares_of
returns-clause-n_after c =
    c.ultimates.ensures ∙ ladder_ultimates (c.in_ok-develop.ensures.counts refl) (few c.in_ok-read_cells.ensures c.in_ok-develop.ensures)
    ∙ ap (λ (x : SharesAnswer). x.n) (answer_is c.in_ok-read_cells.ensures c.in_ok-develop.ensures)

pub returns-clause-q_after : goal.returns-clause-q_after
unfolding shares_of
returns-clause-q_after c =
    c.shares-2.ensures ∙ ladder_shares (c.in_ok-develop.ensures.paid refl) (few c.in_ok-read_cells.ensures c.in_ok-develop.ensures)
    ∙ ap (λ (x : SharesAnswer). x.q) (answer_is c.in_ok-read_cells.ensures c.in_ok-develop.ensures)

pub returns-clause-g_after : goal.returns-clause-g_after
unfolding shares_of
returns-clause-g_after c = (c.in_ok-develop.ensures.paid refl).g_is ∙ ap (λ (x : SharesAnswer). x.g) (answer_is c.in_ok-read_cells.ensures c.in_ok-develop.ensures)

pub returns-clause-u_after : goal.returns-clause-u_after
unfolding shares_of
returns-clause-u_after c =
    c.ultimates-2.ensures ∙ ladder_ultimates (c.in_ok-develop.ensures.paid refl) (few c.in_ok-read_cells.ensures c.in_ok-develop.ensures)
    ∙ ap (λ (x : SharesAnswer). x.u) (answer_is c.in_ok-read_cells.ensures c.in_ok-develop.ensures)
