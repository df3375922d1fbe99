-- `claim_costs_of_set` meets its contract: the questions of the shares, and then the quotients.
-- Assumes nothing.
use Rattle.std.proofs.Common.{◌≡◌, refl, sym, ◌∙◌, ap, subst, List, ℕ, ◌^◌, ◌≤◌, arith, T, ℤ, pos, Float}
use Rattle.std.specs.Float.Ieee.Positive.{positive}
use Rattle.model.specs.Lists.{at, listed}
use Rattle.model.specs.Shares as Shares
use Rattle.model.specs.ClaimCosts.{quotient, no_float, mean_cost, claim_costs}
use Rattle.model.specs.Calls.{no_set}
use Rattle.model.specs.Lent.{lent_set, triangle_in}
use Rattle.model.specs.declared.TriangleSet.{TriangleSet}
use Rattle.ladder.specs.Ladder.{Ready, grown}
use Rattle.ladder.specs.LadderLaws.{ladder_ready, ladder_ultimates}
use Rattle.chain_ladder.specs.Valid.{Amounts}
use Rattle.chain_ladder.specs.Developed.{Developed}
use Rattle.chain_ladder.specs.DevelopedLaws.{Shared, counts_ready, paid_ready}
use Rattle.refusals.specs.RefusalsLaws.{not_accepted}
use Rattle.claim_costs.specs.Costs.{mean_costs, cost_at, AllExact}
use Rattle.claim_costs.specs.CostsLaws.{mu_positive, costs_exact, factors_exact, costs_are, factors_are, at_mean_costs, inflations_are, set_no, set_yes}
use Rattle.claim_costs.proofs.claim_costs_of_set.Goals as goal

-- a set that is accepted
module _ {m : ℕ} {set cl cg dl dg : List ℤ} (a : Amounts m (10 ^ 7) (triangle_in 0 set) × Amounts m (10 ^ 10) (triangle_in 1 set)) (d : Developed m set 0 cl cg dl dg) where
  passed : Shared m (triangle_in 0 set) (triangle_in 1 set)
  passed = record { counts = a.0; paid = a.1; asked = sym d.refusal }

  least_size : 1 ≤ m
  least_size = let l = a.0.least in omega arith

  most_size : m ≤ 20
  most_size = a.0.small.few

  counts_made : Ready m cl cg
  counts_made = ladder_ready (d.counts refl) (counts_ready passed)

  paid_made : Ready m dl dg
  paid_made = ladder_ready (d.paid refl) (paid_ready passed)

  -- its ultimates
  n_is : {n : List ℤ} → n ≡ listed 20 m (grown m cl cg) (pos 0) → n ≡ Shares.ultimates m (triangle_in 0 set)
  n_is e = e ∙ ladder_ultimates (d.counts refl) most_size

  u_is : {u : List ℤ} → u ≡ listed 20 m (grown m dl dg) (pos 0) → u ≡ Shares.ultimates m (triangle_in 1 set)
  u_is e = e ∙ ladder_ultimates (d.paid refl) most_size

  -- its mean costs, and mu
  module _ {n u : List ℤ} (n_made : n ≡ listed 20 m (grown m cl cg) (pos 0)) (u_made : u ≡ listed 20 m (grown m dl dg) (pos 0)) where
    exact : AllExact m u n
    exact = costs_exact passed (u_is u_made) (n_is n_made)

    module _ {costs : List Float} (made : costs ≡ listed 20 m (λ k. quotient (at u k) (at n k)) no_float) where
      costs_is : (like : TriangleSet) → costs ≡ mean_costs m (lent_set like set)
      costs_is like = made ∙ costs_are m (lent_set like set) most_size (u_is u_made) (n_is n_made)

      mu_is : (like : TriangleSet) → cost_at costs 0 ≡ mean_cost m (lent_set like set) 1
      mu_is like = ap (λ (l : List Float). cost_at l 0) (costs_is like) ∙ at_mean_costs m (lent_set like set) most_size 0 least_size

      mu_above : T (positive (cost_at costs 0))
      mu_above = subst (λ (x : Float). T (positive x)) (sym (mu_is no_set)) (mu_positive m (lent_set no_set set) passed)

pub returns-in-Err : goal.returns-in-Err
returns-in-Err c like _ =
    rw (c.refused.ensures, c.from.ensures) (sym (set_no c.args.m (lent_set like c.args.set.now) _ (sym c.in-Err.ensures.refusal) (not_accepted c.in-Err.refusal)))

pub ultimates-n-requires : goal.ultimates-n-requires
ultimates-n-requires c = counts_made c.requires c.in_default.ensures

pub ultimates-u-requires : goal.ultimates-u-requires
ultimates-u-requires c = paid_made c.requires c.in_default.ensures

pub quotients-costs-requires : goal.quotients-costs-requires
quotients-costs-requires c = exact c.requires c.in_default.ensures c.ultimates-n.ensures c.ultimates-u.ensures

pub quotients-factors-requires : goal.quotients-factors-requires
quotients-factors-requires c = factors_exact (passed c.requires c.in_default.ensures) c.sums.ensures.b_after c.sums.ensures.a_after

pub inflations-requires : goal.inflations-requires
inflations-requires c =
    (most_size c.requires c.in_default.ensures, mu_above c.requires c.in_default.ensures c.ultimates-n.ensures c.ultimates-u.ensures c.quotients-costs.ensures)

pub returns : goal.returns
unfolding claim_costs
returns c like line =
    let s = lent_set like c.args.set.now in
    let d = c.in_default.ensures in
    let few = most_size c.requires d in
    let n = c.ultimates-n.ensures in
    let u = c.ultimates-u.ensures in
    set_yes c.args.m s (passed c.requires d).asked line (mu_is c.requires d n u c.quotients-costs.ensures like)
    (c.quotients-factors.ensures ∙ factors_are c.args.m s few c.sums.ensures.b_after c.sums.ensures.a_after)
    (c.inflations.ensures ∙ inflations_are c.args.m s few (least_size c.requires d) (u_is c.requires d u) (costs_is c.requires d n u c.quotients-costs.ensures like))
