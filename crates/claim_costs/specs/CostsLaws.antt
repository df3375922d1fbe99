-- Laws of Costs: in an accepted set every number that is divided is held exactly, and every divisor
-- is above zero. Assumes nothing.
use Rattle.std.specs.Prelude.{◌≡◌, List, ℕ, suc, ◌-◌, ◌≤◌, ◌<◌, T, ℤ, Float}
use Rattle.std.proofs.Common.{sym, ◌∙◌, arith}
use Rattle.std.proofs.Math.Path.{ap, ap₂}
use Rattle.std.specs.Float.Ieee.{nan}
use Rattle.std.specs.Float.Ieee.Positive.{positive}
use Rattle.model.specs.Lists.{at, listed}
use Rattle.model.specs.ListsLaws.{get_or_listed, listed_ext}
use Rattle.model.specs.Shares.{A, B, ultimate, ultimates}
use Rattle.model.specs.ClaimCosts.{quotient, no_float, mean_cost, factor, inflation, year_inflation, claim_costs}
use Rattle.model.specs.Records.{set_of}
use Rattle.model.specs.Questions.{first_no, of_shares}
use Rattle.model.specs.Calls.{read_refusal, accepted_claim_costs, refused_claim_costs, claim_costs_answer}
use Rattle.model.specs.CallsLaws.{if_accepted_lem, if_refused}
use Rattle.model.specs.declared.TriangleSet.{TriangleSet}
use Rattle.model.specs.declared.YearInflation.{YearInflation}
use Rattle.model.specs.declared.Inflation.TheVariants.{NoPaymentsYet}
use Rattle.ladder.specs.SharesLaws.{at_ultimates, A_pos}
use Rattle.ladder.specs.Sums.{a_sums, b_sums}
use Rattle.ladder.specs.SumsLaws.{A-small, B-small}
use Rattle.ladder.specs.UltimatesLaws.{ultimate_small, ultimate_pos, first_latest}
use Rattle.ladder.specs.LadderLaws.{at_a_sums, at_b_sums}
use Rattle.chain_ladder.specs.DevelopedLaws.{Shared, counts_sized, counts_rows, counts_sound, paid_sound, counts_bounds, paid_bounds}
use Rattle.chain_ladder.specs.SharesCall.{shares_first, shares_after}
use Rattle.claim_costs.specs.Costs.{Exact, AllExact, mean_costs, cost_at, inflation_of, costs_of_set}
use Rattle.claim_costs.specs.QuotientLaws.{quotient_positive}

-- of counts c and paid d that pass questions 9 to 11
module _ {m : ℕ} {c d : List ℤ} (h : Shared m c d) where
  abbrev most : m ≤ 20
  most = h.counts.small.few

  -- U(i) and N(i): N(i) is at least 1
  pub cost_exact : (i : ℕ) → 1 ≤ i → i ≤ m → Exact (ultimate m d i) (ultimate m c i)
  cost_exact i k l = record {
    over = omega (arith, ultimate_small m d h.paid.small (paid_bounds h) i k l);
    under = omega (arith, ultimate_small m c (counts_sized m c h.counts) (counts_bounds h) i k l);
    divisor = ultimate_pos m c (counts_sound h) i k l (counts_rows h i k l);
  }

  -- B(j) and A(j) of paid
  pub factor_exact : (j : ℕ) → 1 ≤ j → j < m → Exact (B m d j) (A m d j)
  factor_exact j k l = record {
    over = omega (arith, B-small m _ d h.paid.small j l);
    under = omega (arith, A-small m _ d h.paid.small j l);
    divisor = A_pos m d (paid_sound h) j k l;
  }

  -- the lists that are divided place by place
  pub costs_exact : {u n : List ℤ} → u ≡ ultimates m d → n ≡ ultimates m c → AllExact m u n
  costs_exact e f =
      record { few = most; places = λ k l. rw (e, f, at_ultimates m d most k l, at_ultimates m c most k l) (cost_exact (suc k) (omega arith) l) }

  pub factors_exact : {b a : List ℤ} → b ≡ b_sums m d → a ≡ a_sums m d → AllExact (m - 1) b a
  factors_exact e f =
      record { few = omega (arith, most); places = λ k l. rw (e, f, at_b_sums m d most k l, at_a_sums m d most k l) (factor_exact (suc k) (omega arith) (omega arith)) }

-- mu, which every ratio is divided by: year 1 has payments
pub mu_positive : (m : ℕ) (s : TriangleSet) → Shared m s.counts s.paid → T (positive (mean_cost m s 1))
unfolding mean_cost
mu_positive m s h =
    let two = h.counts.least in
    quotient_positive _ _ (cost_exact h 1 (omega arith) (omega arith))
    (ultimate_pos m s.paid (paid_sound h) 1 (omega arith) (omega arith) (first_latest m s.paid (paid_sound h) two))

-- ---- from the lists to the set
module _ (m : ℕ) (s : TriangleSet) (few : m ≤ 20) where
  pub costs_are : {u n : List ℤ} → u ≡ ultimates m s.paid → n ≡ ultimates m s.counts → listed 20 m (λ k. quotient (at u k) (at n k)) no_float ≡ mean_costs m s
  unfolding mean_costs mean_cost
  costs_are e f = rw (e, f) (listed_ext 20 m _ _ no_float (λ k h. ap₂ quotient (at_ultimates m s.paid few k h) (at_ultimates m s.counts few k h)))

  pub factors_are : {b a : List ℤ} → b ≡ b_sums m s.paid → a ≡ a_sums m s.paid → listed 20 (m - 1) (λ k. quotient (at b k) (at a k)) no_float ≡ (claim_costs m s).factors
  unfolding claim_costs factor
  factors_are e f = rw (e, f) (listed_ext 20 (m - 1) _ _ no_float (λ k h. ap₂ quotient (at_b_sums m s.paid few k h) (at_a_sums m s.paid few k h)))

  pub at_mean_costs : (k : ℕ) → k < m → cost_at (mean_costs m s) k ≡ mean_cost m s (suc k)
  unfolding mean_costs
  at_mean_costs k h = get_or_listed 20 m (λ k. mean_cost m s (suc k)) no_float k nan (omega arith) h

  pub inflations_are : 1 ≤ m → {u : List ℤ} {costs : List Float} → u ≡ ultimates m s.paid → costs ≡ mean_costs m s
      → listed 20 m (λ k. year_inflation (inflation_of (suc k) (at u k) (cost_at costs k) (cost_at costs 0))) (year_inflation NoPaymentsYet) ≡ (claim_costs m s).inflations
  unfolding claim_costs inflation inflation_of
  inflations_are some p q = listed_ext 20 m _ _ (year_inflation NoPaymentsYet) (λ k h. rw (p, q, at_ultimates m s.paid few k h, at_mean_costs k h, at_mean_costs 0 some))

-- ---- the answers by the refusal's number
module _ (m : ℕ) (s : TriangleSet) where
  abbrev asked : ℕ
  asked = first_no (of_shares m s.counts s.paid)

  pub set_no : (n : ℕ) → asked ≡ n → (n ≡ 0 → ⊥) → costs_of_set m s ≡ refused_claim_costs n
  unfolding costs_of_set
  set_no n e o = if_refused _ _ _ (λ z. o (sym e ∙ z)) ∙ ap refused_claim_costs e

  -- the claim costs by their parts
  pub set_yes : asked ≡ 0 → {line : ℕ} → line ≡ s.line → {mu : Float} {factors : List Float} {inflations : List YearInflation}
      → mu ≡ (claim_costs m s).mu → factors ≡ (claim_costs m s).factors → inflations ≡ (claim_costs m s).inflations
      → accepted_claim_costs line (record { mu = mu; factors = factors; inflations = inflations }) ≡ costs_of_set m s
  unfolding costs_of_set
  set_yes e l p q r = rw (l, p, q, r) (sym (if_accepted_lem _ _ _ e))

module _ (m : ℕ) (f : List ℕ) where
  pub file_no : (n : ℕ) → read_refusal m f ≡ n → (n ≡ 0 → ⊥) → claim_costs_answer m f ≡ refused_claim_costs n
  unfolding claim_costs_answer
  file_no n e o = let k = shares_first m f (λ z. o (sym e ∙ z)) ∙ e in if_refused _ _ _ (λ z. o (sym k ∙ z)) ∙ ap refused_claim_costs k

  pub file_yes : read_refusal m f ≡ 0 → claim_costs_answer m f ≡ costs_of_set m (set_of m f)
  unfolding claim_costs_answer costs_of_set
  file_yes e = rw (shares_after m f e)
