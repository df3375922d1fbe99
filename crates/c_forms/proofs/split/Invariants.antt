-- The kinds and the ratios so far are made.
use Rattle.std.proofs.Common.{◌≡◌}
use Rattle.model.specs.Lists.{listed}
use Rattle.model.specs.ClaimCosts.{no_float}
use Rattle.c_forms.specs.Inflations.{kind_of, ratio_of, inflation_at}
use Rattle.c_forms.proofs.split.Given as goal

abbrev pub invariant-loop-k : goal.invariant-loop-k
invariant-loop-k l = record {
  kinds_made : l.kinds ≡ listed 20 l.k (λ k. kind_of (inflation_at l.inflations k)) 0;
  ratios_made : l.ratios ≡ listed 20 l.k (λ k. ratio_of (inflation_at l.inflations k)) no_float;
}
