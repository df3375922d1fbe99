use Rattle.std.proofs.Common.{ℕ, suc, ◌≡◌, ◌-◌, Bool, true, List, ℤ}
use Rattle.model.specs.Lists.{every}
use Rattle.model.specs.Records.{cell, in_range}
use Rattle.set_file.proofs.questions.cells_ok.Given as goal

abbrev pub year_ok : ℕ → ℕ → List ℤ → ℕ → Bool
year_ok m t a k = every (m - k) (λ j. in_range t (cell a (suc k) j))

abbrev pub invariant-loop-k : goal.invariant-loop-k
invariant-loop-k l = every l.k (year_ok l.m l.kind l.cells) ≡ true
