-- A law of Cells: which delays the output is made of. Assumes nothing.
use Rattle.std.specs.Prelude.{◌≡◌, Bool, ◌&&◌, ℕ, ◌-◌, ◌<◌, ℤ, ◌*ℤ◌}
use Rattle.std.proofs.Common.{ltb-true}
use Rattle.std.proofs.Math.Path.{ap}
use mathlib.Core.List.{List, ◌++◌}
use Rattle.std.proofs.Math.Dec.{leb, ltb}
use Rattle.std.proofs.Math.ListN.{drop}
use Rattle.integers.specs.Sums.{sum_cong}
use Rattle.model.specs.Lists.{at}
use Rattle.model.specs.ListsLaws.{tabulate_ext, and_right}
use Rattle.model.specs.Tests.{by_test}
use Rattle.model.specs.Shares.{b_list}
use Rattle.model.specs.Cells.{year_of, delay_of, size, s_list, pairs, rbns_from, ibnr_from, rbns, ibnr, entry, entries, output_from}
use Rattle.model.specs.declared.TriangleSet.{TriangleSet}

-- delays that agree at the places below m give the same output
module _ (m : ℕ) (p p' : List ℤ) (same : (k : ℕ) → k < m → at p k ≡ at p' k) where
  same_pairs : (j : ℕ) (ok : ℕ → Bool) (x : List ℤ) → pairs m j ok x p ≡ pairs m j ok x p'
  unfolding pairs
  same_pairs j ok x =
      sum_cong m
      (λ k _. by_test (ok k && leb k j && ltb (j - k) m) (λ t. rw t (ap (λ (y : ℤ). at x k *ℤ y) (same (j - k) (ltb-true (j - k) m (and_right (ok k && leb k j) (ltb (j - k) m) t))))) (λ t. rw t))

  module _ (s : TriangleSet) (method basis : ℕ) where
    same_rbns : (i j : ℕ) → rbns m s p method basis i j ≡ rbns m s p' method basis i j
    unfolding rbns rbns_from
    same_rbns i j = rw (same_pairs j (λ k. leb k (m - i)) (s_list m s basis i))

    same_ibnr : (i j : ℕ) → ibnr m s p method i j ≡ ibnr m s p' method i j
    unfolding ibnr ibnr_from
    same_ibnr i j = rw (same_pairs j (λ k. ltb (m - i) k) (b_list m s.counts))

    same_entry : (e : ℕ) → entry m s p method basis e ≡ entry m s p' method basis e
    unfolding entry
    same_entry e = rw (same_rbns (year_of m e) (delay_of m e), same_ibnr (year_of m e) (delay_of m e))

    pub same_output : (before : List ℤ) → output_from m s p method basis before ≡ output_from m s p' method basis before
    unfolding output_from entries
    same_output before =
        ap (λ (l : List ℤ). l ++ drop (size m) before) (tabulate_ext (size m) (entry m s p method basis) (entry m s p' method basis) (λ e _. same_entry e))
