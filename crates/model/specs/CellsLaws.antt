-- Laws of Cells: how many entries there are, and where a cell stands in the output. Which delays it
-- is made of is SameDelays of proofs/. Assumes nothing.
use Rattle.std.specs.Prelude.{◌≡◌, ℕ, ◌+◌, ◌-◌, ◌*◌, ◌/◌, ◌%◌, ◌≤◌, ◌<◌, ℤ, pos}
use Rattle.std.proofs.Common.{◌∙◌, mul_assoc, mul-le-mul}
use mathlib.Core.List.{List}
use native.Mathlib.Omega.{arith}
use Rattle.std.proofs.Math.Arith.{digits_div, digits_mod, digits_lt}
use Rattle.std.proofs.Math.ListN.{drop, get_or-append}
use Rattle.model.specs.Lists.{at}
use Rattle.model.specs.ListsLaws.{length_tabulate, get_d_tabulate}
use Rattle.model.specs.Cells.{place_of, size, rbns, ibnr, entry, entries, output_from}
use Rattle.model.specs.declared.TriangleSet.{TriangleSet}

-- 1560 entries are room for every m
pub size_most : (m : ℕ) → m ≤ 20 → size m ≤ 1560
size_most m h = let a : 2 * m ≤ 40 = omega arith in let b : 2 * m - 1 ≤ 39 = omega arith in mul-le-mul a b

-- an entry as it is written
pub written : (m : ℕ) (s : TriangleSet) (p : List ℤ) (method basis : ℕ) (before : List ℤ) (e : ℕ) → e < size m → at (output_from m s p method basis before) e ≡ entry m s p method basis e
unfolding output_from entries
written m s p method basis before e u =
    get_or-append (entries m s p method basis) (drop (size m) before) (pos 0) e (rw (length_tabulate (size m) (entry m s p method basis)) u)
    ∙ get_d_tabulate (size m) (entry m s p method basis) e (pos 0) u

-- the year and the delay of cell n = (i - 1) × (2m - 1) + j
module _ (m i j : ℕ) (h : 1 ≤ i) (k : j < 2 * m - 1) where
  abbrev n : ℕ
  n = (i - 1) * (2 * m - 1) + j

  year_is_lem : n / (2 * m - 1) + 1 ≡ i
  year_is_lem = let d : n / (2 * m - 1) ≡ i - 1 = digits_div (i - 1) k in omega arith

  delay_is_lem : n % (2 * m - 1) ≡ j
  delay_is_lem = digits_mod (i - 1) k

  -- its two entries
  module _ (s : TriangleSet) (p : List ℤ) (method basis : ℕ) where
    pub entry_rbns : entry m s p method basis (place_of m i j) ≡ rbns m s p method basis i j
    unfolding entry
    entry_rbns =
        let e : 2 * n % 2 ≡ 0 = omega arith in
        let d : 2 * n / 2 ≡ n = omega arith in
        rw (e, d, year_is_lem, delay_is_lem)

    pub entry_ibnr : entry m s p method basis (place_of m i j + 1) ≡ ibnr m s p method i j
    unfolding entry
    entry_ibnr =
        let e : (2 * n + 1) % 2 ≡ 1 = omega arith in
        let d : (2 * n + 1) / 2 ≡ n = omega arith in
        rw (e, d, year_is_lem, delay_is_lem)

  pub place_inside : i ≤ m → place_of m i j + 1 < size m
  place_inside l =
      let a : i - 1 < m = omega arith in
      let b : n < m * (2 * m - 1) = digits_lt a k in
      let c : 2 * m * (2 * m - 1) ≡ 2 * (m * (2 * m - 1)) = mul_assoc 2 m (2 * m - 1) in
      omega arith

  -- as they are written
  module _ (s : TriangleSet) (p : List ℤ) (method basis : ℕ) (before : List ℤ) (l : i ≤ m) where
    pub written_rbns : at (output_from m s p method basis before) (place_of m i j) ≡ rbns m s p method basis i j
    written_rbns = let u = place_inside l in written m s p method basis before (place_of m i j) (omega arith) ∙ entry_rbns s p method basis

    pub written_ibnr : at (output_from m s p method basis before) (place_of m i j + 1) ≡ ibnr m s p method i j
    written_ibnr = written m s p method basis before (place_of m i j + 1) (place_inside l) ∙ entry_ibnr s p method basis
