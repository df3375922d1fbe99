-- Row bases and leftovers from a year's numbers: the ultimates u of paid and w of incurred, the
-- latest paid sum c, and u1 and w1 of year 1.
use Rattle.std.specs.Prelude.{ℕ, ◌*◌, ◌^◌, ◌≤◌, ◌<◌, ◌≡◌, true, false, ◌&&◌, cond, List, eqb, leb, ℤ, pos, nat_abs, ◌-ℤ◌, ◌*ℤ◌, Option, MatchOption}
use Rattle.integers.specs.Parts.{◌⩽◌, ◌⋖◌}
use Rattle.model.specs.Lists.{at, listed, every}
use Rattle.model.specs.Rounding.{r}
use Rattle.model.specs.RowBases.{is_zero}
use Rattle.row_bases.specs.declared.Method.{Method}
use Rattle.row_bases.specs.declared.Method.TheVariants.{Dcl, Bdcl, Idcl}

-- the number of a method, as a call gives it
abbrev pub number : Method → ℕ
number Dcl = 0
number Bdcl = 1
number Idcl = 2

-- V, by method: u; r(u1 × w / w1); r(u × (w - c) / (u - c)), or u where u - c is 0
unfoldable pub base_from : ℕ → ℤ → ℤ → ℤ → ℤ → ℤ → ℤ
base_from method u1 w1 u w c =
    cond (eqb method 1) (r (u1 *ℤ w) w1) (cond (eqb method 2) (cond (is_zero (u -ℤ c)) u (r (u *ℤ (w -ℤ c)) (u -ℤ c))) u)

-- the leftover: w - c under method 2 where u - c is 0
unfoldable pub left_from : ℕ → ℤ → ℤ → ℤ → ℤ
left_from method u w c = cond (eqb method 2 && is_zero (u -ℤ c)) (w -ℤ c) (pos 0)

-- what an accepted set gives of a year: no number is negative or above 2 × 10^14, and c is at most
-- u
pub record Year (method : ℕ) (u w c : ℤ) : Type 0 where
  pub known : method ≤ 2
  pub high : (nat_abs u ≤ 2 * 10 ^ 14) × (nat_abs w ≤ 2 * 10 ^ 14)
  pub low : pos 0 ⩽ w
  pub paid : (pos 0 ⩽ c) × (c ⩽ u)

-- and of year 1: BDCL's divisor is above zero
pub record Sizes (method : ℕ) (u1 w1 u w c : ℤ) : Type 0 where
  pub first : nat_abs u1 ≤ 2 * 10 ^ 14
  pub divisor : method ≡ 1 → pos 0 ⋖ w1
  pub divisor_high : nat_abs w1 ≤ 2 * 10 ^ 14
  pub year : Year method u w c

-- of the years 1 to m, year i at place i - 1
module _ (m method : ℕ) (u c w : List ℤ) where
  abbrev pub base_at : ℕ → ℤ
  base_at k = base_from method (at u 0) (at w 0) (at u k) (at w k) (at c k)

  abbrev pub left_at : ℕ → ℤ
  left_at k = left_from method (at u k) (at w k) (at c k)

  abbrev pub AllSizes : Type 0
  AllSizes = (k : ℕ) → k < m → Sizes method (at u 0) (at w 0) (at u k) (at w k) (at c k)

  -- the list of the bases, where each is within question 14's range
  abbrev pub Bases : Option (List ℤ) → Type 0
  Bases given =
      MatchOption given (every m (λ k. leb (nat_abs (base_at k)) (2 * 10 ^ 14)) ≡ false)
      (λ v. (every m (λ k. leb (nat_abs (base_at k)) (2 * 10 ^ 14)) ≡ true) × (v ≡ listed 20 m base_at (pos 0)))
