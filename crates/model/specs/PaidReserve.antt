-- 01, Shares and Cell forecasts: what demand 3 compares, of a paid triangle t of size m and the
-- output of a forecast.
use Rattle.std.specs.Prelude.{ℕ, zero, suc, ◌+◌, ◌-◌, ◌≤◌, List, ℤ, pos, ◌+ℤ◌, ◌-ℤ◌, ◌*ℤ◌}
use Rattle.integers.specs.Parts.{◌⩽◌, ◌⋖◌}
use Rattle.integers.specs.Absolute.{∣◌∣}
use Rattle.integers.specs.Sums.{sum}
use Rattle.model.specs.Lists.{at}
use Rattle.model.specs.Rounding.{S}
use Rattle.model.specs.Shares.{latest, A, B, g}
use Rattle.model.specs.Cells.{place_of}

-- a fraction, as a pair of whole numbers
pub record Fraction : Type 0 where
  pub upper : ℤ
  pub lower : ℤ

-- z, x + y, x - y, x × y and x / y
abbrev pub whole : ℤ → Fraction
whole z = record { upper = z; lower = pos 1 }

abbrev pub plus : Fraction → Fraction → Fraction
plus x y = record { upper = x.upper *ℤ y.lower +ℤ y.upper *ℤ x.lower; lower = x.lower *ℤ y.lower }

abbrev pub minus : Fraction → Fraction → Fraction
minus x y = record { upper = x.upper *ℤ y.lower -ℤ y.upper *ℤ x.lower; lower = x.lower *ℤ y.lower }

abbrev pub times : Fraction → Fraction → Fraction
times x y = record { upper = x.upper *ℤ y.upper; lower = x.lower *ℤ y.lower }

abbrev pub over : Fraction → Fraction → Fraction
over x y = record { upper = x.upper *ℤ y.lower; lower = x.lower *ℤ y.upper }

-- the difference without its sign
abbrev pub distance : Fraction → Fraction → Fraction
distance x y = record { upper = ∣ (minus x y).upper ∣; lower = (minus x y).lower }

-- G(m-1-n), the share g(m-1-n) before any rounding: n steps down from S
unfoldable pub GDown : ℕ → List ℤ → ℕ → Fraction
GDown m t zero = whole S
GDown m t (suc n) = times (GDown m t n) (record { upper = A m t (m - 1 - n); lower = B m t (m - 1 - n) })

-- G(j), for j from 0 to m - 1
unfoldable pub G : ℕ → List ℤ → ℕ → Fraction
G m t j = GDown m t (m - 1 - j)

-- H, row i's ultimate before any rounding
unfoldable pub H : ℕ → List ℤ → ℕ → Fraction
H m t i = over (whole (latest m t i *ℤ S)) (G m t (m - i))

-- and what is left of it to pay
unfoldable pub reserve : ℕ → List ℤ → ℕ → Fraction
reserve m t i = minus (H m t i) (whole (latest m t i))

-- year i's sum: its RBNS and IBNR entries of the output up to delay m - 1
unfoldable pub year_sum : ℕ → List ℤ → ℕ → ℤ
year_sum m out i = sum m (λ j. at out (place_of m i j) +ℤ at out (place_of m i j + 1))

-- the bound, i + (i - 1) × H / g, with g that of row i's latest delay, m - i
unfoldable pub bound : ℕ → List ℤ → ℕ → Fraction
bound m t i = plus (whole (pos i)) (over (times (whole (pos (i - 1))) (H m t i)) (whole (g m t (m - i))))

-- x is at most y: both lower numbers are above zero, and the comparison is multiplied out
pub record AtMost (x y : Fraction) : Type 0 where
  pub left_lower : pos 0 ⋖ x.lower
  pub right_lower : pos 0 ⋖ y.lower
  pub multiplied_out : x.upper *ℤ y.lower ⩽ y.upper *ℤ x.lower

-- demand 3 of year i: its sum is no farther from the reserve than the bound
abbrev pub NearReserve : ℕ → List ℤ → List ℤ → ℕ → Type 0
NearReserve m t out i = AtMost (distance (whole (year_sum m out i)) (reserve m t i)) (bound m t i)

-- demand 3, of every year
abbrev pub NearReserves : ℕ → List ℤ → List ℤ → Type 0
NearReserves m t out = (i : ℕ) → 1 ≤ i → i ≤ m → NearReserve m t out i
