-- The cells of a calendar year, one in each row of the output from its first on, and the tally
-- filled year by year. Assumes nothing.
use Rattle.std.specs.Prelude.{◌≡◌, refl, true, cond, List, eqb, ltb, pos, nat_abs, ◌+ℤ◌, length}
use Rattle.std.proofs.Common.{sym, ◌∙◌, ap₂, zero-mul, mul_assoc, mul_comm, mul-suc, suc-mul, add-mul, eq-eqb, ne_eqb, ltb-true, ltb-false, le-leb}
use Rattle.std.proofs.Math.Path.{ap}
use Prim.Native.Nat.{ℕ, zero, suc, ◌+◌, ◌-◌, ◌*◌, ◌^◌, ◌≤◌, ◌<◌}
use native.Mathlib.Omega.{arith}
use Rattle.std.proofs.Math.Arith.{digits_div, digits_mod, digits_lt}
use Rattle.std.proofs.Math.IntN.{ℤ, +ℤ_idl}
use Rattle.std.proofs.Math.ListN.{get_or-eq_default}
use Rattle.integers.specs.Sums.{sum, sum_cong, sum_nothing, sum_split, sum_zero, sum_suc, sum_ends, sum_nat_abs}
use Rattle.model.specs.Tests.{by_test}
use Rattle.model.specs.Lists.{tabulate, listed, at}
use Rattle.model.specs.ListsLaws.{length_tabulate, get_d_tabulate, tabulate_ext, get_or_listed_past, listed_none, listed_next}
use Rattle.model.specs.Cells.{size}
use Rattle.model.specs.Calendar.{calendar_year, empty_tally, tally_of}
use Rattle.year_tally.specs.TallyAdd.{fits64, tally_add}
use Rattle.year_tally.specs.TallyAddLaws.{fits_so}
use Rattle.arithmetic.specs.Spaced as Arithmetic
use Rattle.year_tally.specs.declared.Tally.{Tally}
use Rattle.tally.specs.YearSums.{cells, entry_at, year_sum, tally_in, Small, small_entry, below_fits, none_lost}

-- n entries that stand d places apart, from place a on, lie within the list, and no running total
-- of them leaves 64 bits
pub record Spaced (a d n : ℕ) (xs : List ℤ) : Type 0 where
  pub places : (k : ℕ) → k < n → a + d * k < length xs
  pub fits : (k : ℕ) → k ≤ n → fits64 (sum k (λ i. at xs (a + d * i))) ≡ true

-- such entries have a sum (`arithmetic`)
pub evenly : {a d n : ℕ} {xs : List ℤ} → Spaced a d n xs → Arithmetic.Spaced a d n xs
evenly s = record { places = s.places; fits = λ k l. fits_so _ (s.fits k l) }

-- entries one place apart
pub total_is : (n : ℕ) (xs : List ℤ) → sum n (λ k. at xs (0 + 1 * k)) ≡ sum n (at xs)
total_is n xs = sum_cong n (λ k l. let e : 0 + 1 * k ≡ k = omega arith in ap (at xs) e)

pub total_spaced : (n : ℕ) (xs : List ℤ) → n ≤ length xs → ((k : ℕ) → k ≤ n → fits64 (sum k (at xs)) ≡ true) → Spaced 0 1 n xs
total_spaced n xs h f = record { places = λ k l. omega arith; fits = λ k l. rw (total_is k xs) (f k l) }

-- the sum of calendar year k + 1, of the RBNS entries (kind 0) or the IBNR entries (kind 1)
abbrev pub yearly : ℕ → ℕ → List ℤ → ℕ → ℤ
yearly m kind out k = year_sum m (entry_at kind out) (cells m) (suc k)

-- ---- sums

-- by rows of w
rows : (m w : ℕ) (g : ℕ → ℤ) → sum (m * w) g ≡ sum m (λ r. sum w (λ j. g (r * w + j)))
rows zero w g = rw zero-mul (sum_zero g ∙ sym (sum_zero (λ r. sum w (λ j. g (r * w + j)))))
rows (suc m) w g =
    rw (suc-mul m w, sum_split (m * w) w g, rows m w g, sum_suc m (λ r. sum w (λ j. g (r * w + j))))

-- all terms but one are 0
only : (n j : ℕ) (g : ℕ → ℤ) → j < n → ((i : ℕ) → i < n → (i ≡ j → ⊥) → g i ≡ pos 0) → sum n g ≡ g j
only n j g h z =
    sum_ends (suc j) n g h (λ i l k. z i k (λ e. omega arith)) ∙ sum_suc j g
    ∙ ap (λ (x : ℤ). x +ℤ g j) (sum_nothing j (λ i l. z i (omega arith) (λ e. omega arith))) ∙ +ℤ_idl (g j)

-- ---- the cells of calendar year k + 1

-- the cell in row r
abbrev cell_in : ℕ → ℕ → ℕ → ℕ
cell_in m k r = r * (2 * m - 1) + (m + k - r)

module _ (m : ℕ) (f : ℕ → ℤ) (k : ℕ) where
  abbrev term : ℕ → ℤ
  term c = cond (eqb (calendar_year m c) (suc k)) (f c) (pos 0)

  year_is_lem : (r j : ℕ) → j < 2 * m - 1 → calendar_year m (r * (2 * m - 1) + j) ≡ r + 1 + j - m
  year_is_lem r j h = rw (digits_div r h, digits_mod r h)

  not_there : (r j : ℕ) → r < m → j < 2 * m - 1 → (j ≡ m + k - r → ⊥) → term (r * (2 * m - 1) + j) ≡ pos 0
  not_there r j l h o = rw (ne_eqb (calendar_year m (r * (2 * m - 1) + j)) (suc k) (λ e. o (omega (arith, year_is_lem r j h))))

  row_one : (r : ℕ) → r < m → k + 2 - m ≤ r → sum (2 * m - 1) (λ j. term (r * (2 * m - 1) + j)) ≡ f (cell_in m k r)
  row_one r l h =
      let i : m + k - r < 2 * m - 1 = omega arith in
      let y : calendar_year m (cell_in m k r) ≡ suc k = year_is_lem r (m + k - r) i ∙ omega arith in
      only (2 * m - 1) (m + k - r) (λ j. term (r * (2 * m - 1) + j)) i (λ j. not_there r j l) ∙ rw (eq-eqb (calendar_year m (cell_in m k r)) (suc k) y)

  row_none : (r : ℕ) → r < m → r < k + 2 - m → sum (2 * m - 1) (λ j. term (r * (2 * m - 1) + j)) ≡ pos 0
  row_none r l h = sum_nothing (2 * m - 1) (λ j u. not_there r j l u (λ e. omega arith))

  -- one in each row from the row k + 2 - m on
  by_rows : k < 2 * m - 2 → year_sum m f (cells m) (suc k) ≡ sum (m - (k + 2 - m)) (λ i. f (cell_in m k (k + 2 - m + i)))
  unfolding year_sum
  by_rows h =
      let a = k + 2 - m in
      let e : m ≡ a + (m - a) = omega arith in
      let R : ℕ → ℤ = λ r. sum (2 * m - 1) (λ j. term (r * (2 * m - 1) + j)) in
      rows m (2 * m - 1) term ∙ ap (λ (n : ℕ). sum n R) e ∙ sum_split a (m - a) R
      ∙ ap (λ (x : ℤ). x +ℤ sum (m - a) (λ i. R (a + i))) (sum_nothing a (λ r l. row_none r (omega arith) l))
      ∙ +ℤ_idl (sum (m - a) (λ i. R (a + i)))
      ∙ sum_cong (m - a) (λ i l. row_one (a + i) (omega arith) (omega arith))

  -- none past year 2m - 2
  past : 2 * m - 2 ≤ k → year_sum m f (cells m) (suc k) ≡ pos 0
  unfolding year_sum
  past h = rows m (2 * m - 1) term ∙ sum_nothing m (λ r l. row_none r l (omega arith))

-- ---- as entries of the output

-- from one row to the next the cells stand w - 1 apart
apart : (a w r i kind : ℕ) → 1 ≤ w → r + i ≤ a → 2 * (r * w + (a - r)) + kind + 2 * (w - 1) * i ≡ 2 * ((r + i) * w + (a - (r + i))) + kind
apart a zero r i kind o h = absurd (let z : ⊥ = omega arith in z)
apart a (suc y) r i kind o h =
    let e : suc y - 1 ≡ y = omega arith in
    rw (e, add-mul r i (suc y), mul-suc i y, mul_assoc 2 y i, mul_comm y i) (omega arith)

module _ (m : ℕ) (out : List ℤ) (k kind : ℕ) (h : k < 2 * m - 2) where
  abbrev row : ℕ
  row = k + 2 - m

  abbrev place : ℕ → ℕ
  place i = 2 * cell_in m k row + kind + 2 * (2 * m - 1 - 1) * i

  place_is : (i : ℕ) → row + i < m → place i ≡ 2 * cell_in m k (row + i) + kind
  place_is i u = apart (m + k) (2 * m - 1) row i kind (omega arith) (omega arith)

  pub inside : (r : ℕ) → row ≤ r → r < m → cell_in m k r < cells m
  inside r u v = let w : m + k - r < 2 * m - 1 = omega arith in digits_lt v w

  pub year_spaced : sum (m - row) (λ i. at out (place i)) ≡ yearly m kind out k
  year_spaced =
      sum_cong (m - row) (λ i u. ap (at out) (place_is i (omega arith)))
      ∙ sym (by_rows m (entry_at kind out) k h)

  pub spaced : m ≤ 20 → kind ≤ 1 → Small m out → size m ≤ length out → Spaced (2 * cell_in m k row + kind) (2 * (2 * m - 1 - 1)) (m - row) out
  spaced few l small room =
      record {
        places = λ i u. rw (place_is i (omega arith)) (omega (arith, inside (row + i) (omega arith) (omega arith), mul_assoc 2 m (2 * m - 1)));
        fits = λ n u. below_fits _ (omega (arith, sum_nat_abs n (2 * 10 ^ 15) (λ i. at out (place i)) (λ i v. rw (place_is i (omega arith)) (small_entry m out small kind l (cell_in m k (row + i)) (inside (row + i) (omega arith) (omega arith))))));
      }

-- ---- how large a year gets

-- one cell in each row at most, each at most 2 × 10^15
year_most : (m : ℕ) (out : List ℤ) (k kind : ℕ) → m ≤ 20 → kind ≤ 1 → Small m out → nat_abs (yearly m kind out k) ≤ 4 * 10 ^ 16
year_most m out k kind few l small =
    by_test (ltb k (2 * m - 2))
    (λ e.
    let h = ltb-true k (2 * m - 2) e in
    let a = k + 2 - m in
    let n : m - a ≤ 20 = omega arith in
    rw (by_rows m (entry_at kind out) k h)
    (omega (
      arith,
      sum_nat_abs (m - a) (2 * 10 ^ 15) (λ i. entry_at kind out (cell_in m k (a + i))) (λ i u. small_entry m out small kind l (cell_in m k (a + i)) (inside m out k kind h (a + i) (omega arith) (omega arith))),
    )))
    (λ e. rw (past m (entry_at kind out) k (ltb-false k (2 * m - 2) e)) (omega arith))

-- every number of a list of years is at most that
abbrev pub Modest : List ℤ → Type 0
Modest xs = (k : ℕ) → nat_abs (at xs k) ≤ 4 * 10 ^ 16

years_modest : (f : ℕ → ℤ) → ((k : ℕ) → nat_abs (f k) ≤ 4 * 10 ^ 16) → Modest (tabulate 38 f)
years_modest f h k =
    by_test (ltb k 38) (λ e. rw (get_d_tabulate 38 f k (pos 0) (ltb-true k 38 e)) (h k))
    (λ e. rw (get_or-eq_default (tabulate 38 f) (pos 0) (let u : length (tabulate 38 f) ≤ k = omega (arith, length_tabulate 38 f, ltb-false k 38 e) in u)) (omega arith))

pub tally_modest : (m : ℕ) (out : List ℤ) → m ≤ 20 → Small m out → Modest (tally_of m out).rbns × Modest (tally_of m out).ibnr
tally_modest m out few small =
    rw (none_lost m out few small)
    (years_modest (yearly m 0 out) (λ k. year_most m out k 0 few (omega arith) small), years_modest (yearly m 1 out) (λ k. year_most m out k 1 few (omega arith) small))

-- ---- the tally by years

-- a list whose places from m on would be d too
filled : {A : Type 0} (n m : ℕ) (f : ℕ → A) (d : A) → ((k : ℕ) → m ≤ k → f k ≡ d) → listed n m f d ≡ tabulate n f
unfolding listed
filled n m f d h = tabulate_ext n (λ k. cond (ltb k m) (f k) d) f (λ k l. by_test (ltb k m) (λ e. rw e) (λ e. rw e (sym (h k (ltb-false k m e)))))

-- calendar years 1 to n of the tally of an output
abbrev pub years_to : ℕ → List ℤ → ℕ → Tally
years_to m out n = tally_in (listed 38 n (yearly m 0 out) (pos 0)) (listed 38 n (yearly m 1 out) (pos 0))

pub no_years : (m : ℕ) (out : List ℤ) → empty_tally ≡ years_to m out 0
no_years m out = ap₂ tally_in (listed_none 38 (yearly m 0 out) (pos 0)) (listed_none 38 (yearly m 1 out) (pos 0))

pub all_years : (m : ℕ) (out : List ℤ) → m ≤ 20 → Small m out → years_to m out (2 * m - 2) ≡ tally_of m out
all_years m out few small =
    rw (
      filled 38 (2 * m - 2) (yearly m 0 out) (pos 0) (past m (entry_at 0 out)),
      filled 38 (2 * m - 2) (yearly m 1 out) (pos 0) (past m (entry_at 1 out)),
      none_lost m out few small,
    )

pub year_added : (m : ℕ) (out : List ℤ) (k : ℕ) {t : Tally} {x y : ℤ} → k < 38 → fits64 x ≡ true → fits64 y ≡ true → t ≡ years_to m out k
    → x ≡ yearly m 0 out k → y ≡ yearly m 1 out k → tally_add t (k + 1) x y ≡ years_to m out (k + 1)
unfolding tally_add
year_added m out k {t} {x} {y} h fx fy e ex ey =
    let i : k + 1 - 1 ≡ k = omega arith in
    rw (
      e,
      i,
      get_or_listed_past 38 k (yearly m 0 out) (pos 0) k (pos 0) h (omega arith),
      get_or_listed_past 38 k (yearly m 1 out) (pos 0) k (pos 0) h (omega arith),
      +ℤ_idl x,
      +ℤ_idl y,
      le-leb 1 (k + 1) (omega arith),
      le-leb (k + 1) 38 (omega arith),
      fx,
      fy,
      listed_next 38 k (yearly m 0 out) (pos 0) h refl ex,
      listed_next 38 k (yearly m 1 out) (pos 0) h refl ey,
    )
