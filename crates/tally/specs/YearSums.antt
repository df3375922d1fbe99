-- The tally of an output whose entries are small is the plain sum of each calendar year's cells:
-- none is turned away. Assumes nothing.
use Rattle.std.specs.Prelude.{◌≡◌, Bool, List, leb, eqb, ℤ, pos, negsuc, nat_abs, ◌+ℤ◌, set}
use Rattle.std.proofs.Math.Path.{refl}
use Rattle.std.proofs.Common.{sym, ◌∙◌, ap, add-zero, mul_assoc, mul-le-mul, arith}
use Rattle.std.proofs.Math.Bool.{true, false, cond}
use Prim.Native.Nat.{ℕ, zero, suc, ◌+◌, ◌-◌, ◌*◌, ◌^◌, ◌≤◌, ◌<◌}
use Rattle.std.proofs.Math.IntN.{+ℤ_idr}
use borrow.Author.Tests.{lt-ltb, leb-true, leb-false, eq-eqb, ne_eqb}
use Rattle.integers.specs.Order.{nat_abs-+ℤ}
use Rattle.integers.specs.Sums.{sum, sum_nat_abs}
use Rattle.model.specs.Lists.{tabulate, at}
use Rattle.model.specs.ListsLaws.{get_d_tabulate, tabulate_ext, set_tabulate}
use Rattle.model.specs.Cells.{size}
use Rattle.model.specs.Calendar.{calendar_year, tally_to, tally_of}
use Rattle.year_tally.specs.TallyAdd.{fits64, tally_add}
use Rattle.year_tally.specs.declared.Tally.{Tally}

-- ---- what the theorems speak of

-- the number of cells of an output
abbrev pub cells : ℕ → ℕ
cells m = m * (2 * m - 1)

-- the RBNS entry (kind 0) of the n-th cell, or its IBNR entry (kind 1)
abbrev pub entry_at : ℕ → List ℤ → ℕ → ℤ
entry_at kind out n = at out (2 * n + kind)

-- the sum of f over those of the first n cells that lie in calendar year t
unfoldable pub year_sum : ℕ → (ℕ → ℤ) → ℕ → ℕ → ℤ
year_sum m f n t = sum n (λ c. cond (eqb (calendar_year m c) t) (f c) (pos 0))

-- the sums of the years 1 to 38
abbrev pub years : ℕ → (ℕ → ℤ) → ℕ → List ℤ
years m f n = tabulate 38 (λ k. year_sum m f n (suc k))

-- the tally of two lists
abbrev pub tally_in : List ℤ → List ℤ → Tally
tally_in rbns ibnr = record { rbns = rbns; ibnr = ibnr }

-- the plain sums of the first n cells
abbrev pub plain_sums : ℕ → List ℤ → ℕ → Tally
plain_sums m out n = tally_in (years m (entry_at 0 out) n) (years m (entry_at 1 out) n)

-- every entry of the output is at most 2 × 10^15 (a cell of an accepted set is at most 1.6 × 10^15
-- + 1)
abbrev pub Small : ℕ → List ℤ → Type 0
Small m out = (e : ℕ) → e < size m → nat_abs (at out e) ≤ 2 * 10 ^ 15

-- ---- sizes

pub few_cells : (m : ℕ) → m ≤ 20 → cells m ≤ 780
few_cells m h = let w : 2 * m - 1 ≤ 39 = omega arith in mul-le-mul h w

module _ (m : ℕ) (out : List ℤ) (small : Small m out) where
  pub small_entry : (kind : ℕ) → kind ≤ 1 → (c : ℕ) → c < cells m → nat_abs (entry_at kind out c) ≤ 2 * 10 ^ 15
  small_entry kind k c h = small (2 * c + kind) (omega (arith, mul_assoc 2 m (2 * m - 1)))

pub below_fits : (z : ℤ) → nat_abs z < 2 ^ 63 → fits64 z ≡ true
unfolding fits64
below_fits (pos n) h = lt-ltb n (2 ^ 63) h
below_fits (negsuc n) h = lt-ltb n (2 ^ 63) (omega arith)

picked : (t : Bool) (x : ℤ) → nat_abs (cond t x (pos 0)) ≤ nat_abs x
picked true x = omega arith
picked false x = omega arith

-- ---- one cell more

module _ (m : ℕ) (f : ℕ → ℤ) (n : ℕ) where
  abbrev year : ℕ
  year = calendar_year m n

  pub year_sum_small : (b t : ℕ) → ((c : ℕ) → c < n → nat_abs (f c) ≤ b) → nat_abs (year_sum m f n t) ≤ n * b
  unfolding year_sum
  year_sum_small b t h =
      sum_nat_abs n b (λ c. cond (eqb (calendar_year m c) t) (f c) (pos 0))
      (λ c l. omega (arith, picked (eqb (calendar_year m c) t) (f c), h c l))

  in_year_lem : (t : ℕ) → year ≡ t → year_sum m f (suc n) t ≡ year_sum m f n t +ℤ f n
  unfolding year_sum sum
  in_year_lem t e = rw (eq-eqb year t e)

  not_in_year : (t : ℕ) → (year ≡ t → ⊥) → year_sum m f (suc n) t ≡ year_sum m f n t
  unfolding year_sum sum
  not_in_year t o = rw (ne_eqb year t o) (+ℤ_idr (year_sum m f n t))

  outside : ((k : ℕ) → k < 38 → year ≡ suc k → ⊥) → years m f n ≡ years m f (suc n)
  outside o = tabulate_ext 38 (λ k. year_sum m f n (suc k)) (λ k. year_sum m f (suc n) (suc k)) (λ k h. sym (not_in_year (suc k) (o k h)))

  within : 1 ≤ year → year ≤ 38 → set (years m f n) (year - 1) (at (years m f n) (year - 1) +ℤ f n) ≡ years m f (suc n)
  within h l =
      let i = year - 1 in
      let e : year ≡ suc i = omega arith in
      rw (get_d_tabulate 38 (λ k. year_sum m f n (suc k)) i (pos 0) (omega arith), ← in_year_lem (suc i) e)
      (set_tabulate 38 i (λ k. year_sum m f n (suc k)) (λ k. year_sum m f (suc n) (suc k)) (omega arith) (λ k o. not_in_year (suc k) (λ q. o (omega arith))))

  of_year : (t : ℕ) → 1 ≤ t → t ≤ 38 → at (years m f n) (t - 1) ≡ year_sum m f n t
  of_year t h l =
      let e : suc (t - 1) ≡ t = omega arith in
      get_d_tabulate 38 (λ k. year_sum m f n (suc k)) (t - 1) (pos 0) (omega arith) ∙ ap (year_sum m f n) e

-- ---- all cells

module _ (m : ℕ) (out : List ℤ) (few : m ≤ 20) (small : Small m out) where
  -- a year's sum and one cell more fit
  more_fits : (f : ℕ → ℤ) → ((c : ℕ) → c < cells m → nat_abs (f c) ≤ 2 * 10 ^ 15) → (n : ℕ) → n < cells m → 1 ≤ calendar_year m n → calendar_year m n ≤ 38
      → fits64 (at (years m f n) (calendar_year m n - 1) +ℤ f n) ≡ true
  more_fits f h n l lo hi =
      let t = calendar_year m n in
      rw (of_year m f n t lo hi)
      (below_fits (year_sum m f n t +ℤ f n)
      (omega (arith, nat_abs-+ℤ (year_sum m f n t) (f n), year_sum_small m f n (2 * 10 ^ 15) t (λ c k. h c (omega arith)), h n l, few_cells m few)))

  add_cell : (n : ℕ) → n < cells m → (lo hi : Bool) → leb 1 (calendar_year m n) ≡ lo → leb (calendar_year m n) 38 ≡ hi
      → tally_add (plain_sums m out n) (calendar_year m n) (entry_at 0 out n) (entry_at 1 out n) ≡ plain_sums m out (suc n)
  unfolding tally_add
  add_cell n l true true e d =
      let lo = leb-true 1 _ e in
      let hi = leb-true _ 38 d in
      rw (
        e,
        d,
        more_fits (entry_at 0 out) (small_entry m out small 0 (omega arith)) n l lo hi,
        more_fits (entry_at 1 out) (small_entry m out small 1 (omega arith)) n l lo hi,
        within m (entry_at 0 out) n lo hi,
        within m (entry_at 1 out) n lo hi,
      )
  add_cell n l true false e d =
      let o : (k : ℕ) → k < 38 → calendar_year m n ≡ suc k → ⊥ = λ k h q. omega (arith, leb-false (calendar_year m n) 38 d) in
      rw (e, d, outside m (entry_at 0 out) n o, outside m (entry_at 1 out) n o)
  add_cell n l false hi e d =
      let o : (k : ℕ) → k < 38 → calendar_year m n ≡ suc k → ⊥ = λ k h q. omega (arith, leb-false 1 (calendar_year m n) e) in
      rw (e, outside m (entry_at 0 out) n o, outside m (entry_at 1 out) n o)

  tally_to_lem : (n : ℕ) → n ≤ cells m → tally_to m out n ≡ plain_sums m out n
  unfolding tally_to year_sum sum tabulate
  tally_to_lem zero h = refl
  tally_to_lem (suc n) h =
      rw (tally_to_lem n (omega arith))
      (ap (λ (p : ℕ). tally_add (plain_sums m out n) (calendar_year m n) (at out p) (entry_at 1 out n)) (sym (add-zero (2 * n)))
      ∙ add_cell n h (leb 1 (calendar_year m n)) (leb (calendar_year m n) 38) refl refl)

  -- no cell is turned away
  pub none_lost : tally_of m out ≡ plain_sums m out (cells m)
  unfolding tally_of
  none_lost = tally_to_lem (cells m) (omega arith)

  -- each year's sums are the sums of its cells' entries
  pub rbns_of_year : (t : ℕ) → 1 ≤ t → t ≤ 38 → at (tally_of m out).rbns (t - 1) ≡ year_sum m (entry_at 0 out) (cells m) t
  rbns_of_year t h l = rw none_lost (of_year m (entry_at 0 out) (cells m) t h l)

  pub ibnr_of_year : (t : ℕ) → 1 ≤ t → t ≤ 38 → at (tally_of m out).ibnr (t - 1) ≡ year_sum m (entry_at 1 out) (cells m) t
  ibnr_of_year t h l = rw none_lost (of_year m (entry_at 1 out) (cells m) t h l)
