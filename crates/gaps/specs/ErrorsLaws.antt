-- Laws of the sums of errors: their sizes, and that they depend on the gaps of the n × n cells
-- alone. Assumes nothing.
use Rattle.std.specs.Prelude.{◌≡◌, refl, List, eqb, ltb, leb, ℤ, pos, ◌+ℤ◌}
use Rattle.std.proofs.Common.{sym, ◌∙◌, ap₂, mul-le-mul_right, suc-mul, add-one, arith, eq-eqb, ne_eqb, ltb-true, ltb-false, leb-true, leb-false}
use Rattle.std.proofs.Math.Path.{ap}
use Rattle.std.proofs.Math.Bool.{cond}
use Prim.Native.Nat.{ℕ, zero, suc, ◌+◌, ◌-◌, ◌*◌, ◌^◌, ◌≤◌, ◌<◌}
use Rattle.std.proofs.Math.IntN.{nat_abs, +ℤ_idl, +ℤ_idr}
use Rattle.integers.specs.Sums.{sum, sum_suc, sum_cong, sum_nothing, sum_nat_abs}
use Rattle.std.proofs.Common.{w64, to_z, of_z}
use Rattle.rounding.specs.Running.{sum_add}
use mir.Val.{SFits}
use Rattle.rounding.specs.Words.{fits_abs}
use Rattle.model.specs.Lists.{total, at}
use Rattle.model.specs.ListsLaws.{total_ext}
use Rattle.model.specs.Records.{cell}
use Rattle.model.specs.BackTest.{cellwise, year_gap, yearwise, overall}
use Rattle.model.specs.Tests.{by_test}
use Rattle.cells.specs.SmallLaws.{read_back}
use Rattle.gaps.specs.Gaps.{SmallGaps, row_in_year}

-- ---- totals
pub total_none : (f : ℕ → ℕ) → 0 ≡ total 0 f
unfolding total
total_none f = refl

pub total_more : (k : ℕ) (f : ℕ → ℕ) {out x : ℕ} → out ≡ total k f → x ≡ f k → out + x ≡ total (k + 1) f
unfolding total
total_more k f e q = ap₂ (λ (a b : ℕ). a + b) e q ∙ sym (ap (λ (n : ℕ). total n f) (add-one k))

pub total_small : (n c : ℕ) (f : ℕ → ℕ) → ((k : ℕ) → k < n → f k ≤ c) → total n f ≤ n * c
unfolding total
total_small zero c f h = omega arith
total_small (suc n) c f h = omega (arith, suc-mul n c, h n (omega arith), total_small n c f (λ k l. h k (omega arith)))

-- at most 20 numbers, each at most c
pub twenty : (n c : ℕ) (f : ℕ → ℕ) → n ≤ 20 → ((k : ℕ) → k < n → f k ≤ c) → total n f ≤ 20 * c
twenty n c f l h = omega (arith, total_small n c f h, mul-le-mul_right c l)

pub twenty_signed : (n c : ℕ) (f : ℕ → ℤ) → n ≤ 20 → ((k : ℕ) → k < n → nat_abs (f k) ≤ c) → nat_abs (sum n f) ≤ 20 * c
twenty_signed n c f l h = omega (arith, sum_nat_abs n c f h, mul-le-mul_right c l)

-- ---- a row has at most one cell in a calendar year
module _ (a e : ℕ) (f : ℕ → ℤ) where
  abbrev pick : ℕ → ℤ
  pick j = cond (eqb (a + j) e) (f j) (pos 0)

  pick_yes : (j : ℕ) → a + j ≡ e → pick j ≡ f j
  pick_yes j q = rw (eq-eqb (a + j) e q)

  pick_no : (j : ℕ) → (a + j ≡ e → ⊥) → pick j ≡ pos 0
  pick_no j o = rw (ne_eqb (a + j) e o)

  pub none_picked : (n : ℕ) → ((j : ℕ) → j < n → a + j ≡ e → ⊥) → sum n pick ≡ pos 0
  none_picked n o = sum_nothing n (λ j h. pick_no j (o j h))

  pub one_picked : (n j : ℕ) → j < n → a + j ≡ e → sum n pick ≡ f j
  one_picked zero j h q = absurd (omega arith)
  one_picked (suc n) j h q =
      by_test (ltb j n)
      (λ t. let l = ltb-true j n t in
      sum_suc n pick ∙ ap₂ (λ (x y : ℤ). x +ℤ y) (one_picked n j l q) (pick_no n (λ z. omega arith)) ∙ +ℤ_idr (f j))
      (λ t. let l = ltb-false j n t in let s : n ≡ j = omega arith in let u : a + n ≡ e = omega arith in
      sum_suc n pick ∙ ap₂ (λ (x y : ℤ). x +ℤ y) (none_picked n (λ i b z. omega arith)) (pick_yes n u) ∙ +ℤ_idl (f n) ∙ ap f s)

  picked_small : (n c : ℕ) → ((j : ℕ) → j < n → nat_abs (f j) ≤ c) → nat_abs (sum n pick) ≤ c
  picked_small n c h =
      by_test (leb a e)
      (λ t. let l = leb-true a e t in
      by_test (ltb (e - a) n)
      (λ u. let b = ltb-true (e - a) n u in rw (one_picked n (e - a) b (omega arith)) (h (e - a) b))
      (λ u. let b = ltb-false (e - a) n u in rw (none_picked n (λ j k z. omega arith)) (omega arith)))
      (λ t. let l = leb-false a e t in rw (none_picked n (λ j k z. omega arith)) (omega arith))

-- ---- the gap of cell (k + 1, j), as it is read
pub gap_back : (d : List ℤ) → SmallGaps d → (k j : ℕ) → k < 20 → j < 20 → to_z w64 (of_z w64 (at d (20 * k + j))) ≡ cell d (suc k) j
gap_back d small k j h l =
    let e : 20 * k + j ≡ 20 * (suc k - 1) + j = omega arith in
    rw e (read_back (cell d (suc k) j) (omega (arith, small.gap k j h l)))

-- one more number in a sum, as a word
pub more_fits : (k : ℕ) (f : ℕ → ℤ) {a x : ℤ} → a ≡ sum k f → x ≡ f k → nat_abs (sum (k + 1) f) ≤ 20 * (20 * (5 * 10 ^ 15)) → SFits w64 (a +ℤ x)
more_fits k f e q h = rw (sum_add k f e q) (fits_abs (omega (arith, h)))

pub more_is : (k : ℕ) (f : ℕ → ℤ) {a x : ℤ} → a ≡ sum k f → x ≡ f k → nat_abs (sum (k + 1) f) ≤ 20 * (20 * (5 * 10 ^ 15)) → to_z w64 (of_z w64 (a +ℤ x)) ≡ sum (k + 1) f
more_is k f e q h = rw (sum_add k f e q) (read_back (sum (k + 1) f) (omega (arith, h)))

-- ---- the sizes of the sums
module _ (d : List ℤ) (small : SmallGaps d) (n : ℕ) (few : n ≤ 20) where
  pub row_small : (k : ℕ) → k < 20 → (j : ℕ) → j ≤ n → total j (λ j. nat_abs (cell d (suc k) j)) ≤ 20 * (5 * 10 ^ 15)
  row_small k h j l = twenty j (5 * 10 ^ 15) _ (omega arith) (λ i b. small.gap k i h (omega arith))

  pub cells_small : (k : ℕ) → k ≤ n → total k (λ k. total n (λ j. nat_abs (cell d (suc k) j))) ≤ 20 * (20 * (5 * 10 ^ 15))
  cells_small k l = twenty k (20 * (5 * 10 ^ 15)) _ (omega arith) (λ i b. row_small i (omega arith) n (omega arith))

  pub row_year_small : (e k : ℕ) → k < 20 → nat_abs (row_in_year d n k e) ≤ 5 * 10 ^ 15
  row_year_small e k h = picked_small (suc k) e (λ j. cell d (suc k) j) n (5 * 10 ^ 15) (λ j b. small.gap k j h (omega arith))

  pub year_small : (e k : ℕ) → k ≤ n → nat_abs (sum k (λ k. row_in_year d n k e)) ≤ 20 * (5 * 10 ^ 15)
  year_small e k l = twenty_signed k (5 * 10 ^ 15) (λ k. row_in_year d n k e) (omega arith) (λ i b. row_year_small e i (omega arith))

  pub gap_small : (t : ℕ) → nat_abs (year_gap n (cell d) t) ≤ 20 * (5 * 10 ^ 15)
  unfolding year_gap
  gap_small t = year_small (n + t) n (omega arith)

  pub years_small : (k : ℕ) → k ≤ 20 → total k (λ k. nat_abs (year_gap n (cell d) (suc k))) ≤ 20 * (20 * (5 * 10 ^ 15))
  years_small k l = twenty k (20 * (5 * 10 ^ 15)) _ l (λ i b. gap_small (suc i))

  pub row_gap_small : (k : ℕ) → k < 20 → (j : ℕ) → j ≤ n → nat_abs (sum j (λ j. cell d (suc k) j)) ≤ 20 * (5 * 10 ^ 15)
  row_gap_small k h j l = twenty_signed j (5 * 10 ^ 15) (λ j. cell d (suc k) j) (omega arith) (λ i b. small.gap k i h (omega arith))

  pub all_small : (k : ℕ) → k ≤ n → nat_abs (sum k (λ k. sum n (λ j. cell d (suc k) j))) ≤ 20 * (20 * (5 * 10 ^ 15))
  all_small k l = twenty_signed k (20 * (5 * 10 ^ 15)) (λ k. sum n (λ j. cell d (suc k) j)) (omega arith) (λ i b. row_gap_small i (omega arith) n (omega arith))

-- ---- gaps that agree in the n × n cells have the same errors
module _ (n : ℕ) (d e : ℕ → ℕ → ℤ) (same : (k j : ℕ) → k < n → j < n → d (suc k) j ≡ e (suc k) j) where
  pub same_by_cell : cellwise n d ≡ cellwise n e
  unfolding cellwise
  same_by_cell = total_ext n _ _ (λ k h. total_ext n _ _ (λ j l. ap nat_abs (same k j h l)))

  pub same_by_year : (c : ℕ) → yearwise n c d ≡ yearwise n c e
  unfolding yearwise year_gap
  same_by_year c =
      total_ext c _ _ (λ t b. ap nat_abs (sum_cong n (λ k h. sum_cong n (λ j l. ap (λ (x : ℤ). cond (eqb (suc k + j) (n + suc t)) x (pos 0)) (same k j h l)))))

  pub same_in_all : overall n d ≡ overall n e
  unfolding overall
  same_in_all = ap nat_abs (sum_cong n (λ k h. sum_cong n (λ j l. same k j h l)))
