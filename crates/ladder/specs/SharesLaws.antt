-- Laws of Shares, for a triangle t of size m whose cells are not negative (counts and paid).
-- Assumes nothing.
use Rattle.std.specs.Prelude.{◌≡◌, ◌⊎◌, List, [], ◌∷◌, ℤ, pos, ◌+ℤ◌, ◌*ℤ◌, ◌-ℤ◌}
use Rattle.std.proofs.Common.{◌∙◌, inl, inr}
use Rattle.std.proofs.Math.Path.{ap}
use Prim.Native.Nat.{ℕ, zero, suc, ◌+◌, ◌-◌, ◌≤◌, ◌<◌}
use native.Mathlib.Omega.{arith}
use Rattle.std.proofs.Math.IntN.{zero-*ℤ}
use Rattle.std.specs.Int.Signed.{clash_ℤ, ≤ℤ_refl, <ℤ-≤ℤ_trans}
use Rattle.integers.specs.Parts.{◌⩽◌, ◌⋖◌}
use Rattle.integers.specs.Solver.{ring, form}
use Rattle.integers.specs.Linear.{lin, stmt, ◌&◌}
use Rattle.integers.specs.Monomials.{nlin, nstmt}
use Rattle.integers.specs.Order.{≤ℤ_trans, <ℤ-≤ℤ, <ℤ_or-≥, sub_nonneg, *ℤ_mono_l, *ℤ_nonneg}
use Rattle.integers.specs.Sums.{sum, sum_mono, sum_suc, sum_first, sum_cong, sum_telescope, sum_nonneg}
use Rattle.model.specs.Lists.{at}
use Rattle.model.specs.ListsLaws.{get_or_listed}
use Rattle.model.specs.Records.{cell}
use Rattle.model.specs.Rounding.{S, r}
use Rattle.model.specs.Shares as Shares
use Rattle.model.specs.Shares.{C, latest, A, B, g_down, g, g_list, b_list, ultimate, ultimates}
use Rattle.rounding.specs.RoundingLaws.{S_pos, r_within}

-- ---- as 01 gives them
module _ (m : ℕ) (t : List ℤ) where
  -- g(m-1) = S
  pub g_last : g m t (m - 1) ≡ S
  unfolding g g_down
  g_last = let e : m - 1 - (m - 1) ≡ 0 = omega arith in rw e

  -- g(j-1) = r(g(j) × A(j) / B(j))
  pub g_step : (j : ℕ) → 1 ≤ j → j < m → g m t (j - 1) ≡ r (g m t j *ℤ A m t j) (B m t j)
  unfolding g g_down
  g_step j h l =
      let d : m - 1 - (j - 1) ≡ suc (m - 1 - j) = omega arith in
      let e : m - 1 - (m - 1 - j) ≡ j = omega arith in
      rw (d, e)

  -- the shares from delay j + 1 on add up to what g has left to S
  pub shares_left : (j n : ℕ) → j + n ≡ m - 1 → sum n (λ k. Shares.b m t (suc (j + k))) ≡ S -ℤ g m t j
  unfolding Shares.b
  shares_left j n e =
      sum_cong n (λ k u. let d : suc (j + k) ≡ j + suc k = omega arith in rw d)
      ∙ sum_telescope n (λ k. g m t (j + k))
      ∙ (let d : j + 0 ≡ j = omega arith in rw (d, e, g_last))

  -- all shares add up to S
  pub shares_sum : 1 ≤ m → sum m (Shares.b m t) ≡ S
  unfolding Shares.b
  shares_sum h =
      let e : m ≡ suc (m - 1) = omega arith in
      ap (λ (n : ℕ). sum n (Shares.b m t)) e ∙ sum_first (m - 1) (Shares.b m t)
      ∙ ap (λ (x : ℤ). g m t 0 +ℤ x) (sum_cong (m - 1) from_0 ∙ shares_left 0 (m - 1) (omega arith))
      ∙ ring (g m t 0 ∷ S ∷ []) (search form depth 20) tt
    where
      from_0 : (k : ℕ) → k < m - 1 → Shares.b m t (suc k) ≡ Shares.b m t (suc (0 + k))
      from_0 k u = let e : 0 + k ≡ k = omega arith in rw e

-- ---- the lists of 20 places
module _ (m : ℕ) (t : List ℤ) (few : m ≤ 20) where
  pub at_b_list : (j : ℕ) → j < m → at (b_list m t) j ≡ Shares.b m t j
  unfolding b_list
  at_b_list j h = get_or_listed 20 m (Shares.b m t) (pos 0) j (pos 0) (omega arith) h

  pub at_g_list : (j : ℕ) → j < m → at (g_list m t) j ≡ g m t j
  unfolding g_list
  at_g_list j h = get_or_listed 20 m (g m t) (pos 0) j (pos 0) (omega arith) h

  -- year k + 1
  pub at_ultimates : (k : ℕ) → k < m → at (ultimates m t) k ≡ ultimate m t (suc k)
  unfolding ultimates
  at_ultimates k h = get_or_listed 20 m (λ k. ultimate m t (suc k)) (pos 0) k (pos 0) (omega arith) h

-- ---- cells that are not negative
abbrev pub NotNegative : ℕ → List ℤ → Type 0
NotNegative m t = (i j : ℕ) → 1 ≤ i → i + j ≤ m → pos 0 ⩽ cell t i j

module _ (m : ℕ) (t : List ℤ) (cells : NotNegative m t) where
  pub C-nonneg : (i j : ℕ) → 1 ≤ i → i + j ≤ m → pos 0 ⩽ C t i j
  unfolding C
  C-nonneg i j h u = sum_nonneg (suc j) (λ k. cell t i k) (λ k l. cells i k h (omega arith))

  pub C-mono : (i j : ℕ) → 1 ≤ i → 1 ≤ j → i + j ≤ m → C t i (j - 1) ⩽ C t i j
  unfolding C
  C-mono i zero h k l = absurd (omega arith)
  C-mono i (suc j) h k l =
      let e : suc j - 1 ≡ j = omega arith in
      rw (e, sum_suc (suc j) (λ k. cell t i k))
      (lin (sum (suc j) (λ k. cell t i k) ∷ cell t i (suc j) ∷ []) (cells i (suc j) h l) (search stmt depth 20) (omega arith))

  pub A-nonneg : (j : ℕ) → 1 ≤ j → j < m → pos 0 ⩽ A m t j
  unfolding A
  A-nonneg j h k = sum_nonneg (m - j) (λ k. C t (suc k) (j - 1)) (λ k l. C-nonneg (suc k) (j - 1) (omega arith) (omega arith))

  pub A-B : (j : ℕ) → 1 ≤ j → j < m → A m t j ⩽ B m t j
  unfolding A B
  A-B j h k =
      sum_mono (m - j) (λ k. C t (suc k) (j - 1)) (λ k. C t (suc k) j)
      (λ k l. C-mono (suc k) j (omega arith) (omega arith) (omega arith))

  -- a column's B is above zero where its lowest row's latest sum is
  pub B-pos : ((i : ℕ) → 1 ≤ i → i ≤ m → pos 0 ⋖ latest m t i) → (j : ℕ) → 1 ≤ j → j < m → pos 0 ⋖ B m t j
  unfolding B latest
  B-pos rows j h l =
      let d : m - j ≡ suc (m - j - 1) = omega arith in
      let e : m - suc (m - j - 1) ≡ j = omega arith in
      rw (d, sum_suc (m - j - 1) (λ k. C t (suc k) j))
      (lin (sum (m - j - 1) (λ k. C t (suc k) j) ∷ C t (suc (m - j - 1)) j ∷ [])
      (sum_nonneg (m - j - 1) (λ k. C t (suc k) j) (λ k u. C-nonneg (suc k) j (omega arith) (omega arith))
      & (rw e at (rows (suc (m - j - 1)) (omega arith) (omega arith)))) (search stmt depth 20) (omega arith))

-- what questions 5, 9 to 11 give of counts and of paid
pub record Sound (m : ℕ) (t : List ℤ) : Type 0 where
  pub cells : NotNegative m t
  pub columns : (j : ℕ) → 1 ≤ j → j < m → pos 0 ⋖ B m t j
  pub first : pos 0 ⋖ g m t 0

-- ---- one step down, from g to r(g × a / b) with 0 ≤ a ≤ b
module _ (x a b : ℤ) (x_low : pos 0 ⩽ x) (a_low : pos 0 ⩽ a) (a_b : a ⩽ b) (b_pos : pos 0 ⋖ b) where
  pub step_range : (pos 0 ⩽ r (x *ℤ a) b) × (r (x *ℤ a) b ⩽ x)
  step_range = r_within (x *ℤ a) b x b_pos (*ℤ_nonneg x_low a_low) (*ℤ_mono_l x x_low a_b)

  -- a share above zero comes from a share and a sum above zero
  pub step_pos : pos 0 ⋖ r (x *ℤ a) b → pos 0 ⋖ a
  step_pos p = go (<ℤ_or-≥ (pos 0) a)
    where
      none : a ⩽ pos 0 → x *ℤ a ⩽ pos 0 *ℤ b
      none k = rw (zero-*ℤ b) (nlin (x ∷ a ∷ []) (*ℤ_mono_l x x_low k) (search nstmt depth 20) (omega arith))

      go : (pos 0 ⋖ a) ⊎ (a ⩽ pos 0) → pos 0 ⋖ a
      go (inl k) = k
      go (inr k) = clash_ℤ p (r_within (x *ℤ a) b (pos 0) b_pos (*ℤ_nonneg x_low a_low) (none k)).1

module _ (m : ℕ) (t : List ℤ) (ok : Sound m t) where
  -- n steps down from S: the share is between 0 and S
  down_range : (n : ℕ) → n < m → (pos 0 ⩽ g_down m t n) × (g_down m t n ⩽ S)
  unfolding g_down
  down_range zero h = (<ℤ-≤ℤ S_pos, ≤ℤ_refl S)
  down_range (suc n) h =
      let j : ℕ = m - 1 - n in
      let before = down_range n (omega arith) in
      let now = step_range (g_down m t n) (A m t j) (B m t j) before.0
      (A-nonneg m t ok.cells j (omega arith) (omega arith)) (A-B m t ok.cells j (omega arith) (omega arith)) (ok.columns j (omega arith) (omega arith)) in
      (now.0, ≤ℤ_trans now.1 before.1)

  -- cumulative shares are between 0 and S
  pub g_range : (j : ℕ) → j < m → (pos 0 ⩽ g m t j) × (g m t j ⩽ S)
  unfolding g
  g_range j h = down_range (m - 1 - j) (omega arith)

  step_at : (j : ℕ) → 1 ≤ j → j < m → (pos 0 ⩽ r (g m t j *ℤ A m t j) (B m t j)) × (r (g m t j *ℤ A m t j) (B m t j) ⩽ g m t j)
  step_at j h l =
      step_range (g m t j) (A m t j) (B m t j) (g_range j l).0 (A-nonneg m t ok.cells j h l) (A-B m t ok.cells j h l) (ok.columns j h l)

  g_down_by : (e j k : ℕ) → k ≡ j + e → k < m → g m t j ⩽ g m t k
  g_down_by zero j k q l = let q' : k ≡ j = omega arith in rw q' (≤ℤ_refl (g m t j))
  g_down_by (suc e) j k q l =
      ≤ℤ_trans (g_down_by e j (k - 1) (omega arith) (omega arith))
      (rw (g_step m t k (omega arith) l) (step_at k (omega arith) l).1)

  -- g does not fall with the delay
  pub g_down_lem : (j k : ℕ) → j ≤ k → k < m → g m t j ⩽ g m t k
  g_down_lem j k h l = g_down_by (k - j) j k (omega arith) l

  pub g_pos : (j : ℕ) → j < m → pos 0 ⋖ g m t j
  g_pos j h = <ℤ-≤ℤ_trans ok.first (g_down_lem 0 j (omega arith) h)

  pub A_pos : (j : ℕ) → 1 ≤ j → j < m → pos 0 ⋖ A m t j
  A_pos j h l =
      step_pos (g m t j) (A m t j) (B m t j) (g_range j l).0 (A-nonneg m t ok.cells j h l) (A-B m t ok.cells j h l) (ok.columns j h l)
      (rw (← g_step m t j h l) (g_pos (j - 1) (omega arith)))

  -- each share is from 0 to S
  pub share_range : (j : ℕ) → j < m → (pos 0 ⩽ Shares.b m t j) × (Shares.b m t j ⩽ S)
  unfolding Shares.b
  share_range zero h = g_range 0 h
  share_range (suc j) h = (
    sub_nonneg.0 (g_down_lem j (suc j) (omega arith) h),
    lin (g m t j ∷ g m t (suc j) ∷ S ∷ []) ((g_range j (omega arith)).0 & (g_range (suc j) h).1) (search stmt depth 20) (omega arith),
  )

  pub latest_nonneg : (i : ℕ) → 1 ≤ i → i ≤ m → pos 0 ⩽ latest m t i
  unfolding latest
  latest_nonneg i h l = C-nonneg m t ok.cells i (m - i) h (omega arith)
