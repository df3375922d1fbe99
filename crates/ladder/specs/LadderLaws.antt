-- Laws of Ladder, and that the chain ladder from a triangle's lists is that of the triangle.
-- Assumes nothing.
use Rattle.std.specs.Prelude.{◌≡◌, Bool, true, false, cond, List, ℤ, pos, negsuc, nat_abs, ◌*ℤ◌, Option, Some, None}
use Rattle.std.proofs.Math.Path.{refl}
use Rattle.std.proofs.Common.{sym, ◌∙◌, ap}
use Prim.Native.Nat.{ℕ, zero, suc, ◌-◌, ◌*◌, ◌^◌, ◌≤◌, ◌<◌}
use native.Mathlib.Omega.{arith}
use Rattle.std.specs.Int.Signed.{le_z, lt_z}
use Rattle.integers.specs.Parts.{◌⩽◌, ◌⋖◌, ints}
use Rattle.integers.specs.Order.{lt_yes, le_yes, ≤ℤ_trans}
use Rattle.model.specs.Lists.{at, listed, every}
use Rattle.model.specs.ListsLaws.{get_or_listed, listed_ext, every_at, every_all, every_no, every_ext}
use Rattle.model.specs.Rounding.{S, r}
use Rattle.model.specs.Shares as Shares
use Rattle.model.specs.Shares.{latest, A, B, g, g_down, g_list, b_list, ultimate}
use Rattle.model.specs.QuestionsLaws.{within_so, within_yes}
use Rattle.model.specs.Tests.{by_test}
use Rattle.ladder.specs.SharesLaws.{NotNegative, Sound, g_range, g_down_lem, at_g_list}
use Rattle.ladder.specs.Sums.{Small, latests, a_sums, b_sums}
use Rattle.ladder.specs.SumsLaws.{latest_small, A-small, B-small}
use Rattle.ladder.specs.Ladder.{bounded, share_in, steps_down, g_of, Bounded, Steps, Ready, difference, grown, Ladder}

-- a cumulative share in its bounds, by its magnitude
pub bounds_abs : (z : ℤ) → (pos (10 ^ 6) ⩽ z) × (z ⩽ pos (4 * 10 ^ 9)) → (pos 0 ⋖ z) × (10 ^ 6 ≤ nat_abs z) × (nat_abs z ≤ 4 * 10 ^ 9)
bounds_abs (pos n) h = (omega (arith, ints), omega (arith, ints), omega (arith, ints))
bounds_abs (negsuc n) h = absurd h.0.le

pub bounded_so : (z : ℤ) → bounded z ≡ true → (pos (10 ^ 6) ⩽ z) × (z ⩽ pos (4 * 10 ^ 9))
bounded_so z e = within_so (pos (10 ^ 6)) (pos (4 * 10 ^ 9)) z e

-- what each answer says of a share
inside_if : (t : Bool) (z k : ℤ) → cond t (Some z) None ≡ Some k → (z ≡ k) × (t ≡ true)
inside_if true z k e = (cc, refl)
inside_if false z k e = absurd cc

pub inside_is : (z k : ℤ) → share_in z ≡ Some k → (z ≡ k) × (bounded z ≡ true)
unfolding share_in
inside_is z k e = inside_if (bounded z) z k e

outside_if : (t : Bool) (z : ℤ) → cond t (Some z) None ≡ None → t ≡ false
outside_if true z e = absurd cc
outside_if false z e = refl

pub outside_is : (z : ℤ) → share_in z ≡ None → bounded z ≡ false
unfolding share_in
outside_is z e = outside_if (bounded z) z e

-- ---- the cumulative shares from the lists
module _ (m : ℕ) (a b : List ℤ) where
  pub g_of_last : g_of m a b (m - 1) ≡ S
  unfolding g_of steps_down
  g_of_last = let e : m - 1 - (m - 1) ≡ 0 = omega arith in rw e

  pub g_of_step : (j : ℕ) → suc j < m → g_of m a b j ≡ r (g_of m a b (suc j) *ℤ at a j) (at b j)
  unfolding g_of steps_down
  g_of_step j h =
      let d : m - 1 - j ≡ suc (m - 1 - suc j) = omega arith in
      let e : m - 1 - suc (m - 1 - suc j) ≡ j = omega arith in
      rw (d, e)

-- ---- the lists of a triangle's sums
module _ (m : ℕ) (t : List ℤ) (few : m ≤ 20) where
  pub at_latests : (k : ℕ) → k < m → at (latests m t) k ≡ latest m t (suc k)
  unfolding latests
  at_latests k h = get_or_listed 20 m (λ k. latest m t (suc k)) (pos 0) k (pos 0) (omega arith) h

  pub at_a_sums : (k : ℕ) → k < m - 1 → at (a_sums m t) k ≡ A m t (suc k)
  unfolding a_sums
  at_a_sums k h = get_or_listed 20 (m - 1) (λ k. A m t (suc k)) (pos 0) k (pos 0) (omega arith) h

  pub at_b_sums : (k : ℕ) → k < m - 1 → at (b_sums m t) k ≡ B m t (suc k)
  unfolding b_sums
  at_b_sums k h = get_or_listed 20 (m - 1) (λ k. B m t (suc k)) (pos 0) k (pos 0) (omega arith) h

  -- the cumulative shares from the lists are those of the triangle
  steps_are : (n : ℕ) → n < m → steps_down m (a_sums m t) (b_sums m t) n ≡ g_down m t n
  unfolding steps_down g_down
  steps_are zero h = refl
  steps_are (suc n) h =
      let e : suc (m - 1 - suc n) ≡ m - 1 - n = omega arith in
      rw (steps_are n (omega arith), at_a_sums (m - 1 - suc n) (omega arith), at_b_sums (m - 1 - suc n) (omega arith), e)

  pub g_of_is : (j : ℕ) → j < m → g_of m (a_sums m t) (b_sums m t) j ≡ g m t j
  unfolding g_of g
  g_of_is j h = steps_are (m - 1 - j) (omega arith)

  -- the chain ladder from the lists is that of the triangle
  difference_is : (k : ℕ) → k < m → difference (g_list m t) k ≡ Shares.b m t k
  unfolding difference Shares.b
  difference_is zero h = at_g_list m t few 0 h
  difference_is (suc k) h = rw (at_g_list m t few (suc k) h, at_g_list m t few k (omega arith))

  grown_is : (k : ℕ) → k < m → grown m (latests m t) (g_list m t) k ≡ ultimate m t (suc k)
  unfolding grown ultimate
  grown_is k h = rw (at_latests k h, at_g_list m t few (m - suc k) (omega arith))

  shares_are : listed 20 m (difference (g_list m t)) (pos 0) ≡ b_list m t
  unfolding b_list
  shares_are = listed_ext 20 m _ _ (pos 0) difference_is

  ultimates_are : listed 20 m (grown m (latests m t) (g_list m t)) (pos 0) ≡ Shares.ultimates m t
  unfolding Shares.ultimates
  ultimates_are = listed_ext 20 m _ _ (pos 0) grown_is

-- ---- from the lists of a triangle
module _ {m : ℕ} {t latest g : List ℤ} (l : Ladder m t latest g) where
  pub ladder_ready : Ready m (latests m t) (g_list m t) → Ready m latest g
  ladder_ready h = rw (l.latest_is, l.g_is) h

  pub ladder_shares : m ≤ 20 → listed 20 m (difference g) (pos 0) ≡ b_list m t
  ladder_shares few = rw l.g_is (shares_are m t few)

  pub ladder_ultimates : m ≤ 20 → listed 20 m (grown m latest g) (pos 0) ≡ Shares.ultimates m t
  ladder_ultimates few = rw (l.latest_is, l.g_is) (ultimates_are m t few)

-- ---- tests of lists
above_zero : (z : ℤ) → le_z (pos 1) z ≡ lt_z (pos 0) z
above_zero (pos n) = refl
above_zero (negsuc n) = refl

-- "above zero" asked of a list's numbers
asked_above : (n : ℕ) (xs : List ℤ) (f : ℕ → ℤ) → ((k : ℕ) → k < n → at xs k ≡ f k) → every n (λ k. le_z (pos 1) (at xs k)) ≡ every n (λ k. lt_z (pos 0) (f k))
asked_above n xs f h = every_ext _ _ n (λ k l. above_zero (at xs k) ∙ ap (lt_z (pos 0)) (h k l))

module _ (m : ℕ) (t : List ℤ) (few : m ≤ 20) where
  pub asked-A : every (m - 1) (λ k. le_z (pos 1) (at (a_sums m t) k)) ≡ every (m - 1) (λ k. lt_z (pos 0) (A m t (suc k)))
  asked-A = asked_above (m - 1) (a_sums m t) (λ k. A m t (suc k)) (at_a_sums m t few)

  pub asked-B : every (m - 1) (λ k. le_z (pos 1) (at (b_sums m t) k)) ≡ every (m - 1) (λ k. lt_z (pos 0) (B m t (suc k)))
  asked-B = asked_above (m - 1) (b_sums m t) (λ k. B m t (suc k)) (at_b_sums m t few)

  pub asked_rows : every m (λ k. le_z (pos 1) (at (latests m t) k)) ≡ every m (λ k. lt_z (pos 0) (latest m t (suc k)))
  asked_rows = asked_above m (latests m t) (λ k. latest m t (suc k)) (at_latests m t few)

  pub asked_signs : every m (λ k. le_z (pos 0) (at (latests m t) k)) ≡ every m (λ k. le_z (pos 0) (latest m t (suc k)))
  asked_signs = every_ext _ _ m (λ k l. ap (le_z (pos 0)) (at_latests m t few k l))

-- the columns that a test passed
pub columns_above : (m : ℕ) (t : List ℤ) → every (m - 1) (λ k. lt_z (pos 0) (B m t (suc k))) ≡ true → (j : ℕ) → 1 ≤ j → j < m → pos 0 ⋖ B m t j
columns_above m t h j u l =
    let e : suc (j - 1) ≡ j = omega arith in
    lt_yes {a = pos 0} {b = B m t j} (rw e at (every_at (λ k. lt_z (pos 0) (B m t (suc k))) (m - 1) (j - 1) h (omega arith)))

-- ---- a triangle's cumulative shares
S-most : S ⩽ pos (4 * 10 ^ 9)
unfolding S
S-most = omega (arith, ints)

-- at least 10^6 is above zero
pub above : {x : ℤ} → pos (10 ^ 6) ⩽ x → pos 0 ⋖ x
above h = omega (arith, ints)

module _ (m : ℕ) (t : List ℤ) (some : 1 ≤ m) (small : Small m (10 ^ 10) t) where
  -- the cumulative shares from the sums are those of the triangle
  same_bounds : every m (λ j. bounded (g_of m (a_sums m t) (b_sums m t) j)) ≡ every m (λ j. bounded (g m t j))
  same_bounds = every_ext (λ j. bounded (g_of m (a_sums m t) (b_sums m t) j)) (λ j. bounded (g m t j)) m (λ j h. ap bounded (g_of_is m t small.few j h))

  pub bounds_are : (given : Option (List ℤ)) → Bounded m (g_of m (a_sums m t) (b_sums m t)) given → Bounded m (g m t) given
  bounds_are (Some list) h = (rw same_bounds at h.0, h.1 ∙ listed_ext 20 m (g_of m (a_sums m t) (b_sums m t)) (g m t) (pos 0) (g_of_is m t small.few))
  bounds_are None h = rw same_bounds at h

  pub list_is : (list : List ℤ) → Bounded m (g_of m (a_sums m t) (b_sums m t)) (Some list) → list ≡ g_list m t
  unfolding g_list
  list_is list h = (bounds_are (Some list) h).1

  pub steps : ((j : ℕ) → 1 ≤ j → j < m → pos 0 ⋖ B m t j) → Steps m (a_sums m t) (b_sums m t)
  steps columns = record {
    some = some;
    few = small.few;
    over = λ k h. rw (at_a_sums m t small.few k h) (A-small m (10 ^ 10) t small (suc k) (omega arith));
    under = λ k h. rw (at_b_sums m t small.few k h) (columns (suc k) (omega arith) (omega arith), B-small m (10 ^ 10) t small (suc k) (omega arith));
  }

  module _ (ok : every m (λ j. bounded (g m t j)) ≡ true) where
    pub ready : Ready m (latests m t) (g_list m t)
    ready = record {
      bounds = record { some = some; few = small.few; shares = λ k h. rw (at_g_list m t small.few k h) (bounded_so _ (every_at (λ j. bounded (g m t j)) m k ok h)) };
      sums = λ k h. rw (at_latests m t small.few k h) (latest_small m (10 ^ 10) t small (suc k) (omega arith) h);
    }

  -- of cells that are not negative each is in its bounds where g(0) is at least 10^6
  pub bounded_first : NotNegative m t → ((j : ℕ) → 1 ≤ j → j < m → pos 0 ⋖ B m t j) → every m (λ j. bounded (g m t j)) ≡ le_z (pos (10 ^ 6)) (g m t 0)
  bounded_first cells columns =
      by_test (le_z (pos (10 ^ 6)) (g m t 0))
      (λ e. let low : pos (10 ^ 6) ⩽ g m t 0 = le_yes e in
      let sound : Sound m t = record { cells = cells; columns = columns; first = above low } in
      every_all (λ j. bounded (g m t j)) m
      (λ j h. within_yes _ _ (g m t j) (≤ℤ_trans low (g_down_lem m t sound 0 j (omega arith) h)) (≤ℤ_trans (g_range m t sound j h).1 S-most)) ∙ sym e)
      (λ e. every_no (λ j. bounded (g m t j)) m 0 some (rw e) ∙ sym e)
