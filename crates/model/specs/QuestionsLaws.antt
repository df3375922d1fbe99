-- Laws of Questions. Assumes nothing.
use Rattle.std.specs.Prelude.{◌≡◌, refl, Bool, true, false, ◌&&◌, cond, List, [], ◌∷◌, ◌++◌, ℕ, suc, ◌+◌, ◌-◌, ◌≤◌, leb, eqb, ℤ}
use Rattle.std.proofs.Common.{sym, ◌∙◌, arith, ne_eqb, eqb-true, leb-true}
use Rattle.std.proofs.Math.Bool.{and-false}
use Rattle.std.specs.Int.Signed.{le_z}
use Rattle.std.proofs.lemmas.Bool.{eqb-false}
use Rattle.integers.specs.Parts.{◌⩽◌, ◌⋖◌}
use Rattle.integers.specs.Order.{le_yes, le_z_true, le_z_false}
use Rattle.model.specs.Lists.{every}
use Rattle.model.specs.ListsLaws.{every_at, every_all, and_left, and_right}
use Rattle.model.specs.Questions.{Question, within, uses_incurred, first_no, each_cell, of_shares, of_delays, of_method, of_forecast}
use Rattle.model.specs.Tests.{by_test}
use Rattle.model.specs.declared.TriangleSet.{TriangleSet}

-- ---- lists of questions

-- each question of a list got a yes: `search` finds a question's answer among the fields, wherever
-- it stands
abbrev pub EachYes : List Question → Type 0
EachYes [] = Unit {0}
EachYes (q ∷ qs) = (q.1 ≡ true) × EachYes qs

-- each question has a number above 0
unfoldable pub numbered : List Question → Bool
numbered [] = true
numbered (q ∷ qs) = leb 1 q.0 && numbered qs

-- no refusal: each listed question got a yes
pub each_yes : (qs : List Question) → numbered qs ≡ true → first_no qs ≡ 0 → EachYes qs
unfolding first_no numbered
each_yes [] h e = tt
each_yes ((n, true) ∷ qs) h e = (refl, each_yes qs (and_right (leb 1 n) (numbered qs) h) e)
each_yes ((n, false) ∷ qs) h e = let l = leb-true 1 n (and_left (leb 1 n) (numbered qs) h) in absurd (omega arith)

pub no_refusal : (qs : List Question) → EachYes qs → first_no qs ≡ 0
unfolding first_no
no_refusal [] h = refl
no_refusal ((n, t) ∷ qs) h = rw h.0 (no_refusal qs h.1)

-- two stages, one after the other
first_append : (xs ys : List Question) → numbered xs ≡ true → first_no (xs ++ ys) ≡ cond (eqb (first_no xs) 0) (first_no ys) (first_no xs)
unfolding first_no numbered
first_append [] ys h = refl
first_append ((n, true) ∷ xs) ys h = first_append xs ys (and_right (leb 1 n) (numbered xs) h)
first_append ((n, false) ∷ xs) ys h = let l = leb-true 1 n (and_left (leb 1 n) (numbered xs) h) in rw (ne_eqb n 0 (λ z. omega arith))

module _ (xs ys : List Question) (h : numbered xs ≡ true) where
  -- the first refuses
  pub stage_no : (first_no xs ≡ 0 → ⊥) → first_no (xs ++ ys) ≡ first_no xs
  stage_no o = first_append xs ys h ∙ rw (ne_eqb (first_no xs) 0 o)

  -- the first passes
  pub stage_yes : first_no xs ≡ 0 → first_no (xs ++ ys) ≡ first_no ys
  stage_yes e = first_append xs ys h ∙ rw e

  -- both pass
  pub stages_so : first_no (xs ++ ys) ≡ 0 → (first_no xs ≡ 0) × (first_no ys ≡ 0)
  stages_so e =
      by_test (eqb (first_no xs) 0) (λ t. let z = eqb-true (first_no xs) 0 t in (z, sym (stage_yes z) ∙ e))
      (λ t. let o = eqb-false (first_no xs) 0 t in absurd (o (sym (stage_no o) ∙ e)))

-- a question that got a yes may have any number
pub passed_over : (xs ys : List Question) (a b : ℕ) → first_no (xs ++ ((a, true) ∷ ys)) ≡ first_no (xs ++ ((b, true) ∷ ys))
unfolding first_no
passed_over [] ys a b = refl
passed_over ((n, true) ∷ xs) ys a b = passed_over xs ys a b
passed_over ((n, false) ∷ xs) ys a b = refl

-- those of a set that is to be forecast
pub forecast_numbered : (m : ℕ) (s : TriangleSet) (p : List ℤ) (method : ℕ) → numbered (of_forecast m s p method) ≡ true
unfolding numbered of_forecast of_shares of_delays of_method
forecast_numbered m s p method = by_test (uses_incurred method) (λ t. rw t) (λ t. rw t)

-- ---- a number between two bounds

module _ (lo hi x : ℤ) where
  pub within_so : within lo hi x ≡ true → (lo ⩽ x) × (x ⩽ hi)
  within_so e = (le_yes (and_left (le_z lo x) (le_z x hi) e), le_yes (and_right (le_z lo x) (le_z x hi) e))

  pub within_yes : lo ⩽ x → x ⩽ hi → within lo hi x ≡ true
  within_yes h l = rw (le_z_true h, le_z_true l)

  pub below_no : x ⋖ lo → within lo hi x ≡ false
  below_no h = rw (le_z_false h)

  pub above_no : hi ⋖ x → within lo hi x ≡ false
  above_no h = rw (le_z_false h) (and-false (le_z lo x))

-- ---- a test of each cell

pub each_cell_at : (m : ℕ) (p : ℕ → ℕ → Bool) → each_cell m p ≡ true → (i j : ℕ) → 1 ≤ i → i + j ≤ m → p i j ≡ true
unfolding each_cell
each_cell_at m p h i j l u =
    let e : suc (i - 1) ≡ i = omega arith in
    rw e at (every_at (λ j. p (suc (i - 1)) j) (m - (i - 1)) j (every_at (λ k. every (m - k) (λ j. p (suc k) j)) m (i - 1) h (omega arith)) (omega arith))

pub each_cell_all : (m : ℕ) (p : ℕ → ℕ → Bool) → ((i j : ℕ) → 1 ≤ i → i + j ≤ m → p i j ≡ true) → each_cell m p ≡ true
unfolding each_cell
each_cell_all m p h = every_all (λ k. every (m - k) (λ j. p (suc k) j)) m (λ k l. every_all (λ j. p (suc k) j) (m - k) (λ j u. h (suc k) j (omega arith) (omega arith)))
