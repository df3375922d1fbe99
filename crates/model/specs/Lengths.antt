-- Laws of questions 1 and 2, how large m(m+1) is, and how many kinds there are. Assumes nothing.
use Rattle.std.specs.Prelude.{ℕ, ◌+◌, ◌*◌, ◌≤◌, ◌≡◌, Bool, List, leb, eqb, length}
use Rattle.std.proofs.Common.{mul-le-mul, arith, ◌∙◌}
use Rattle.std.proofs.Math.Path.{sym}
use Rattle.std.proofs.Math.Bool.{true, false, or-false, or-true}
use borrow.Author.Tests.{leb-true, eq-eqb, ne_eqb, eqb-true}
use Rattle.model.specs.ListsLaws.{and_left, and_right}
use Rattle.model.specs.Records.{set_length, has_incurred}
use Rattle.model.specs.Questions.{q1, q2, kinds}
use Rattle.model.specs.Tests.{by_test}

pub cells_most : (m : ℕ) → m ≤ 20 → m * (m + 1) ≤ 420
cells_most m hi = let h : m + 1 ≤ 21 = omega arith in mul-le-mul hi h

cells_least : (m : ℕ) → 2 ≤ m → 6 ≤ m * (m + 1)
cells_least m lo = let h : 3 ≤ m + 1 = omega arith in mul-le-mul lo h

pub set_most : (m : ℕ) (there : Bool) → m ≤ 20 → set_length m there ≤ 10080
set_most m true hi = omega (arith, cells_most m hi)
set_most m false hi = omega (arith, cells_most m hi)

pub set_least : (m : ℕ) (there : Bool) → 2 ≤ m → 96 ≤ set_length m there
set_least m true lo = omega (arith, cells_least m lo)
set_least m false lo = omega (arith, cells_least m lo)

pub kinds_range : (there : Bool) → (2 ≤ kinds there) × (kinds there ≤ 3)
unfolding kinds
kinds_range true = (omega arith, omega arith)
kinds_range false = (omega arith, omega arith)

-- ---- question 1

pub size_so : (m : ℕ) → q1 m ≡ true → (2 ≤ m) × (m ≤ 20)
unfolding q1
size_so m e = (leb-true 2 m (and_left (leb 2 m) (leb m 20) e), leb-true m 20 (and_right (leb 2 m) (leb m 20) e))

-- ---- question 2

module _ (m : ℕ) (f : List ℕ) where
  pub length_yes : 2 ≤ m → (there : Bool) → length f ≡ set_length m there → (q2 m f ≡ true) × (there ≡ has_incurred m f)
  unfolding q2 has_incurred
  length_yes lo true e = let y = eq-eqb (length f) (set_length m true) e in (rw y (or-true (eqb (length f) (set_length m false))), sym y)
  length_yes lo false e =
      let l = cells_least m lo in
      (rw (eq-eqb (length f) (set_length m false) e), sym (ne_eqb (length f) (set_length m true) (λ z. omega arith)))

  pub length_so : q2 m f ≡ true → length f ≡ set_length m (has_incurred m f)
  unfolding q2 has_incurred
  length_so e =
      by_test (eqb (length f) (set_length m true)) (λ y. rw y (eqb-true (length f) (set_length m true) y))
      (λ y. rw y (eqb-true (length f) (set_length m false) (sym (or-false (eqb (length f) (set_length m false))) ∙ rw y at e)))
