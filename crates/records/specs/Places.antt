-- The cells of a triangle by their places in a list of 400: cell (i,j) stands at 20 × (i-1) + j, so
-- place p is cell (p / 20 + 1, p % 20). Assumes nothing.
use Rattle.std.specs.Prelude.{◌≡◌, refl, Bool, true, ℕ, ◌+◌, ◌-◌, ◌*◌, ◌/◌, ◌%◌, ◌<◌, ◌≤◌, eqb}
use Rattle.std.proofs.Common.{sym, ◌∙◌, ap₂, arith, eqb-true}
use Rattle.model.specs.Lists.{every, total, count}
use Rattle.model.specs.ListsLaws.{every_at}
use Rattle.model.specs.Records.{inside}
use Rattle.model.specs.RecordsLaws.{inside_yes, inside_so}
use Rattle.model.specs.Questions.{each_cell}
use Rattle.model.specs.QuestionsLaws.{each_cell_at, each_cell_all}

-- place p is a cell of a triangle of m years
abbrev pub inside_at : ℕ → ℕ → Bool
inside_at m p = inside m (p / 20 + 1) (p % 20)

-- ---- a test of each cell, by the places

module _ (m : ℕ) (P : ℕ → ℕ → Bool) where
  pub place_passes : each_cell m P ≡ true → (p : ℕ) → inside_at m p ≡ true → P (p / 20 + 1) (p % 20) ≡ true
  place_passes h p i = let l = inside_so m (p / 20 + 1) (p % 20) i in each_cell_at m P h (p / 20 + 1) (p % 20) l.0 l.1

  module _ (small : m ≤ 20) where
    pub places_pass : ((p : ℕ) → p < 400 → inside_at m p ≡ true → P (p / 20 + 1) (p % 20) ≡ true) → each_cell m P ≡ true
    places_pass h = each_cell_all m P one
      where
        one : (i j : ℕ) → 1 ≤ i → i + j ≤ m → P i j ≡ true
        one i j l b =
            let y : (20 * (i - 1) + j) / 20 + 1 ≡ i = omega arith in
            let d : (20 * (i - 1) + j) % 20 ≡ j = omega arith in
            sym (ap₂ P y d) ∙ h (20 * (i - 1) + j) (omega arith) (ap₂ (inside m) y d ∙ inside_yes m i j l b)

-- ---- how many cells

counted : every 21 (λ m. eqb (2 * count 400 (inside_at m)) (m * (m + 1))) ≡ true
unfolding every total count
counted = refl

pub cells_of : (m : ℕ) → m ≤ 20 → 2 * count 400 (inside_at m) ≡ m * (m + 1)
cells_of m h = eqb-true _ _ (every_at (λ k. eqb (2 * count 400 (inside_at k)) (k * (k + 1))) 21 m counted (omega arith))
