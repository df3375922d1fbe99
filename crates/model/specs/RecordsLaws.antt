-- Laws of Records. Assumes nothing.
use Rattle.std.specs.Prelude.{◌≡◌, true, cond, ℕ, ◌+◌, ◌-◌, ◌*◌, ◌/◌, ◌%◌, ◌≤◌, leb, ℤ, pos, replicate}
use Rattle.std.proofs.Common.{sym, ◌∙◌, arith, le-leb, leb-true}
use Rattle.std.proofs.lemmas.List.{length-replicate, get_or-replicate}
use Rattle.model.specs.ListsLaws.{get_d_tabulate, is_tabulate, tabulate_ext, and_left, and_right}
use Rattle.model.specs.Records.{inside, cell, triangle}
use Rattle.model.specs.Tests.{by_test}

pub inside_yes : (m i j : ℕ) → 1 ≤ i → i + j ≤ m → inside m i j ≡ true
inside_yes m i j h l = rw (le-leb 1 i h, le-leb (i + j) m l)

pub inside_so : (m i j : ℕ) → inside m i j ≡ true → (1 ≤ i) × (i + j ≤ m)
inside_so m i j e = (leb-true 1 i (and_left (leb 1 i) (leb (i + j) m) e), leb-true (i + j) m (and_right (leb 1 i) (leb (i + j) m) e))

-- a cell of a triangle that is made cell by cell
pub cell_triangle : (m : ℕ) (v : ℕ → ℕ → ℤ) (i j : ℕ) → m ≤ 20 → 1 ≤ i → i + j ≤ m → cell (triangle m v) i j ≡ v i j
unfolding triangle
cell_triangle m v i j few h l =
    let y : (20 * (i - 1) + j) / 20 + 1 ≡ i = omega arith in
    let d : (20 * (i - 1) + j) % 20 ≡ j = omega arith in
    get_d_tabulate 400 (λ p. cond (inside m (p / 20 + 1) (p % 20)) (v (p / 20 + 1) (p % 20)) (pos 0)) (20 * (i - 1) + j) (pos 0) (omega arith)
    ∙ rw (y, d, inside_yes m i j h l)

-- triangles whose cells are equal
pub triangle_ext : (m : ℕ) (v w : ℕ → ℕ → ℤ) → ((i j : ℕ) → 1 ≤ i → i + j ≤ m → v i j ≡ w i j) → triangle m v ≡ triangle m w
unfolding triangle
triangle_ext m v w h =
    tabulate_ext 400 _ _
    (λ p l. by_test (inside m (p / 20 + 1) (p % 20)) (λ y. let b = inside_so m (p / 20 + 1) (p % 20) y in rw (y, h (p / 20 + 1) (p % 20) b.0 b.1)) (λ y. rw y))

-- the cells of a triangle make it again
pub triangle_again : (m : ℕ) (v : ℕ → ℕ → ℤ) → m ≤ 20 → triangle m (cell (triangle m v)) ≡ triangle m v
triangle_again m v few = triangle_ext m _ _ (λ i j. cell_triangle m v i j few)

-- a triangle of zeros
pub triangle_zeros : (m : ℕ) (v : ℕ → ℕ → ℤ) → ((i j : ℕ) → v i j ≡ pos 0) → triangle m v ≡ replicate 400 (pos 0)
unfolding triangle
triangle_zeros m v h =
    sym
    (is_tabulate 400 _ (replicate 400 (pos 0)) (pos 0) (length-replicate 400 (pos 0))
    (λ p l. get_or-replicate 400 p (pos 0) (pos 0) l ∙ by_test (inside m (p / 20 + 1) (p % 20)) (λ y. rw (y, h (p / 20 + 1) (p % 20))) (λ y. rw y)))
