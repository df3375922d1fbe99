-- The bytes that the writer's functions write of the lists that they are lent, record by record.
-- That they are the file of the set is `file_bytes`, in FileBytes of proofs/. Assumes nothing.
use Prim.Native.Nat.{ℕ, zero, suc, ◌+◌, ◌-◌, ◌<◌, ◌≤◌}
use Rattle.std.proofs.Common.{arith}
use Rattle.std.specs.Prelude.{◌≡◌, Bool, List, ℤ}
use Rattle.std.proofs.Math.Bool.{true, false}
use Rattle.model.specs.Lists.{chained}
use Rattle.model.specs.Records.{cell, given_set}
use Rattle.model.specs.RecordsLaws.{cell_triangle}
use Rattle.model.specs.Questions.{kinds}
use Rattle.model.specs.SetFile.{word, record_of, of_kind}

-- the record of cell (i,j) of the list a of kind t, of line v
abbrev pub cell_bytes : ℕ → ℕ → List ℤ → ℕ → ℕ → List ℕ
cell_bytes v t a i j = record_of t i j v (word (cell a i j))

-- the records of the first n cells of year i
unfoldable pub year_bytes : ℕ → ℕ → List ℤ → ℕ → ℕ → List ℕ
year_bytes v t a i n = chained n (λ j. cell_bytes v t a i j)

-- the records of a kind
unfoldable pub kind_bytes : ℕ → ℕ → ℕ → List ℤ → List ℕ
kind_bytes m v t a = chained m (λ k. year_bytes v t a (suc k) (m - k))

-- the list of kind t
unfoldable pub lent_kind : List ℤ → List ℤ → List ℤ → ℕ → List ℤ
lent_kind c d e zero = c
lent_kind c d e (suc zero) = d
lent_kind c d e (suc (suc t)) = e

-- the records of all kinds
unfoldable pub set_bytes : ℕ → ℕ → Bool → List ℤ → List ℤ → List ℤ → List ℕ
set_bytes m v has_incurred c d e = chained (kinds has_incurred) (λ t. kind_bytes m v t (lent_kind c d e t))

module _ (m : ℕ) (few : m ≤ 20) (v : ℕ) (c d e : List ℤ) where
  -- a cell of the set is one of the lists
  pub given_cell : (there : Bool) (t i j : ℕ) → t < kinds there → 1 ≤ i → i + j ≤ m → cell (of_kind (given_set m v there c d e) t) i j ≡ cell (lent_kind c d e t) i j
  unfolding of_kind given_set lent_kind kinds
  given_cell there zero i j h l b = cell_triangle m (cell c) i j few l b
  given_cell there (suc zero) i j h l b = cell_triangle m (cell d) i j few l b
  given_cell true (suc (suc t)) i j h l b = cell_triangle m (cell e) i j few l b
  given_cell false (suc (suc t)) i j h l b = absurd (omega arith)
