-- A set that is lent as one list of 1,200 numbers: counts, then paid, then incurred, 400 places
-- each (01, Triangle records).
use Rattle.std.specs.Prelude.{ℕ, ◌+◌, ◌*◌, ◌<◌, ◌≡◌, List, ℤ, pos}
use Rattle.model.specs.Lists.{tabulate, at}
use Rattle.model.specs.ListsLaws.{get_d_tabulate}
use Rattle.model.specs.Records.{set_of}
use Rattle.model.specs.Calls.{read_refusal}
use Rattle.model.specs.declared.TriangleSet.{TriangleSet}

-- the triangle of a kind in such a list: 0 counts, 1 paid, 2 incurred
unfoldable pub triangle_in : ℕ → List ℤ → List ℤ
triangle_in kind set = tabulate 400 (λ p. at set (400 * kind + p))

-- the set that such a list holds, where s says what stands beside the triangles: the list has
-- neither the line nor whether incurred is there
abbrev pub lent_set : TriangleSet → List ℤ → TriangleSet
lent_set s set =
    record {
      line = s.line;
      has_incurred = s.has_incurred;
      counts = triangle_in 0 set;
      paid = triangle_in 1 set;
      incurred = triangle_in 2 set;
    }

-- what the reader leaves in such a list, and its refusal number n: questions 1 to 5, and where each
-- got a yes the file's set
pub record ReadInto (m : ℕ) (f : List ℕ) (n : ℕ) (set : List ℤ) : Type 0 where
  pub result : n ≡ read_refusal m f
  pub holds : n ≡ 0 → lent_set (set_of m f) set ≡ set_of m f

pub at_triangle : (kind p : ℕ) (set : List ℤ) → p < 400 → at (triangle_in kind set) p ≡ at set (400 * kind + p)
unfolding triangle_in
at_triangle kind p set h = get_d_tabulate 400 (λ k. at set (400 * kind + k)) p (pos 0) h
