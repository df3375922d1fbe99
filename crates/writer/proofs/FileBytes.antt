-- The bytes of Written are the file of the set. Assumes nothing.
use Prim.Native.Nat.{ℕ, suc, ◌-◌, ◌<◌, ◌≤◌}
use Rattle.std.proofs.Common.{arith}
use Rattle.std.specs.Prelude.{◌≡◌, Bool, List, ℤ}
use Rattle.std.proofs.Math.Path.{ap}
use Rattle.model.specs.Lists.{chained}
use Rattle.model.specs.ListsLaws.{chained_ext}
use Rattle.model.specs.Records.{cell, given_set}
use Rattle.model.specs.Questions.{kinds}
use Rattle.model.specs.SetFile.{word, record_of, of_kind, file_of}
use Rattle.model.specs.declared.TriangleSet.{TriangleSet}
use Rattle.writer.specs.Written.{cell_bytes, year_bytes, kind_bytes, lent_kind, set_bytes, given_cell}

module _ (m : ℕ) (few : m ≤ 20) (v : ℕ) (c d e : List ℤ) where
  module _ (there : Bool) where
    abbrev given : TriangleSet
    given = given_set m v there c d e

    year_bytes_lem :
        (t k : ℕ) → t < kinds there
        → chained (m - k) (λ j. record_of t (suc k) j v (word (cell (of_kind given t) (suc k) j))) ≡ year_bytes v t (lent_kind c d e t) (suc k) (m - k)
    unfolding year_bytes
    year_bytes_lem t k h =
        chained_ext (m - k) (λ j. record_of t (suc k) j v (word (cell (of_kind given t) (suc k) j))) (λ j. cell_bytes v t (lent_kind c d e t) (suc k) j)
        (λ j b. ap (λ (z : ℤ). record_of t (suc k) j v (word z)) (given_cell m few v c d e there t (suc k) j h (omega arith) (omega arith)))

    by_kind : file_of m given ≡ chained (kinds there) (λ t. kind_bytes m v t (lent_kind c d e t))
    unfolding file_of kind_bytes given_set
    by_kind = chained_ext (kinds there) _ _ (λ t h. chained_ext m _ _ (λ k l. year_bytes_lem t k h))

    pub file_bytes : file_of m given ≡ set_bytes m v there c d e
    unfolding set_bytes
    file_bytes = by_kind
