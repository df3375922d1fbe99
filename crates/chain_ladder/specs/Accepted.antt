-- A file that the reader accepts holds a valid set. Assumes nothing.
use Rattle.std.specs.Prelude.{◌≡◌, List, ℕ, ℤ}
use Rattle.std.proofs.Common.{sym, ◌∙◌, subst}
use Rattle.model.specs.Records.{set_of}
use Rattle.model.specs.Calls.{read_refusal}
use Rattle.model.specs.Lent.{lent_set, ReadInto}
use Rattle.model.specs.declared.TriangleSet.{TriangleSet}
use Rattle.triangles.specs.ReadCells.{writable}
use Rattle.chain_ladder.specs.Valid.{Valid}

pub valid_set : (m : ℕ) (f : List ℕ) → read_refusal m f ≡ 0 → Valid m (set_of m f)
valid_set m f read = let w = writable m f read in record { size = w.size; values = w.values }

-- a file that the reader accepts, and its set s
pub record Accepted (m : ℕ) (f : List ℕ) (s : TriangleSet) : Type 0 where
  pub read : read_refusal m f ≡ 0
  pub valid : Valid m s
  pub is : s ≡ set_of m f

-- what the reader leaves without a refusal
pub accepted : (m : ℕ) (f : List ℕ) {n : ℕ} {set : List ℤ} → ReadInto m f n set → n ≡ 0 → Accepted m f (lent_set (set_of m f) set)
accepted m f e z =
    let read = sym e.result ∙ z in
    let is = e.holds z in
    record { read = read; valid = subst (Valid m) (sym is) (valid_set m f read); is = is }
