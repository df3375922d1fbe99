-- 02, Job 2: sets of one m, in range, have equal files just where they are equal. A set is what the
-- reader hands back of it (`given_set`): its line (02, Job 7) and its cells count, and whether
-- incurred is there. Assumes nothing.
use Rattle.std.specs.Prelude.{ℕ, ◌+◌, ◌<◌, ◌≤◌, ◌≡◌, Bool, List, ℤ, pos, replicate}
use Rattle.std.proofs.Common.{arith, sym, subst, ◌∙◌}
use Rattle.std.proofs.Math.Path.{refl, ap}
use Rattle.std.proofs.Math.Bool.{true, false, cond}
use Rattle.model.specs.Records.{cell, triangle, given_set, is_line}
use Rattle.model.specs.RecordsLaws.{triangle_ext}
use Rattle.model.specs.Questions.{q1, q5_writer, kinds}
use Rattle.model.specs.Lengths.{size_so, kinds_range}
use Rattle.model.specs.SetFile.{of_kind, file_of}
use Rattle.model.specs.Calls.{read_answer}
use Rattle.model.specs.declared.TriangleSet.{TriangleSet}
use Rattle.model.specs.declared.ReadAnswer.{ReadAnswer}
use Rattle.writer.specs.Written.{lent_kind, given_cell}
use Rattle.set_file.specs.RoundTrip.{read_back}

-- two calls are given equal sets: of one line, with incurred in both or in neither, and every cell
-- of every kind is the same
pub record EqualSets (m v : ℕ) (there : Bool) (c d e : List ℤ) (v' : ℕ) (there' : Bool) (c' d' e' : List ℤ) : Type 0 where
  pub lines : v ≡ v'
  pub flag : there ≡ there'
  pub cells : (t i j : ℕ) → t < kinds there → 1 ≤ i → i + j ≤ m → cell (lent_kind c d e t) i j ≡ cell (lent_kind c' d' e' t) i j

module _ (m : ℕ) (size : q1 m ≡ true) (v : ℕ) (there : Bool) (c d e : List ℤ) (v' : ℕ) (there' : Bool) (c' d' e' : List ℤ) where
  abbrev one : TriangleSet
  one = given_set m v there c d e

  abbrev other : TriangleSet
  other = given_set m v' there' c' d' e'

  abbrev Equal : Type 0
  Equal = EqualSets m v there c d e v' there' c' d' e'

  -- that lists hold equal sets, in other words: the reader hands back the same
  pub one_set : Equal → one ≡ other
  unfolding given_set lent_kind kinds
  one_set h =
      rw (
        ← h.lines,
        ← h.flag,
        triangle_ext m (cell c) (cell c') (λ i j. h.cells 0 i j (omega (arith, kinds_range there))),
        triangle_ext m (cell d) (cell d') (λ i j. h.cells 1 i j (omega (arith, kinds_range there))),
        incurred there refl,
      )
    where
      incurred : (b : Bool) → there ≡ b → cond b (triangle m (cell e)) (replicate 400 (pos 0)) ≡ cond b (triangle m (cell e')) (replicate 400 (pos 0))
      incurred true z = triangle_ext m (cell e) (cell e') (λ i j. h.cells 2 i j (rw z (omega arith)))
      incurred false z = refl

  pub one_set_cells : one ≡ other → Equal
  unfolding given_set
  one_set_cells q = record { lines = ap (λ (s : TriangleSet). s.line) q; flag = flag; cells = cells }
    where
      flag : there ≡ there'
      flag = ap (λ (s : TriangleSet). s.has_incurred) q

      cells : (t i j : ℕ) → t < kinds there → 1 ≤ i → i + j ≤ m → cell (lent_kind c d e t) i j ≡ cell (lent_kind c' d' e' t) i j
      cells t i j h l b =
          let few = (size_so m size).1 in
          sym (given_cell m few v c d e there t i j h l b) ∙ ap (λ (s : TriangleSet). cell (of_kind s t) i j) q
          ∙ given_cell m few v' c' d' e' there' t i j (subst (λ (x : Bool). t < kinds x) flag h) l b

  -- equal sets, equal files
  pub equal_files : Equal → file_of m one ≡ file_of m other
  equal_files h = ap (file_of m) (one_set h)

  -- equal files, equal sets
  module _ (line : is_line v ≡ true) (line' : is_line v' ≡ true) (ok : q5_writer m there c d e ≡ true) (ok' : q5_writer m there' c' d' e' ≡ true) where
    pub equal_sets : file_of m one ≡ file_of m other → Equal
    equal_sets q =
        one_set_cells
        (ap (λ (a : ReadAnswer). a.set) (sym (read_back m v c d e size there line ok) ∙ ap (read_answer m) q ∙ read_back m v' c' d' e' size there' line' ok'))

    -- different sets, different files
    pub different_files : (Equal → ⊥) → file_of m one ≡ file_of m other → ⊥
    different_files n q = n (equal_sets q)
