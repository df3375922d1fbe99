-- A file that the reader accepts: the writer takes its set. Each value is in range, since each cell
-- is the value of its one record. Assumes nothing.
use Rattle.std.specs.Prelude.{◌≡◌, Bool, List, ℤ, pos}
use Rattle.std.proofs.Math.Path.{refl, subst}
use Rattle.std.proofs.Common.{sym, ◌∙◌, arith, eqb-true}
use Rattle.std.proofs.Math.Bool.{true, cond}
use Prim.Native.Nat.{ℕ, zero, suc, ◌+◌, ◌≤◌, ◌<◌}
use Rattle.std.proofs.Math.Dec.{eqb}
use Rattle.std.proofs.Math.IntN.{+ℤ_idl, +ℤ_idr}
use Rattle.integers.specs.Sums.{sum}
use Rattle.model.specs.Lists.{total, count}
use Rattle.model.specs.ListsLaws.{every_at, and_left}
use Rattle.model.specs.Records.{cell, kind_at, line_of, value_at, records, is_of, copies, value_of, has_incurred, triangle, set_of, is_line, in_range}
use Rattle.model.specs.RecordsLaws.{cell_triangle}
use Rattle.model.specs.Questions.{q1, q2, q3, q4, q5, q5_writer, kinds, each_cell, of_file, of_records}
use Rattle.model.specs.QuestionsLaws.{EachYes, numbered, each_yes, each_cell_at, each_cell_all}
use Rattle.model.specs.Calls.{read_refusal}
use Rattle.model.specs.Lengths.{size_so, length_so, set_least}
use Rattle.model.specs.Tests.{by_test}
use Rattle.model.specs.declared.TriangleSet.{TriangleSet}
use Rattle.records.specs.OneRecord.{q3_formed, line_so}

-- ---- a sum over the numbers that p says yes to
module _ (p : ℕ → Bool) (v : ℕ → ℤ) where
  picked : ℕ → ℤ
  picked k = cond (p k) (v k) (pos 0)

  -- p says yes to none
  none_picked : (n : ℕ) → count n p ≡ 0 → sum n picked ≡ pos 0
  unfolding count total sum picked
  none_picked zero e = refl
  none_picked (suc n) e =
      by_test (p n) (λ q. let l = rw q at e in absurd (omega arith))
      (λ q. let l = rw q at e in rw (q, +ℤ_idr (sum n picked)) (none_picked n (omega arith)))

  -- p says yes to one
  one_picked : (Q : ℤ → Type 0) (n : ℕ) → ((k : ℕ) → k < n → p k ≡ true → Q (v k)) → count n p ≡ 1 → Q (sum n picked)
  unfolding count total sum picked
  one_picked Q zero h e = absurd (omega arith)
  one_picked Q (suc n) h e =
      by_test (p n) (λ q. let l = rw q at e in rw (q, none_picked n (omega arith), +ℤ_idl (v n)) (h n (omega arith) q))
      (λ q. let l = rw q at e in rw (q, +ℤ_idr (sum n picked)) (one_picked Q n (λ k u. h k (omega arith)) (omega arith)))

-- ---- the cells of a file
module _ (m : ℕ) (f : List ℕ) (few : m ≤ 20) (once : q4 m f ≡ true) (values : q5 m f ≡ true) where
  value_in : (t i j : ℕ) → t < kinds (has_incurred m f) → 1 ≤ i → i + j ≤ m → in_range t (value_of f t i j) ≡ true
  unfolding q4 q5 copies value_of picked is_of
  value_in t i j h l u =
      one_picked (is_of f t i j) (value_at f) (λ z. in_range t z ≡ true) (records f)
      (λ k b e. subst (λ (x : ℕ). in_range x (value_at f k) ≡ true) (eqb-true (kind_at f k) t (and_left _ _ (and_left _ _ e)))
      (every_at (λ k. in_range (kind_at f k) (value_at f k)) (records f) k values b))
      (eqb-true _ 1 (each_cell_at m (λ i j. eqb (copies f t i j) 1) (every_at (λ t. each_cell m (λ i j. eqb (copies f t i j) 1)) (kinds (has_incurred m f)) t once h) i j l u))

  cells_in : (t : ℕ) → t < kinds (has_incurred m f) → each_cell m (λ i j. in_range t (cell (triangle m (value_of f t)) i j)) ≡ true
  cells_in t h = each_cell_all m _ (λ i j l u. rw (cell_triangle m (value_of f t) i j few l u) (value_in t i j h l u))

  pub set_in : q5_writer m (has_incurred m f) (triangle m (value_of f 0)) (triangle m (value_of f 1)) (triangle m (value_of f 2)) ≡ true
  unfolding q5_writer kinds
  set_in = rw (cells_in 0 (some_kinds 0 (omega arith)), cells_in 1 (some_kinds 1 (omega arith))) (by_test (has_incurred m f) (λ e. rw e (cells_in 2 (rw e (omega arith)))) (λ e. rw e))
    where
      some_kinds : (t : ℕ) → t < 2 → t < cond (has_incurred m f) 3 2
      some_kinds t h = by_test (has_incurred m f) (λ e. rw e (omega arith)) (λ e. rw e h)

-- a set that passes the writer's questions 1, 3 and 5
pub record Writable (m : ℕ) (s : TriangleSet) : Type 0 where
  pub size : q1 m ≡ true
  pub line : is_line s.line ≡ true
  pub values : q5_writer m s.has_incurred s.counts s.paid s.incurred ≡ true

-- a file that the reader accepts has records, and such a set
module _ (m : ℕ) (f : List ℕ) (accepted : read_refusal m f ≡ 0) where
  pub read_some : 0 < records f
  unfolding read_refusal of_file of_records numbered
  read_some =
      let h : EachYes (of_file m f) = each_yes (of_file m f) refl accepted in
      let size : q1 m ≡ true = search in
      let long : q2 m f ≡ true = search in
      omega (arith, length_so m f long, set_least m (has_incurred m f) (size_so m size).0)

  pub writable : Writable m (set_of m f)
  unfolding read_refusal of_file of_records numbered set_of
  writable =
      let h : EachYes (of_file m f) = each_yes (of_file m f) refl accepted in
      let size : q1 m ≡ true = search in
      let formed : q3 m f ≡ true = search in
      let once : q4 m f ≡ true = search in
      let ranged : q5 m f ≡ true = search in
      record {
        size = size;
        line = (line_so m (kinds (has_incurred m f)) (line_of f) f (records f) read_some (sym (q3_formed m f) ∙ formed)).0;
        values = set_in m f (size_so m size).1 once ranged;
      }
