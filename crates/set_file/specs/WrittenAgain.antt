-- What the reader hands back of a file, written again: the file of its set, whatever the order of
-- the records. Assumes nothing.
use Rattle.std.specs.Prelude.{ℕ, ◌≤◌, ◌≡◌, false, cond, List, ◌++◌, pos, length, drop, replicate}
use Rattle.std.proofs.Common.{arith, sym, ap, ◌∙◌}
use Rattle.std.proofs.Math.Path.{refl}
use Rattle.std.proofs.Math.Bool.{true}
use borrow.Author.Tests.{le-leb, ne_eqb, ltb-true}
use Rattle.integers.specs.Sums.{sum_nothing}
use Rattle.model.specs.ListsLaws.{every_at, and_left}
use Rattle.model.specs.Records.{cell, kind_at, records, is_of, value_of, set_length, has_incurred, triangle, set_of, given_set}
use Rattle.model.specs.RecordsLaws.{triangle_again, triangle_zeros}
use Rattle.model.specs.Questions.{q2, q3, q7_writer, kinds, record_ok, first_no, of_records, of_file}
use Rattle.model.specs.QuestionsLaws.{EachYes, numbered, each_yes}
use Rattle.model.specs.Lengths.{size_so, length_so}
use Rattle.model.specs.SetFile.{file_of}
use Rattle.model.specs.Calls.{accepted_read, read_refusal, read_answer, write_refusal, write_output}
use Rattle.model.specs.Tests.{by_test}
use Rattle.model.specs.declared.TriangleSet.{TriangleSet}
use Rattle.model.specs.declared.ReadAnswer.{ReadAnswer}
use Rattle.triangles.specs.Order.{SameRecords, set_order}
use Rattle.triangles.specs.ReadCells.{writable}
use Rattle.set_file.specs.RoundTrip.{read_back}

-- files that differ in the order of their records alone
pub file_order : (f g : List ℕ) → SameRecords f g → (m : ℕ) → read_refusal m f ≡ 0 → file_of m (set_of m f) ≡ file_of m (set_of m g)
file_order f g same m accepted = ap (file_of m) (set_order f g same m accepted)

-- the set of a file that the reader accepts
module _ (m : ℕ) (f : List ℕ) (accepted : read_refusal m f ≡ 0) where
  read_length : length f ≡ set_length m (set_of m f).has_incurred
  unfolding read_refusal of_file of_records numbered set_of
  read_length =
      let h : EachYes (of_file m f) = each_yes (of_file m f) refl accepted in
      let long : q2 m f ≡ true = search in
      length_so m f long

  -- incurred that is not there is zero
  none : has_incurred m f ≡ false → (i j : ℕ) → value_of f 2 i j ≡ pos 0
  unfolding read_refusal of_file of_records numbered q3 record_ok kinds value_of is_of
  none e i j =
      let h : EachYes (of_file m f) = each_yes (of_file m f) refl accepted in
      let formed : q3 m f ≡ true = search in
      sum_nothing (records f)
      (λ k l. let y = rw e at (every_at (record_ok m f) (records f) k formed l) in
      let b = ltb-true (kind_at f k) 2 (and_left _ _ (and_left _ _ (and_left _ _ y))) in
      rw (ne_eqb (kind_at f k) 2 (λ q. omega arith)))

  -- the set is as the writer takes it: zeros stand outside the cells
  set_given : let s = set_of m f in s ≡ given_set m s.line s.has_incurred s.counts s.paid s.incurred
  unfolding set_of given_set
  set_given = rw (again 0, again 1, last)
    where
      again : (t : ℕ) → triangle m (cell (triangle m (value_of f t))) ≡ triangle m (value_of f t)
      again t = triangle_again m (value_of f t) (size_so m (writable m f accepted).size).1

      last : cond (has_incurred m f) (triangle m (cell (triangle m (value_of f 2)))) (replicate 400 (pos 0)) ≡ triangle m (value_of f 2)
      last = by_test (has_incurred m f) (λ e. rw e (again 2)) (λ e. rw e (sym (triangle_zeros m (value_of f 2) (none e))))

  -- the writer takes it, and writes its file
  pub written_again :
      (before : List ℕ) → length f ≤ length before
      → let s = set_of m f in
      (write_refusal m s.line s.has_incurred s.counts s.paid s.incurred (length before) ≡ 0)
      × (write_output m s.line s.has_incurred s.counts s.paid s.incurred before ≡ file_of m s ++ drop (length f) before)
  unfolding write_output write_refusal first_no q7_writer
  written_again before h =
      let w = writable m f accepted in
      let l = read_length in
      let y = le-leb (set_length m (set_of m f).has_incurred) (length before) (omega arith) in
      (rw (w.size, w.line, w.values, y), rw (w.size, w.line, w.values, y, ← set_given, l))

  -- that file is read as the same set
  pub read_again : read_answer m (file_of m (set_of m f)) ≡ accepted_read (set_of m f)
  read_again =
      let g = set_given in
      let w = writable m f accepted in
      ap (λ (s : TriangleSet). read_answer m (file_of m s)) g ∙ read_back m _ _ _ _ w.size _ w.line w.values ∙ ap accepted_read (sym g)

-- two such files that are written again as one file hold the same set
pub same_written :
    (m : ℕ) (f g : List ℕ) → read_refusal m f ≡ 0 → read_refusal m g ≡ 0 → file_of m (set_of m f) ≡ file_of m (set_of m g) → set_of m f ≡ set_of m g
same_written m f g a b q = ap (λ (x : ReadAnswer). x.set) (sym (read_again m f a) ∙ ap (read_answer m) q ∙ read_again m g b)
