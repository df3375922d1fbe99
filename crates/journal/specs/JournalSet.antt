-- The triangles of an accepted journal are a set on whatever line: the writer refuses it for
-- nothing but want of room, and it reads back the same. Assumes nothing.
use Rattle.std.specs.Prelude.{ℕ, ◌+◌, ◌-◌, ◌*◌, ◌≤◌, ◌≡◌, true, cond, List, ℤ, pos, replicate}
use Rattle.std.proofs.Common.{arith, subst}
use Rattle.std.proofs.Math.Bool.{false}
use Rattle.model.specs.Records.{cell, triangle, given_set, is_line, in_range, records}
use Rattle.model.specs.RecordsLaws.{triangle_again}
use Rattle.model.specs.Questions.{first_no, q1, each_cell, q5_writer, q7_writer}
use Rattle.model.specs.QuestionsLaws.{each_cell_all}
use Rattle.model.specs.Lengths.{size_so}
use Rattle.model.specs.SetFile.{file_of}
use Rattle.model.specs.Journal.{reports, payments}
use Rattle.model.specs.Calls.{read_answer, accepted_read, write_refusal, replay_refusal}
use Rattle.model.specs.Tests.{by_test}
use Rattle.model.specs.declared.TriangleSet.{TriangleSet}
use Rattle.set_file.specs.RoundTrip.{read_back}
use Rattle.journal.specs.ByCell.{counts_ranged, paid_ranged}
use Rattle.journal.specs.Replays.{all_accepted, counts_after, paid_after}

-- the set of a journal on a line, without incurred
unfoldable pub journal_set : ℕ → ℕ → List ℕ → TriangleSet
journal_set m v f =
    record {
      line = v;
      has_incurred = false;
      counts = triangle m (reports f);
      paid = triangle m (payments f);
      incurred = replicate 400 (pos 0);
    }

module _ (m : ℕ) (f : List ℕ) (accepted : replay_refusal m f ≡ 0) where
  size : q1 m ≡ true
  size = (all_accepted m f accepted).0

  few : m ≤ 20
  few = (size_so m size).1

  counts_ok : each_cell m (λ i j. in_range 0 (cell (triangle m (reports f)) i j)) ≡ true
  counts_ok =
      each_cell_all m _ (λ i j h l. subst (λ (a : List ℤ). in_range 0 (cell a i j) ≡ true) (counts_after m f accepted)
      (counts_ranged m f size (records f) (all_accepted m f accepted).1 (20 * (i - 1) + j) (omega (arith, few))))

  paid_ok : each_cell m (λ i j. in_range 1 (cell (triangle m (payments f)) i j)) ≡ true
  paid_ok =
      each_cell_all m _ (λ i j h l. subst (λ (a : List ℤ). in_range 1 (cell a i j) ≡ true) (paid_after m f accepted)
      (paid_ranged m f size (records f) (all_accepted m f accepted).1 (20 * (i - 1) + j) (omega (arith, few))))

  -- question 5 of the writer, whatever is lent as incurred
  pub journal_in_range : (e : List ℤ) → q5_writer m false (triangle m (reports f)) (triangle m (payments f)) e ≡ true
  unfolding q5_writer
  journal_in_range e = rw (counts_ok, paid_ok)

  -- the writer's refusal: 7 for want of room, and nothing else
  pub room_only : (v : ℕ) → is_line v ≡ true → (e : List ℤ) (room : ℕ) → write_refusal m v false (triangle m (reports f)) (triangle m (payments f)) e room ≡ cond (q7_writer m false room) 0 7
  unfolding write_refusal first_no
  room_only v line e room = rw (size, line, journal_in_range e) (by_test (q7_writer m false room) (λ y. rw y) (λ y. rw y))

  -- what the writer is given is the journal's set
  pub journal_given : (v : ℕ) (e : List ℤ) → given_set m v false (triangle m (reports f)) (triangle m (payments f)) e ≡ journal_set m v f
  unfolding given_set journal_set
  journal_given v e = rw (triangle_again m (reports f) few, triangle_again m (payments f) few)

  -- and the reader hands back the same of its file
  pub journal_back : (v : ℕ) → is_line v ≡ true → read_answer m (file_of m (journal_set m v f)) ≡ accepted_read (journal_set m v f)
  journal_back v line =
      let none = replicate 400 (pos 0) in
      subst (λ (s : TriangleSet). read_answer m (file_of m s) ≡ accepted_read s) (journal_given v none)
      (read_back m v (triangle m (reports f)) (triangle m (payments f)) none size false line (journal_in_range none))
