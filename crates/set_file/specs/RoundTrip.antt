-- The file of a set that the writer is given: how long it is, that each cell stands in it once, and
-- that it is read back as the set (`read_back`). Assumes nothing.
use Prim.Native.Nat.{ℕ, zero, suc, ◌+◌, ◌<◌, ◌≤◌}
use native.Mathlib.Omega.{arith}
use Rattle.std.specs.Prelude.{◌≡◌, Bool, ◌&&◌, ◌||◌, not, cond, List, length, replicate, ℤ, pos}
use Rattle.std.proofs.Math.Path.{refl}
use Rattle.std.proofs.Common.{ap, ◌∙◌}
use Rattle.std.proofs.Math.Bool.{true, false}
use Rattle.model.specs.Lists.{every, total}
use Rattle.model.specs.ListsLaws.{and_left, and_right}
use Rattle.model.specs.Records.{cell, line_of, records, value_of, set_length, has_incurred, triangle, set_of, given_set, is_line, in_range}
use Rattle.model.specs.Questions.{q1, q2, q3, q4, q5_writer, kinds, each_cell, first_no, of_records, of_file}
use Rattle.model.specs.QuestionsLaws.{each_cell_at}
use Rattle.model.specs.SetFile.{file_of}
use Rattle.model.specs.Calls.{accepted_read, read_refusal, read_answer}
use Rattle.model.specs.Lengths.{kinds_range, size_so, length_yes, set_least}
use Rattle.records.specs.OneRecord.{well_formed, q3_formed, line_so}
use Rattle.writer.specs.Written.{lent_kind, set_bytes}
use Rattle.writer.proofs.FileBytes.{file_bytes}
use Rattle.writer.proofs.WrittenLaws.{in_kind_lem, length_kinds, third, fourth, fifth, triangle_held, triangle_none}

module _ (m v : ℕ) (c d e : List ℤ) (size : q1 m ≡ true) where
  -- the file, as the bytes of the lists
  is_bytes : (there : Bool) → file_of m (given_set m v there c d e) ≡ set_bytes m v there c d e
  is_bytes = file_bytes m (size_so m size).1 v c d e

  long : (there : Bool) → length (set_bytes m v there c d e) ≡ set_length m there
  unfolding set_bytes kinds total
  long true = let n = in_kind_lem m (size_so m size).1 in length_kinds m v (lent_kind c d e) 3 ∙ omega arith
  long false = let n = in_kind_lem m (size_so m size).1 in length_kinds m v (lent_kind c d e) 2 ∙ omega arith

  pub length_file : (there : Bool) → length (file_of m (given_set m v there c d e)) ≡ set_length m there
  length_file there = ap length (is_bytes there) ∙ long there

  -- question 5 of the writer, by kind
  abbrev fine : ℕ → Bool
  fine t = each_cell m (λ i j. in_range t (cell (lent_kind c d e t) i j))

  of_kind_lem : (there : Bool) → q5_writer m there c d e ≡ true → (t : ℕ) → t < kinds there → fine t ≡ true
  unfolding q5_writer lent_kind kinds
  of_kind_lem there h zero l = and_left (fine 0) (fine 1) (and_left (fine 0 && fine 1) (not there || fine 2) h)
  of_kind_lem there h (suc zero) l = and_right (fine 0) (fine 1) (and_left (fine 0 && fine 1) (not there || fine 2) h)
  of_kind_lem true h (suc (suc zero)) l = and_right (fine 0 && fine 1) (fine 2) h
  of_kind_lem false h (suc (suc zero)) l = absurd (omega arith)
  of_kind_lem true h (suc (suc (suc t))) l = absurd (omega arith)
  of_kind_lem false h (suc (suc (suc t))) l = absurd (omega arith)

  module _ (there : Bool) (line : is_line v ≡ true) (ok : q5_writer m there c d e ≡ true) where
    abbrev written : List ℕ
    written = set_bytes m v there c d e

    in_range_lem : (t i j : ℕ) → t < kinds there → 1 ≤ i → i + j ≤ m → in_range t (cell (lent_kind c d e t) i j) ≡ true
    in_range_lem t i j k l b = each_cell_at m _ (of_kind_lem there ok t k) i j l b

    second : (q2 m written ≡ true) × (there ≡ has_incurred m written)
    second = length_yes m written (size_so m size).0 there (long there)

    once : q4 m written ≡ true
    unfolding q4 set_bytes
    once = rw (← second.1) (fourth m v (lent_kind c d e) (kinds there))

    formed : every (records written) (well_formed m (kinds there) v written) ≡ true
    unfolding set_bytes
    formed = third m v (lent_kind c d e) (kinds there) line

    line_back : line_of written ≡ v
    line_back = (line_so m (kinds there) v written (records written) (omega (arith, long there, set_least m there (size_so m size).0)) formed).1

    all_formed : q3 m written ≡ true
    all_formed = q3_formed m written ∙ rw (← second.1, line_back) formed

    accepted : read_refusal m written ≡ 0
    unfolding read_refusal first_no of_file of_records set_bytes
    accepted = rw (size, second.0, all_formed, once, fifth m v (lent_kind c d e) (kinds there) in_range_lem)

    last : (b : Bool) → there ≡ b → triangle m (value_of written 2) ≡ cond b (triangle m (cell e)) (replicate 400 (pos 0))
    unfolding set_bytes kinds lent_kind
    last true z = triangle_held m v (lent_kind c d e) (kinds there) in_range_lem 2 (rw z (omega arith))
    last false z = triangle_none m v (lent_kind c d e) (kinds there) 2 (rw z (omega arith))

    set_back : set_of m written ≡ given_set m v there c d e
    unfolding set_of given_set set_bytes lent_kind
    set_back =
        rw (
          line_back,
          ← second.1,
          triangle_held m v (lent_kind c d e) (kinds there) in_range_lem 0 (omega (arith, kinds_range there)),
          triangle_held m v (lent_kind c d e) (kinds there) in_range_lem 1 (omega (arith, kinds_range there)),
          last there refl,
        )

    pub once_each : q4 m (file_of m (given_set m v there c d e)) ≡ true
    once_each = ap (q4 m) (is_bytes there) ∙ once

    -- the reader hands back the set that was given
    pub read_back : read_answer m (file_of m (given_set m v there c d e)) ≡ accepted_read (given_set m v there c d e)
    unfolding read_answer
    read_back = rw (is_bytes there, accepted, set_back)
