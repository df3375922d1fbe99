-- From the answers of the questions to `ReadInto`. Assumes nothing.
use Prim.Native.Nat.{ℕ, suc, ◌*◌}
use native.Mathlib.Omega.{arith}
use mathlib.Core.Path.{◌≡◌, sym, ◌∙◌}
use mathlib.Core.Bool.{Bool, true, false, cond}
use mathlib.Core.List.{List, [], ◌∷◌}
use lib.IntN.{ℤ}
use lib.ListN.{length}
use Rattle.model.specs.Lists.{every}
use Rattle.model.specs.Records.{line_of, records, set_length, has_incurred, set_of}
use Rattle.model.specs.Questions.{q1, q2, q3, q4, q5, kinds, first_no, of_records, of_file}
use Rattle.model.specs.Calls.{read_refusal}
use Rattle.model.specs.Lengths.{size_so, length_yes, length_so}
use Rattle.model.specs.Lent.{ReadInto}
use Rattle.model.specs.Tests.{by_test}
use Rattle.records.specs.OneRecord.{well_formed, q3_formed, ranged}
use Rattle.records.specs.Places.{cells_of}
use Rattle.triangles.specs.Keys.{fresh, RecordsRead}
use Rattle.triangles.proofs.Once.{cell_keys, fourth, triangle_key}

full_number : (has_incurred : Bool) (n x k : ℕ) → 2 * n ≡ x → 16 * k ≡ cond has_incurred 24 16 * x → kinds has_incurred * n ≡ k
unfolding kinds
full_number true n x k e g = omega arith
full_number false n x k e g = omega arith

module _ (m : ℕ) (f : List ℕ) (set : List ℤ) where
  no : (n : ℕ) → read_refusal m f ≡ suc n → ReadInto m f (suc n) set
  no n e = record { result = sym e; holds = λ z. absurd (omega arith) }

  pub no_1 : q1 m ≡ false → ReadInto m f 1 set
  unfolding read_refusal first_no of_file
  no_1 a = no 0 (rw a)

  module _ (a : q1 m ≡ true) where
    pub no_2 : (length f ≡ set_length m (has_incurred m f) → ⊥) → ReadInto m f 2 set
    unfolding read_refusal first_no of_file
    no_2 o = no 1 (by_test (q2 m f) (λ y. absurd (o (length_so m f y))) (λ y. rw (a, y)))

    module _ (n : ℕ) (long : length f ≡ 16 * n) (sized : 16 * n ≡ set_length m (has_incurred m f)) where
      abbrev u : ℕ
      u = kinds (has_incurred m f)

      all : n ≡ records f
      all = omega arith

      third : every n (well_formed m u (line_of f) f) ≡ q3 m f
      third = rw all (sym (q3_formed m f))

      once : every n (well_formed m u (line_of f) f) ≡ true → every n (fresh f) ≡ q4 m f
      unfolding q4
      once formed =
          let full = cell_keys m u ∙ full_number (has_incurred m f) _ _ n (cells_of m (size_so m a).1) sized in
          fourth m u (line_of f) f n (size_so m a).1 formed full all

      questions : read_refusal m f ≡ first_no ((3, every n (well_formed m u (line_of f) f)) ∷ (4, every n (fresh f)) ∷ (5, every n (ranged f)) ∷ [])
      unfolding read_refusal first_no of_file of_records q5 ranged
      questions =
          rw (a, (length_yes m f (size_so m a).0 (has_incurred m f) (long ∙ sized)).0, ← third, ← all)
          (by_test (every n (well_formed m u (line_of f) f)) (λ y. rw (y, once y)) (λ y. rw y))

      pub read_so : (r : ℕ) → RecordsRead m u (line_of f) f n r set → ReadInto m f r set
      unfolding first_no set_of
      read_so r is =
          record {
            result = is.result ∙ sym questions;
            holds = λ z. by_test (every n (well_formed m u (line_of f) f))
                (λ y. let triangle = triangle_key m u (line_of f) f n (size_so m a).1 y in
                rw (triangle 0 set (omega arith) all (is.values z), triangle 1 set (omega arith) all (is.values z), triangle 2 set (omega arith) all (is.values z)))
                (λ y. let three : r ≡ 3 = is.result ∙ rw y in absurd (omega arith));
          }
