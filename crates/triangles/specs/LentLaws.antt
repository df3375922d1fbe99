-- Laws of Lent: from what the reader leaves in a lent list to its answer. Assumes nothing.
use Rattle.std.specs.Prelude.{◌≡◌, List, ℕ, ◌≤◌, ℤ}
use Rattle.std.proofs.Math.Path.{refl}
use Rattle.std.proofs.Common.{sym, ◌∙◌}
use borrow.Author.Tests.{ne_eqb}
use Rattle.model.specs.Records.{set_of}
use Rattle.model.specs.Questions.{of_records, of_file}
use Rattle.model.specs.QuestionsLaws.{EachYes, numbered, each_yes}
use Rattle.model.specs.Calls.{accepted_read, refused_read, read_refusal, read_answer}
use Rattle.model.specs.Lengths.{size_so}
use Rattle.model.specs.Lent.{lent_set, ReadInto}

module _ (m : ℕ) (f : List ℕ) (n : ℕ) (set : List ℤ) (is : ReadInto m f n set) where
  pub read_no : (n ≡ 0 → ⊥) → refused_read n ≡ read_answer m f
  unfolding read_answer
  read_no o = rw (← is.result, ne_eqb n 0 o)

  module _ (z : n ≡ 0) where
    pub read_size : m ≤ 20
    unfolding read_refusal of_file of_records numbered
    read_size = let h : EachYes (of_file m f) = each_yes (of_file m f) refl (sym is.result ∙ z) in (size_so m h.0).1

    pub read_yes : accepted_read (lent_set (set_of m f) set) ≡ read_answer m f
    unfolding read_answer
    read_yes = rw (is.holds z, ← is.result, z)
