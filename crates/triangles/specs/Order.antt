-- Files with the same records in any order have the same answers to questions 1 to 5 and, where
-- each is a yes, the same set (01, Triangle records). Assumes nothing.
use Rattle.std.specs.Prelude.{◌≡◌, ℕ, zero, suc, pos, length}
use Rattle.std.proofs.Math.Path.{refl, sym, ap}
use Rattle.std.proofs.Common.{◌∙◌, arith}
use Rattle.std.proofs.Math.Bool.{true}
use mathlib.Core.List.{List, Permᴰ}
use Rattle.std.proofs.Math.Dec.{eqb}
use Rattle.model.specs.Lists.{tabulate, every, count}
use Rattle.model.specs.ListsLaws.{every_ext, every_none}
use Rattle.model.specs.Records.{line_of, records, value_at, copies, value_of, has_incurred, triangle, set_of}
use Rattle.model.specs.RecordsLaws.{triangle_ext}
use Rattle.model.specs.Questions.{q2, q3, q4, q5, kinds, each_cell, of_records, of_file}
use Rattle.model.specs.QuestionsLaws.{EachYes, numbered, each_yes}
use Rattle.model.specs.Calls.{read_refusal}
use Rattle.model.specs.Tests.{same_test}
use Rattle.records.specs.Folds.{Monoid, alls, totals, sums, fold_ext, fold_list_lem, fold_list, fold_list_perm, every_fold, total_fold, sum_fold}
use Rattle.triangles.specs.ReadCells.{read_some}
use Rattle.records.specs.OneRecord.{record_at, Local, well_formed, well_formed_local, ranged, ranged_local, of_cell, of_cell_local, value_local, over, q3_formed, line_so}

-- the records of a file, each its 16 bytes
unfoldable pub records_of : List ℕ → List (List ℕ)
records_of f = tabulate (records f) (record_at f)

-- two files of one length, whose lists of records are permutations of each other
pub record SameRecords (f g : List ℕ) : Type 0 where
  pub long : length f ≡ length g
  pub order : Permᴰ (records_of f) (records_of g)

-- records that are well formed on a line are so on the file's
own_line : (m u v : ℕ) (f : List ℕ) (n : ℕ) → every n (well_formed m u v f) ≡ true → every n (well_formed m u (line_of f) f) ≡ true
own_line m u v f zero h = every_none _
own_line m u v f (suc n) h = rw (line_so m u v f (suc n) (omega arith) h).1 h

over_list : {A : Type 0} (M : Monoid A) (G : List ℕ → ℕ → A) → Local G → (f : List ℕ) → over M G f ≡ fold_list M (λ r. G r 0) (records_of f)
unfolding over records_of
over_list M G h f = fold_ext M (records f) (G f) (λ k. G (record_at f k) 0) (λ k l. h f k) ∙ fold_list_lem M (λ r. G r 0) (records f) (record_at f)

module _ (f g : List ℕ) (same : SameRecords f g) where
  over_order : {A : Type 0} (M : Monoid A) (G : List ℕ → ℕ → A) → Local G → over M G f ≡ over M G g
  over_order M G h = over_list M G h f ∙ fold_list_perm M (λ r. G r 0) same.order ∙ sym (over_list M G h g)

  copies_order : (t i j : ℕ) → copies f t i j ≡ copies g t i j
  unfolding copies count over of_cell
  copies_order t i j =
      total_fold _ _ ∙ over_order totals (of_cell 0 (λ f k. 1) t i j) (of_cell_local 0 (λ f k. 1) t i j (λ f k. refl)) ∙ sym (total_fold _ _)

  value_order : (t i j : ℕ) → value_of f t i j ≡ value_of g t i j
  unfolding value_of over of_cell
  value_order t i j =
      sum_fold _ _ ∙ over_order sums (of_cell (pos 0) value_at t i j) (of_cell_local (pos 0) value_at t i j value_local) ∙ sym (sum_fold _ _)

  module _ (m : ℕ) where
    has_incurred_order : has_incurred m f ≡ has_incurred m g
    unfolding has_incurred
    has_incurred_order = rw same.long

    q2_order : q2 m f ≡ q2 m g
    unfolding q2
    q2_order = rw same.long

    formed_order : (u v : ℕ) → every (records f) (well_formed m u v f) ≡ every (records g) (well_formed m u v g)
    unfolding over
    formed_order u v = every_fold _ _ ∙ over_order alls (well_formed m u v) (well_formed_local m u v) ∙ sym (every_fold _ _)

    own_formed : (u : ℕ) → every (records f) (well_formed m u (line_of f) f) ≡ every (records g) (well_formed m u (line_of g) g)
    own_formed u =
        same_test _ _ (λ h. own_line m u (line_of f) g (records g) (sym (formed_order u (line_of f)) ∙ h))
        (λ h. own_line m u (line_of g) f (records f) (formed_order u (line_of g) ∙ h))

    q3_order : q3 m f ≡ q3 m g
    q3_order = q3_formed m f ∙ rw (has_incurred_order) (own_formed (kinds (has_incurred m g)) ∙ sym (q3_formed m g))

    q4_order : q4 m f ≡ q4 m g
    unfolding q4 each_cell
    q4_order =
        rw (has_incurred_order)
        (every_ext _ _ (kinds (has_incurred m g)) (λ t h. every_ext _ _ m (λ k l. every_ext _ _ _ (λ j b. ap (λ (n : ℕ). eqb n 1) (copies_order t _ j)))))

    q5_order : q5 m f ≡ q5 m g
    unfolding q5 over ranged
    q5_order = every_fold _ _ ∙ over_order alls ranged ranged_local ∙ sym (every_fold _ _)

    triangle_order : (t : ℕ) → triangle m (value_of f t) ≡ triangle m (value_of g t)
    triangle_order t = triangle_ext m (value_of f t) (value_of g t) (λ i j l b. value_order t i j)

    pub read_refusal_order : read_refusal m f ≡ read_refusal m g
    unfolding read_refusal of_file of_records
    read_refusal_order = rw (q2_order, q3_order, q4_order, q5_order)

    -- an accepted file
    module _ (accepted : read_refusal m f ≡ 0) where
      line_order : line_of g ≡ line_of f
      unfolding read_refusal of_file of_records numbered
      line_order =
          let h : EachYes (of_file m f) = each_yes (of_file m f) refl accepted in
          let formed : q3 m f ≡ true = search in
          (line_so m (kinds (has_incurred m f)) (line_of f) g (records g) (read_some m g (sym read_refusal_order ∙ accepted))
          (sym (formed_order (kinds (has_incurred m f)) (line_of f)) ∙ sym (q3_formed m f) ∙ formed)).1

      pub set_order : set_of m f ≡ set_of m g
      unfolding set_of
      set_order = rw (line_order, has_incurred_order, triangle_order 0, triangle_order 1, triangle_order 2)
