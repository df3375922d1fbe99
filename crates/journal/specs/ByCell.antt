-- The triangles of an accepted journal are its reports counted and its payments added by cell.
-- Assumes nothing.
use Prim.Native.Nat.{ℕ, zero, suc, ◌+◌, ◌/◌, ◌%◌, ◌<◌, ◌≤◌}
use Rattle.std.proofs.Common.{arith, ◌∙◌, true≢false, length-set}
use Rattle.std.specs.Prelude.{◌≡◌, Bool, true, false, ◌&&◌, leb, ℤ, ◌+ℤ◌, length, set, replicate}
use Rattle.std.proofs.Math.Path.{refl, sym, ap}
use Rattle.std.proofs.Math.Bool.{cond, and-false, and_assoc}
use mathlib.Core.List.{List, [], ◌∷◌}
use borrow.Author.Tests.{eq-eqb, ne_eqb, eqb-true, eqb-false}
use Rattle.std.proofs.Math.Dec.{eqb}
use Rattle.std.proofs.Math.IntN.{pos, +ℤ_idr}
use Rattle.std.proofs.lemmas.List.{length-replicate}
use Rattle.std.proofs.Math.ListN.{get_or-replicate}
use Rattle.integers.specs.Sums.{sum, sum_cong, sum_nothing}
use Rattle.model.specs.Lists.{at, total, count}
use Rattle.model.specs.ListsLaws.{is_tabulate, and_right}
use Rattle.model.specs.Records.{inside, triangle, in_range}
use Rattle.model.specs.RecordsLaws.{inside_yes}
use Rattle.model.specs.Questions.{first_no, q1}
use Rattle.model.specs.QuestionsLaws.{EachYes, numbered, each_yes}
use Rattle.model.specs.Tests.{by_test}
use Rattle.model.specs.Journal.{transaction_at, booked_at, cell_after, q16, q17, q18, of_booking, of_transaction, booked, no_tally, tally_after, of_transactions, is_entry}
use Rattle.model.specs.declared.JournalTally.{JournalTally}
use Rattle.model.specs.declared.Transaction.{Transaction}
use Rattle.triangles.specs.Stores.{get_d_set}
use Rattle.booking.specs.Good.{Good}
use Rattle.booking.specs.Fields.{one_of, good}
use Rattle.journal.specs.Turns.{accepted_at}

-- ---- triangles that grow cell by cell

-- a starts from zeros; at step k, if b k, v k is added at place q k
module _ (b : ℕ → Bool) (q : ℕ → ℕ) (v : ℕ → ℤ) (a : ℕ → List ℤ) (n : ℕ) (start : a 0 ≡ replicate 400 (pos 0)) (low : (k : ℕ) → k < n → q k < 400)
    (next : (k : ℕ) → k < n → a (suc k) ≡ cond (b k) (set (a k) (q k) (at (a k) (q k) +ℤ v k)) (a k)) where
  pub grown_length : (k : ℕ) → k ≤ n → length (a k) ≡ 400
  grown_length zero h = ap length start ∙ length-replicate 400 (pos 0)
  grown_length (suc k) h =
      let l = grown_length k (omega arith) in
      ap length (next k (omega arith)) ∙ by_test (b k) (λ e. rw e (length-set (a k) (q k) (at (a k) (q k) +ℤ v k) ∙ l)) (λ e. rw e l)

  -- place p after step k
  grown_at : (k p : ℕ) → k < n → at (a (suc k)) p ≡ cond (b k && eqb (q k) p) (at (a k) (q k) +ℤ v k) (at (a k) p)
  grown_at k p h =
      let s : q k < length (a k) = rw (grown_length k (omega arith)) (low k h) in
      ap (λ (c : List ℤ). at c p) (next k h) ∙ by_test (b k) (λ e. rw e (get_d_set (a k) (q k) p (at (a k) (q k) +ℤ v k) (pos 0) s)) (λ e. rw e)

  -- it holds the sum of what was added there
  pub grown : (k p : ℕ) → k ≤ n → p < 400 → at (a k) p ≡ sum k (λ i. cond (b i && eqb (q i) p) (v i) (pos 0))
  unfolding sum
  grown zero p h l = ap (λ (c : List ℤ). at c p) start ∙ get_or-replicate 400 p (pos 0) (pos 0) l
  grown (suc k) p h l =
      let g = grown k p (omega arith) l in
      grown_at k p (omega arith)
      ∙ by_test (b k && eqb (q k) p)
      (λ e. rw e (ap (λ (z : ℤ). z +ℤ v k) (ap (at (a k)) (eqb-true (q k) p (and_right (b k) (eqb (q k) p) e)) ∙ g)))
      (λ e. rw e (g ∙ sym (+ℤ_idr (sum k (λ i. cond (b i && eqb (q i) p) (v i) (pos 0))))))

  -- what holds of 0 and of each cell that was added to holds of every place
  pub grown_keeps : (ok : ℤ → Bool) → ok (pos 0) ≡ true → ((k : ℕ) → k < n → b k ≡ true → ok (at (a k) (q k) +ℤ v k) ≡ true)
      → (k p : ℕ) → k ≤ n → p < 400 → ok (at (a k) p) ≡ true
  grown_keeps ok none each zero p h l = ap ok (ap (λ (c : List ℤ). at c p) start ∙ get_or-replicate 400 p (pos 0) (pos 0) l) ∙ none
  grown_keeps ok none each (suc k) p h l =
      ap ok (grown_at k p (omega arith))
      ∙ by_test (b k) (λ e. by_test (eqb (q k) p) (λ y. rw (e, y) (each k (omega arith) e)) (λ y. rw (e, y) (grown_keeps ok none each k p (omega arith) l)))
      (λ e. rw e (grown_keeps ok none each k p (omega arith) l))

-- ---- the cells of good transactions

-- the place is that of the cell
place_is : (m : ℕ) (y : Transaction) → Good m y → (p : ℕ) → eqb (booked_at y) p ≡ (eqb y.accident (p / 20 + 1) && eqb y.calendar (p / 20 + 1 + p % 20))
place_is m y g p =
    by_test (eqb (booked_at y) p)
    (λ e. let z : booked_at y ≡ p = eqb-true (booked_at y) p e in rw e (sym (rw (eq-eqb y.accident (p / 20 + 1) (omega arith), eq-eqb y.calendar (p / 20 + 1 + p % 20) (omega arith)))))
    (λ e. let z : booked_at y ≡ p → ⊥ = eqb-false (booked_at y) p e in rw e
    (sym (by_test (eqb y.accident (p / 20 + 1))
    (λ s. let w = eqb-true y.accident (p / 20 + 1) s in rw (s, ne_eqb y.calendar (p / 20 + 1 + p % 20) (λ t. z (omega arith)))) (λ s. rw s))))

pub pos_count : (n : ℕ) (p : ℕ → Bool) → pos (count n p) ≡ sum n (λ k. cond (p k) (pos 1) (pos 0))
unfolding count total sum
pos_count zero p = refl
pos_count (suc n) p = by_test (p n) (λ e. rw e (ap (λ (z : ℤ). z +ℤ pos 1) (pos_count n p))) (λ e. rw e (ap (λ (z : ℤ). z +ℤ pos 0) (pos_count n p)))

-- ---- an accepted journal

module _ (m : ℕ) (f : List ℕ) (size : q1 m ≡ true) (n : ℕ) (ok : first_no (of_transactions m f n) ≡ 0) where
  abbrev x : ℕ → Transaction
  x = transaction_at f

  abbrev t : ℕ → JournalTally
  t = tally_after f

  -- each question of transaction k got a yes
  yes_at : (k : ℕ) → k < n → EachYes ((16, q16 m (x k)) ∷ (17, q17 (t k) (x k)) ∷ (18, q18 (t k) (x k)) ∷ [])
  unfolding of_transaction of_booking numbered
  yes_at k l = each_yes ((16, q16 m (x k)) ∷ (17, q17 (t k) (x k)) ∷ (18, q18 (t k) (x k)) ∷ []) refl (accepted_at m f n k l ok)

  pub good_at : (k : ℕ) → k < n → Good m (x k)
  good_at k l = good m (x k) size (yes_at k l).0

  pub owner_at : (k : ℕ) → k < n → q17 (t k) (x k) ≡ true
  owner_at k l = (yes_at k l).1.0

  pub timely_at : (k : ℕ) → k < n → q18 (t k) (x k) ≡ true
  timely_at k l = (yes_at k l).1.1.0

  pub low : (k : ℕ) → k < n → booked_at (x k) < 400
  low k l = let g = good_at k l in omega arith

  -- the parts that go to place p are those of the entries of its cell, and there are none outside
  -- the triangle
  module _ (kind : ℕ) (v : ℕ → ℤ) (p : ℕ) where
    abbrev i : ℕ
    i = p / 20 + 1

    abbrev j : ℕ
    j = p % 20

    abbrev there : ℕ → Bool
    there k = eqb (x k).kind kind && eqb (booked_at (x k)) p

    entry_is : (k : ℕ) → k < n → there k ≡ is_entry f kind i j k
    unfolding is_entry
    entry_is k l = rw (place_is m (x k) (good_at k l) p) (sym (and_assoc (eqb (x k).kind kind) (eqb (x k).accident i) (eqb (x k).calendar (i + j))))

    outside : inside m i j ≡ false → (k : ℕ) → k < n → there k ≡ false
    outside e k l =
        let g = good_at k l in
        by_test (eqb (booked_at (x k)) p)
        (λ s. let z : booked_at (x k) ≡ p = eqb-true (booked_at (x k)) p s in absurd (true≢false (sym (inside_yes m i j (omega arith) (omega arith)) ∙ e)))
        (λ s. rw s (and-false (eqb (x k).kind kind)))

    cell_is : sum n (λ k. cond (there k) (v k) (pos 0)) ≡ cond (inside m i j) (sum n (λ k. cond (is_entry f kind i j k) (v k) (pos 0))) (pos 0)
    cell_is =
        by_test (inside m i j)
        (λ e. rw e (sum_cong n (λ k l. ap (λ (z : Bool). cond z (v k) (pos 0)) (entry_is k l))))
        (λ e. rw e (sum_nothing n (λ k l. ap (λ (z : Bool). cond z (v k) (pos 0)) (outside e k l))))

  -- a triangle a that starts from zeros, and to which each transaction of a kind adds its v
  module _ (kind : ℕ) (v : ℕ → ℤ) (a : ℕ → List ℤ) (start : a 0 ≡ replicate 400 (pos 0))
      (next : (k : ℕ) → k < n → a (suc k) ≡ cond (eqb (x k).kind kind) (set (a k) (booked_at (x k)) (at (a k) (booked_at (x k)) +ℤ v k)) (a k)) where
    summed : a n ≡ triangle m (λ i j. sum n (λ k. cond (is_entry f kind i j k) (v k) (pos 0)))
    unfolding triangle
    summed =
        is_tabulate 400 _ (a n) (pos 0) (grown_length (λ k. eqb (x k).kind kind) (λ k. booked_at (x k)) v a n start low next n (omega arith))
        (λ p l. grown (λ k. eqb (x k).kind kind) (λ k. booked_at (x k)) v a n start low next n p (omega arith) l ∙ cell_is kind v p)

  counts_next : (k : ℕ) → k < n
      → (t (suc k)).counts ≡ cond (eqb (x k).kind 0) (set (t k).counts (booked_at (x k)) (at (t k).counts (booked_at (x k)) +ℤ pos 1)) (t k).counts
  unfolding tally_after booked
  counts_next k l = by_test (eqb (x k).kind 0) (λ e. rw e) (λ e. rw e)

  paid_next : (k : ℕ) → k < n
      → (t (suc k)).paid ≡ cond (eqb (x k).kind 1) (set (t k).paid (booked_at (x k)) (at (t k).paid (booked_at (x k)) +ℤ (x k).amount)) (t k).paid
  unfolding tally_after booked
  paid_next k l =
      by_test (eqb (x k).kind 0) (λ e. rw (e, eqb-true (x k).kind 0 e)) (λ e. rw (e, one_of (x k).kind (good_at k l).kind_is (eqb-false (x k).kind 0 e)))

  counts_none : (t 0).counts ≡ replicate 400 (pos 0)
  unfolding tally_after no_tally
  counts_none = refl

  paid_none : (t 0).paid ≡ replicate 400 (pos 0)
  unfolding tally_after no_tally
  paid_none = refl

  pub counts_are : (t n).counts ≡ triangle m (λ i j. sum n (λ k. cond (is_entry f 0 i j k) (pos 1) (pos 0)))
  counts_are = summed 0 (λ _. pos 1) (λ k. (t k).counts) counts_none counts_next

  pub paid_are : (t n).paid ≡ triangle m (λ i j. sum n (λ k. cond (is_entry f 1 i j k) (x k).amount (pos 0)))
  paid_are = summed 1 (λ k. (x k).amount) (λ k. (t k).paid) paid_none paid_next

  -- each place is in the range of question 5
  module _ (p : ℕ) (l : p < 400) where
    pub counts_ranged : in_range 0 (at (t n).counts p) ≡ true
    unfolding in_range q18
    counts_ranged =
        grown_keeps (λ k. eqb (x k).kind 0) (λ k. booked_at (x k)) (λ _. pos 1) (λ k. (t k).counts) n counts_none low counts_next (in_range 0) refl
        (λ k h e. rw (e, eqb-true (x k).kind 0 e) at (and_right (leb (t k).last (x k).calendar) (in_range (x k).kind (cell_after (t k) (x k))) (timely_at k h))) n p (omega arith) l

    pub paid_ranged : in_range 1 (at (t n).paid p) ≡ true
    unfolding in_range q18
    paid_ranged =
        grown_keeps (λ k. eqb (x k).kind 1) (λ k. booked_at (x k)) (λ k. (x k).amount) (λ k. (t k).paid) n paid_none low paid_next (in_range 1) refl
        (λ k h e. rw (eqb-true (x k).kind 1 e) at (and_right (leb (t k).last (x k).calendar) (in_range (x k).kind (cell_after (t k) (x k))) (timely_at k h))) n p (omega arith) l
