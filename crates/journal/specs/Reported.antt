-- In an accepted journal no payment stands before a report: where money is paid in a cell, its
-- accident year has a report up to that delay. Assumes nothing.
use Prim.Native.Nat.{ℕ, zero, suc, ◌+◌, ◌-◌, ◌<◌, ◌≤◌}
use native.Mathlib.Omega.{arith}
use Rattle.std.specs.Prelude.{◌≡◌, Bool, true, ◌&&◌, List, [], ◌∷◌, leb, ℤ, pos}
use Rattle.std.proofs.Math.Path.{sym}
use Rattle.std.proofs.Common.{◌∙◌, length-set}
use Rattle.std.proofs.Math.Bool.{cond}
use borrow.Author.Tests.{eq-eqb, eqb-true, eqb-false, leb-true}
use Rattle.std.proofs.Math.Dec.{eqb}
use Rattle.std.proofs.Math.IntN.{+ℤ_idr}
use Rattle.std.proofs.Math.ListN.{length, get_or, length-replicate}
use Rattle.std.proofs.lemmas.List.{get_or-replicate}
use Rattle.integers.specs.Parts.{◌⩽◌, ◌⋖◌}
use Rattle.integers.specs.Order.{nonneg, pos_mono}
use Rattle.integers.specs.Linear.{lin, stmt, ◌&◌}
use Rattle.integers.specs.Sums.{sum, sum_cong, sum_suc, sum_part, sum_nonneg}
use Rattle.model.specs.Lists.{total, count}
use Rattle.model.specs.ListsLaws.{and_left, and_right}
use Rattle.model.specs.Records.{cell, triangle, records, in_range}
use Rattle.model.specs.RecordsLaws.{cell_triangle}
use Rattle.model.specs.Shares.{C}
use Rattle.model.specs.Questions.{first_no, q1}
use Rattle.model.specs.Lengths.{size_so}
use Rattle.model.specs.Journal.{transaction_at, is_report, cell_after, q17, q18, booked, no_tally, tally_after, of_transactions, is_entry, reports, payments}
use Rattle.model.specs.Calls.{replay_refusal}
use Rattle.model.specs.Tests.{by_test}
use Rattle.model.specs.declared.JournalTally.{JournalTally}
use Rattle.model.specs.declared.Transaction.{Transaction}
use Rattle.triangles.specs.Stores.{get_d_set}
use Rattle.journal.specs.ByCell.{good_at, owner_at, timely_at}
use Rattle.journal.specs.Replays.{all_accepted}

-- a sum above zero has an entry
some_entry : (n : ℕ) (p : ℕ → Bool) (v : ℕ → ℤ) → pos 0 ⋖ sum n (λ k. cond (p k) (v k) (pos 0)) → (k : ℕ) × (k < n) × (p k ≡ true)
unfolding sum
some_entry zero p v h = absurd (omega arith)
some_entry (suc n) p v h =
    by_test (p n) (λ e. (n, omega arith, e))
    (λ e. let s = some_entry n p v (rw (e, +ℤ_idr) at h) in (s.0, omega (arith, s.1), s.2))

-- a count with an entry is above zero
some_count : (n : ℕ) (p : ℕ → Bool) (k : ℕ) → k < n → p k ≡ true → 1 ≤ count n p
unfolding count total
some_count zero p k l e = absurd (omega arith)
some_count (suc n) p k l e =
    by_test (eqb k n) (λ y. let z : k ≡ n = eqb-true k n y in rw (← z, e) (omega arith))
    (λ y. let z = eqb-false k n y in let s = some_count n p k (omega arith) e in omega arith)

module _ (m : ℕ) (f : List ℕ) (size : q1 m ≡ true) (n : ℕ) (ok : first_no (of_transactions m f n) ≡ 0) where
  abbrev x : ℕ → Transaction
  x = transaction_at f

  abbrev t : ℕ → JournalTally
  t = tally_after f

  claims_length : (k : ℕ) → length (t k).claims ≡ 4096
  unfolding tally_after booked no_tally
  claims_length zero = length-replicate {A = ℕ} 4096 0
  claims_length (suc k) =
      by_test (is_report (x k)) (λ e. rw e (length-set (t k).claims (x k).claim (x k).accident ∙ claims_length k)) (λ e. rw e (claims_length k))

  in_time : (k : ℕ) → k < n → (t k).last ≤ (x k).calendar
  unfolding q18
  in_time k h = leb-true (t k).last (x k).calendar (and_left (leb (t k).last (x k).calendar) (in_range (x k).kind (cell_after (t k) (x k))) (timely_at m f size n ok k h))

  -- among the first k transactions there is a report of accident year y
  abbrev Report : ℕ → ℕ → Type 0
  Report k y = (l : ℕ) × (l < k) × ((x l).kind ≡ 0) × ((x l).accident ≡ y) × ((x l).calendar ≤ (t k).last)

  later : (k y : ℕ) → k < n → Report k y → Report (suc k) y
  unfolding tally_after booked
  later k y h s = (s.0, omega (arith, s.1), s.2, s.3, omega (arith, s.4, in_time k h))

  -- a claim that has an accident year was reported
  has_report : (k c y : ℕ) → k ≤ n → c < 4096 → 1 ≤ y → get_or (t k).claims c 0 ≡ y → Report k y
  unfolding tally_after booked no_tally
  has_report zero c y h l u e = let z : 0 ≡ y = sym (get_or-replicate 4096 c 0 0 l) ∙ e in absurd (omega arith)
  has_report (suc k) c y h l u e =
      by_test (is_report (x k))
      (λ r.
      let s : (x k).claim < length (t k).claims = rw (claims_length k) (good_at m f size n ok k h).claim_is in
      let g : cond (eqb (x k).claim c) (x k).accident (get_or (t k).claims c 0) ≡ y = sym (get_d_set (t k).claims (x k).claim c (x k).accident 0 s) ∙ rw r at e in
      by_test (eqb (x k).claim c) (λ w. (k, omega arith, eqb-true (x k).kind 0 r, rw w at g, omega arith))
      (λ w. later k y h (has_report k c y (omega arith) l u (rw w at g))))
      (λ r. later k y h (has_report k c y (omega arith) l u (rw r at e)))

  -- the report before a payment of cell (i,j)
  before : (i j k : ℕ) → k < n → 1 ≤ i → is_entry f 1 i j k ≡ true → (l : ℕ) × (l < n) × (d : ℕ) × (d ≤ j) × (is_entry f 0 i d l ≡ true)
  unfolding is_entry q17
  before i j k h u e =
      let a = eqb-true (x k).accident i (and_right (eqb (x k).kind 1) (eqb (x k).accident i) (and_left (eqb (x k).kind 1 && eqb (x k).accident i) (eqb (x k).calendar (i + j)) e)) in
      let one = eqb-true (x k).kind 1 (and_left (eqb (x k).kind 1) (eqb (x k).accident i) (and_left (eqb (x k).kind 1 && eqb (x k).accident i) (eqb (x k).calendar (i + j)) e)) in
      let y = eqb-true (x k).calendar (i + j) (and_right (eqb (x k).kind 1 && eqb (x k).accident i) (eqb (x k).calendar (i + j)) e) in
      let o : get_or (t k).claims (x k).claim 0 ≡ i = eqb-true _ i (rw (one, a) at (owner_at m f size n ok k h)) in
      let s = has_report k (x k).claim i (omega arith) (good_at m f size n ok k h).claim_is u o in
      let l = s.0 in
      let b : l < n = omega (arith, s.1) in
      let g : i ≤ (x l).calendar = omega (arith, (good_at m f size n ok l b).order, s.3) in
      let late : (x l).calendar ≤ i + j = omega (arith, s.4, in_time k h, y) in
      (l, b, (x l).calendar - i, omega arith, rw (eq-eqb (x l).kind 0 s.2, eq-eqb (x l).accident i s.3, eq-eqb (x l).calendar (i + ((x l).calendar - i)) (omega arith)))

report_counts : (f : List ℕ) (i d l : ℕ) → l < records f → is_entry f 0 i d l ≡ true → pos 1 ⩽ reports f i d
unfolding reports
report_counts f i d l g e = pos_mono.0 (some_count (records f) (is_entry f 0 i d) l g e)

none_less : (f : List ℕ) (i j : ℕ) → pos 0 ⩽ reports f i j
unfolding reports
none_less f i j = nonneg _

-- a report of cell (i,d) shows in the sum up to it
up_to : (f : List ℕ) (i d l : ℕ) → l < records f → is_entry f 0 i d l ≡ true → pos 0 ⋖ sum (suc d) (reports f i)
up_to f i d l g e =
    rw (sum_suc d (reports f i))
    (lin (sum d (reports f i) ∷ reports f i d ∷ []) (sum_nonneg d (reports f i) (λ k _. none_less f i k) & report_counts f i d l g e) (search stmt depth 20) (omega arith))

-- where money is paid in a cell, C(i,j) of the reports is above zero (02, Job 10 asks it)
pub reported_first : (m : ℕ) (f : List ℕ) → replay_refusal m f ≡ 0 → (i j : ℕ) → 1 ≤ i → i + j ≤ m → pos 0 ⋖ payments f i j → pos 0 ⋖ C (triangle m (reports f)) i j
unfolding payments C
reported_first m f accepted i j h u above =
    let a = all_accepted m f accepted in
    let few = (size_so m a.0).1 in
    let s = some_entry (records f) (is_entry f 1 i j) (λ k. (transaction_at f k).amount) above in
    let b = before m f a.0 (records f) a.1 i j s.0 s.1 h s.2 in
    let d = b.2 in
    let most = b.3 in
    let same : sum (suc j) (λ k. cell (triangle m (reports f)) i k) ≡ sum (suc j) (reports f i) = sum_cong (suc j) (λ k l. cell_triangle m (reports f) i k few h (omega arith)) in
    rw same (lin (sum (suc d) (reports f i) ∷ sum (suc j) (reports f i) ∷ [])
    (up_to f i d b.0 b.1 b.4 & sum_part (suc d) (suc j) (reports f i) (omega arith) (λ k _. none_less f i k)) (search stmt depth 20) (omega arith))
