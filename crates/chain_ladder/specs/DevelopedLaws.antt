-- What questions 9 to 11 and 13 say of triangles, and the answers of `develop` and
-- `incurred_ultimates` by them. Assumes nothing.
use Rattle.std.specs.Prelude.{◌≡◌, Bool, true, false, ◌&&◌, List, ℤ}
use Rattle.std.proofs.Math.Path.{refl}
use Rattle.std.proofs.Common.{◌∙◌}
use Prim.Native.Nat.{ℕ, suc, ◌-◌, ◌^◌, ◌≤◌, ◌<◌}
use native.Mathlib.Omega.{arith}
use Rattle.std.proofs.Math.IntN.{pos}
use Rattle.std.specs.Int.Signed.{le_z, lt_z}
use Rattle.integers.specs.Parts.{◌⩽◌, ◌⋖◌}
use Rattle.integers.specs.Order.{lt_yes, le_yes}
use Rattle.model.specs.Lists.{at, every}
use Rattle.model.specs.ListsLaws.{every_at, every_and}
use Rattle.model.specs.Shares.{latest, A, B, g, g_list}
use Rattle.model.specs.Questions.{first_no, of_shares, q9, q10, q11, q13}
use Rattle.model.specs.QuestionsLaws.{EachYes, numbered, each_yes}
use Rattle.model.specs.declared.TriangleSet.{TriangleSet}
use Rattle.ladder.specs.SharesLaws.{Sound, B-pos}
use Rattle.ladder.specs.Sums.{Small, latests, b_sums}
use Rattle.ladder.specs.Ladder.{bounded, Ready}
use Rattle.ladder.specs.LadderLaws.{above, asked-B, asked_rows, columns_above, bounded_first, ready}
use Rattle.chain_ladder.specs.Valid.{Valid, Amounts, small_up, counts_of, paid_of}

-- the questions of the shares, each with its yes
pub record Asked (m : ℕ) (c d : List ℤ) : Type 0 where
  pub rows : q9 m c ≡ true
  pub columns : q10 m d ≡ true
  pub counts : q11 m c ≡ true
  pub paid : q11 m d ≡ true

-- ---- questions 9 to 11 of counts c and paid d
module _ (m : ℕ) (c d : List ℤ) where
  pub first_9 : q9 m c ≡ false → first_no (of_shares m c d) ≡ 9
  unfolding first_no of_shares
  first_9 e = rw e

  pub first_10 : q9 m c ≡ true → q10 m d ≡ false → first_no (of_shares m c d) ≡ 10
  unfolding first_no of_shares
  first_10 a e = rw (a, e)

  pub first_11_counts : q9 m c ≡ true → q10 m d ≡ true → q11 m c ≡ false → first_no (of_shares m c d) ≡ 11
  unfolding first_no of_shares
  first_11_counts a b e = rw (a, b, e)

  pub first_11_paid : q9 m c ≡ true → q10 m d ≡ true → q11 m c ≡ true → q11 m d ≡ false → first_no (of_shares m c d) ≡ 11
  unfolding first_no of_shares
  first_11_paid a b e f = rw (a, b, e, f)

  pub none_asked : Asked m c d → first_no (of_shares m c d) ≡ 0
  unfolding first_no of_shares
  none_asked a = rw (a.rows, a.columns, a.counts, a.paid)

  pub all_asked : first_no (of_shares m c d) ≡ 0 → Asked m c d
  unfolding of_shares numbered
  all_asked e =
      let h : EachYes (of_shares m c d) = each_yes (of_shares m c d) refl e in
      record { rows = search; columns = search; counts = search; paid = search }

  pub shares_numbered : numbered (of_shares m c d) ≡ true
  unfolding of_shares numbered
  shares_numbered = refl

-- ---- counts
module _ (m : ℕ) (c : List ℤ) (ok : Amounts m (10 ^ 7) c) where
  -- by the bound of the other triangles
  pub counts_sized : Small m (10 ^ 10) c
  counts_sized = small_up m (10 ^ 7) (10 ^ 10) c (omega arith) ok.small

  pub asked_9 : every m (λ k. le_z (pos 1) (at (latests m c) k)) ≡ q9 m c
  unfolding q9
  asked_9 = asked_rows m c ok.small.few

  pub rows_9 : q9 m c ≡ true → (i : ℕ) → 1 ≤ i → i ≤ m → pos 0 ⋖ latest m c i
  unfolding q9
  rows_9 h i u l =
      let e : suc (i - 1) ≡ i = omega arith in
      lt_yes {a = pos 0} {b = latest m c i} (rw e at (every_at (λ k. lt_z (pos 0) (latest m c (suc k))) m (i - 1) h (omega arith)))

  pub columns_9 : q9 m c ≡ true → (j : ℕ) → 1 ≤ j → j < m → pos 0 ⋖ B m c j
  columns_9 h = B-pos m c ok.nonneg (rows_9 h)

  pub asked_11_counts : q9 m c ≡ true → every m (λ j. bounded (g m c j)) ≡ q11 m c
  unfolding q11
  asked_11_counts a = bounded_first m c (let l = ok.least in omega arith) counts_sized ok.nonneg (columns_9 a)

-- ---- paid
module _ (m : ℕ) (d : List ℤ) (ok : Amounts m (10 ^ 10) d) where
  pub asked_10 : every (m - 1) (λ k. le_z (pos 1) (at (b_sums m d) k)) ≡ q10 m d
  unfolding q10
  asked_10 = asked-B m d ok.small.few

  pub columns_10 : q10 m d ≡ true → (j : ℕ) → 1 ≤ j → j < m → pos 0 ⋖ B m d j
  unfolding q10
  columns_10 h = columns_above m d h

  pub asked_11_paid : q10 m d ≡ true → every m (λ j. bounded (g m d j)) ≡ q11 m d
  unfolding q11
  asked_11_paid b = bounded_first m d (let l = ok.least in omega arith) ok.small ok.nonneg (columns_10 b)

-- ---- counts and paid in range, with a yes to each of questions 9 to 11
pub record Shared (m : ℕ) (c d : List ℤ) : Type 0 where
  pub counts : Amounts m (10 ^ 7) c
  pub paid : Amounts m (10 ^ 10) d
  pub asked : first_no (of_shares m c d) ≡ 0

pub shared_set : (m : ℕ) (s : TriangleSet) → Valid m s → first_no (of_shares m s.counts s.paid) ≡ 0 → Shared m s.counts s.paid
shared_set m s valid e = record { counts = counts_of m s valid; paid = paid_of m s valid; asked = e }

module _ {m : ℕ} {c d : List ℤ} (h : Shared m c d) where
  yes : Asked m c d
  yes = all_asked m c d h.asked

  pub counts_rows : (i : ℕ) → 1 ≤ i → i ≤ m → pos 0 ⋖ latest m c i
  counts_rows = rows_9 m c h.counts yes.rows

  pub counts_least : pos (10 ^ 6) ⩽ g m c 0
  unfolding q11
  counts_least = le_yes yes.counts

  pub paid_least : pos (10 ^ 6) ⩽ g m d 0
  unfolding q11
  paid_least = le_yes yes.paid

  pub counts_sound : Sound m c
  counts_sound = record { cells = h.counts.nonneg; columns = columns_9 m c h.counts yes.rows; first = above counts_least }

  pub paid_sound : Sound m d
  paid_sound = record { cells = h.paid.nonneg; columns = columns_10 m d h.paid yes.columns; first = above paid_least }

  pub counts_bounds : every m (λ j. bounded (g m c j)) ≡ true
  counts_bounds = asked_11_counts m c h.counts yes.rows ∙ yes.counts

  pub paid_bounds : every m (λ j. bounded (g m d j)) ≡ true
  paid_bounds = asked_11_paid m d h.paid yes.columns ∙ yes.paid

  pub counts_ready : Ready m (latests m c) (g_list m c)
  counts_ready = ready m c (let l = h.counts.least in omega arith) (counts_sized m c h.counts) counts_bounds

  pub paid_ready : Ready m (latests m d) (g_list m d)
  paid_ready = ready m d (let l = h.paid.least in omega arith) h.paid.small paid_bounds

-- ---- question 13 of incurred t: the tests that it is made of
module _ (m : ℕ) (t : List ℤ) where
  abbrev pub A-above : Bool
  A-above = every (m - 1) (λ k. lt_z (pos 0) (A m t (suc k)))

  abbrev pub B-above : Bool
  B-above = every (m - 1) (λ k. lt_z (pos 0) (B m t (suc k)))

  abbrev pub latest_least : Bool
  latest_least = every m (λ k. le_z (pos 0) (latest m t (suc k)))

  pub q13_is : q13 m t ≡ ((A-above && B-above) && latest_least && every m (λ j. bounded (g m t j)))
  unfolding q13
  q13_is = rw (every_and (λ k. lt_z (pos 0) (A m t (suc k))) (λ k. lt_z (pos 0) (B m t (suc k))) (m - 1))
