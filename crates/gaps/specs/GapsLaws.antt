-- Laws of the gaps: which cells are compared, where they are read, their size, and that the list
-- holds the model's gaps. Assumes nothing.
use Rattle.std.specs.Prelude.{◌≡◌, refl, true, ◌&&◌, cond, ◌⊎◌, List, ℕ, suc, ◌+◌, ◌-◌, ◌*◌, ◌/◌, ◌%◌, ◌^◌, ◌≤◌, ◌<◌, leb, ltb, ℤ, pos, nat_abs, ◌+ℤ◌, ◌-ℤ◌}
use Rattle.std.proofs.Common.{sym, ◌∙◌, inl, inr}
use native.Mathlib.Omega.{arith}
use borrow.Author.Tests.{le-leb, lt-ltb, ltb-true, ltb-false, leb-true}
use Rattle.integers.specs.Order.{nat_abs-+ℤ, nat_abs--ℤ}
use Rattle.model.specs.Lists.{at, listed}
use Rattle.model.specs.ListsLaws.{get_d_tabulate, tabulate_ext, and_left, and_right}
use Rattle.model.specs.Records.{cell}
use Rattle.model.specs.BackTest.{compared}
use Rattle.model.specs.Tests.{by_test}
use Rattle.gaps.specs.Gaps.{Sizes, cell_from, gap_from, gap_at, gaps, SmallGaps}
use Rattle.cells.specs.declared.Cell.{Cell}
use Rattle.years.specs.Ready.{Ready}
use Rattle.years.specs.ReadyLaws.{year}
use Rattle.cells.specs.SmallLaws.{cell_small}

-- what a compared cell is
pub compared_so : (m n i j : ℕ) → compared m n i j ≡ true → (i ≤ n) × (j < n) × (n < i + j) × (i + j ≤ m)
unfolding compared
compared_so m n i j h =
    let a = and_left (leb i n && ltb j n && ltb n (i + j)) (leb (i + j) m) h in
    let b = and_left (leb i n && ltb j n) (ltb n (i + j)) a in (
      leb-true i n (and_left (leb i n) (ltb j n) b),
      ltb-true j n (and_right (leb i n) (ltb j n) b),
      ltb-true n (i + j) (and_right (leb i n && ltb j n) (ltb n (i + j)) a),
      leb-true (i + j) m (and_right (leb i n && ltb j n && ltb n (i + j)) (leb (i + j) m) h),
    )

-- ---- the list of the gaps
module _ (m n : ℕ) where
  -- a cell that is not compared
  pub not_compared : (c : Cell) (paid : List ℤ) (i j : ℕ) → (n < i) ⊎ ((n ≤ j) ⊎ ((i + j ≤ n) ⊎ (m < i + j))) → gap_from m n c paid i j ≡ pos 0
  unfolding gap_from
  not_compared c paid i j h = by_test (compared m n i j) (λ e. let y = compared_so m n i j e in absurd (no y h)) (λ e. rw e)
    where
      no : (i ≤ n) × (j < n) × (n < i + j) × (i + j ≤ m) → (n < i) ⊎ ((n ≤ j) ⊎ ((i + j ≤ n) ⊎ (m < i + j))) → ⊥
      no y (inl h) = omega arith
      no y (inr (inl h)) = omega arith
      no y (inr (inr (inl h))) = omega arith
      no y (inr (inr (inr h))) = omega arith

  pub is_compared : (c : Cell) (paid : List ℤ) (i j : ℕ) → i ≤ n → j < n → n < i + j → i + j ≤ m → gap_from m n c paid i j ≡ c.rbns +ℤ c.ibnr -ℤ cell paid i j
  unfolding gap_from compared
  is_compared c paid i j h k l u = rw (le-leb i n h, lt-ltb j n k, lt-ltb n (i + j) l, le-leb (i + j) m u)

-- places that hold 0 anyhow
pub listed_skip : (n a b : ℕ) (f : ℕ → ℤ) → a ≤ b → ((q : ℕ) → a ≤ q → q < b → f q ≡ pos 0) → listed n a f (pos 0) ≡ listed n b f (pos 0)
unfolding listed
listed_skip n a b f h zero_at =
    tabulate_ext n (λ q. cond (ltb q a) (f q) (pos 0)) (λ q. cond (ltb q b) (f q) (pos 0))
    (λ q l. by_test (ltb q a) (λ e. let k = ltb-true q a e in rw (e, lt-ltb q b (omega arith)))
    (λ e. let k = ltb-false q a e in by_test (ltb q b) (λ u. rw (e, u) (sym (zero_at q k (ltb-true q b u)))) (λ u. rw (e, u))))

-- cell (k + 1, j) of the list
pub gaps_at : (m n : ℕ) (c : ℕ → ℕ → Cell) (paid : List ℤ) (k j : ℕ) → k < 20 → j < 20 → cell (gaps m n c paid) (suc k) j ≡ gap_from m n (c (suc k) j) paid (suc k) j
unfolding gaps
gaps_at m n c paid k j h l =
    let y : (20 * (suc k - 1) + j) / 20 + 1 ≡ suc k = omega arith in
    let d : (20 * (suc k - 1) + j) % 20 ≡ j = omega arith in
    get_d_tabulate 400 (gap_at m n c paid) (20 * (suc k - 1) + j) (pos 0) (omega arith) ∙ rw (y, d)

-- ---- how large a gap gets
three : (x y z : ℤ) → nat_abs x ≤ 2 * 10 ^ 15 → nat_abs y ≤ 2 * 10 ^ 15 → nat_abs z ≤ 10 ^ 10 → nat_abs (x +ℤ y -ℤ z) ≤ 5 * 10 ^ 15
three x y z a b c = omega (arith, nat_abs--ℤ (x +ℤ y) z, nat_abs-+ℤ x y)

module _ {m n : ℕ} {paid : List ℤ} (z : Sizes m n paid) where
  pub gap_small : (c : Cell) (i j : ℕ) → 1 ≤ i → (i ≤ n → j < n → (nat_abs c.rbns ≤ 2 * 10 ^ 15) × (nat_abs c.ibnr ≤ 2 * 10 ^ 15)) → nat_abs (gap_from m n c paid i j) ≤ 5 * 10 ^ 15
  unfolding gap_from
  gap_small c i j h small =
      by_test (compared m n i j)
      (λ e. let y = compared_so m n i j e in let s = small y.0 y.1 in rw e (three c.rbns c.ibnr (cell paid i j) s.0 s.1 (z.cells i j h y.3)))
      (λ e. rw e (omega arith))

  pub gaps_small : {t b g latest v p : List ℤ} (basis : ℕ) → Ready n t b g latest v p → SmallGaps (gaps m n (cell_from n t basis b g latest v p) paid)
  gaps_small {t} {b} {g} {latest} {v} {p} basis ready = record {
    gap = λ k j h l. rw (gaps_at m n (cell_from n t basis b g latest v p) paid k j h l) (gap_small (cell_from n t basis b g latest v p (suc k) j) (suc k) j (omega arith)
        (λ u w. let e : n - (suc k - 1) ≡ n - suc k + 1 = omega arith in
        rw e (cell_small (year ready (suc k) (omega arith) u basis (λ _. refl) refl) (at v (suc k - 1)) (ready.bases (suc k - 1) (omega arith)) j (omega arith))));
  }
