-- The flags and the cells of the reader's loop, one record at a time. Assumes nothing.
use Rattle.std.specs.Prelude.{ℕ, zero, suc, ◌+◌, ◌<◌, ◌≤◌, ◌≡◌, refl, Bool, true, false, not, cond, List, eqb, length, get_or, set, replicate, ℤ, pos, ◌+ℤ◌}
use Rattle.std.proofs.Common.{⊎_elim, add-zero, add-one, not-suc-le-zero, eq-or-lt_of_le, le_of_suc-le-suc, arith, sym, ap, subst, ◌∙◌, eq-eqb, eqb-true, length-set}
use borrow.Author.Tests.{ne_eqb}
use Rattle.std.proofs.Math.IntN.{+ℤ_idl, +ℤ_idr}
use Rattle.std.proofs.Math.ListN.{get_or-replicate}
use Rattle.integers.specs.Sums.{sum}
use Rattle.model.specs.Lists.{at, every, total, count}
use Rattle.model.specs.ListsLaws.{and_left, and_right, every_at, every_all}
use Rattle.model.specs.Records.{value_at}
use Rattle.model.specs.Tests.{by_test}
use Rattle.triangles.specs.Stores.{get_d_set}
use Rattle.triangles.specs.Keys.{key_at, key_count, key_sum, fresh}

module _ (f : List ℕ) where
  pub count_none : (q : ℕ) → key_count f 0 q ≡ 0
  unfolding key_count count total
  count_none q = refl

  pub count_more : (k q : ℕ) → key_count f (k + 1) q ≡ key_count f k q + cond (eqb (key_at f k) q) 1 0
  unfolding key_count count total
  count_more k q = rw add-one

  sum_none : (q : ℕ) → key_sum f 0 q ≡ pos 0
  unfolding key_sum sum
  sum_none q = refl

  sum_more : (k q : ℕ) → key_sum f (k + 1) q ≡ key_sum f k q +ℤ cond (eqb (key_at f k) q) (value_at f k) (pos 0)
  unfolding key_sum sum
  sum_more k q = rw add-one

  -- record k is among the first n
  pub count_at : (n k : ℕ) → k < n → key_count f k (key_at f k) + 1 ≤ key_count f n (key_at f k)
  count_at zero k h = absurd (not-suc-le-zero h)
  count_at (suc n) k h =
      let m : key_count f (suc n) (key_at f k) ≡ key_count f n (key_at f k) + cond (eqb (key_at f n) (key_at f k)) 1 0 =
      ap (λ (i : ℕ). key_count f i (key_at f k)) (sym (add-one n)) ∙ count_more n (key_at f k) in
      ⊎_elim
      (λ e. let y = ap (λ (b : Bool). cond {A = ℕ} b 1 0) (eq-eqb (key_at f n) (key_at f k) (ap (key_at f) (sym e))) in
      let z : key_count f k (key_at f k) ≡ key_count f n (key_at f k) = ap (λ (i : ℕ). key_count f i (key_at f k)) e in omega arith)
      (λ l. let r = count_at n k l in omega arith) (eq-or-lt_of_le (le_of_suc-le-suc h))

  sum_zero : (n q : ℕ) → key_count f n q ≡ 0 → key_sum f n q ≡ pos 0
  unfolding key_count count total key_sum sum
  sum_zero zero q e = refl
  sum_zero (suc n) q e =
      by_test (eqb (key_at f n) q) (λ y. absurd (positive _ (rw y at e))) (λ y. rw (y, sum_zero n q (less _ (rw y at e))))
    where
      positive : (c : ℕ) → c + 1 ≡ 0 → ⊥
      positive c h = omega arith

      less : (c : ℕ) → c + 0 ≡ 0 → c ≡ 0
      less c h = omega arith

  -- no key stands twice where each record is the first of its key, and the other way round
  pub once_so : (n : ℕ) → every n (fresh f) ≡ true → (q : ℕ) → key_count f n q ≤ 1
  unfolding every fresh
  once_so zero h q = omega (arith, count_none q)
  once_so (suc n) h q =
      rw (← add-one n, count_more n q)
      (by_test (eqb (key_at f n) q)
      (λ y. let z = eqb-true _ 0 (and_right (every n (fresh f)) _ h) in
      let e : key_count f n q ≡ 0 = subst (λ (i : ℕ). key_count f n i ≡ 0) (eqb-true (key_at f n) q y) z in rw y (omega arith))
      (λ y. rw y (omega (arith, once_so n (and_left (every n (fresh f)) _ h) q))))

  pub so_once : (n : ℕ) → ((k : ℕ) → k < n → key_count f n (key_at f k) ≤ 1) → every n (fresh f) ≡ true
  unfolding fresh
  so_once n h = every_all _ n (λ k l. eq-eqb (key_count f k (key_at f k)) 0 (omega (arith, count_at n k l, h k l)))

  -- ---- the flags: whether a key stood there
  abbrev pub Flags : ℕ → List Bool → Type 0
  Flags k seen = (length seen ≡ 1200) × ((q : ℕ) → q < 1200 → not (get_or seen q false) ≡ eqb (key_count f k q) 0)

  pub flags_none : Flags 0 (replicate 1200 false)
  flags_none = (refl, λ q h. rw (get_or-replicate {A = Bool} 1200 q false false h, count_none q))

  pub flags_more : (k q : ℕ) (seen : List Bool) → q ≡ key_at f k → q < 1200 → Flags k seen → Flags (k + 1) (set seen q true)
  flags_more k q seen e l is = (simp length-set is.0, one)
    where
      one : (r : ℕ) → r < 1200 → not (get_or (set seen q true) r false) ≡ eqb (key_count f (k + 1) r) 0
      one r h =
          rw (get_d_set seen q r true false (omega (arith, is.0)), count_more k r, ← e)
          (by_test (eqb q r) (λ y. rw (y, ne_eqb (key_count f k r + 1) 0 (λ z. omega arith))) (λ y. rw (y, add-zero) (is.1 r h)))

  -- ---- the cells: where no key stood there twice, each is the sum of its key's values
  abbrev pub Cells : ℕ → List ℤ → Type 0
  Cells k out = (length out ≡ 1200) × (every k (fresh f) ≡ true → (q : ℕ) → q < 1200 → at out q ≡ key_sum f k q)

  pub cells_none : Cells 0 (replicate 1200 (pos 0))
  cells_none = (refl, λ _ q h. get_or-replicate 1200 q (pos 0) (pos 0) h ∙ sym (sum_none q))

  pub cells_more : (k q : ℕ) (v : ℤ) (out : List ℤ) → q ≡ key_at f k → q < 1200 → v ≡ value_at f k → Cells k out → Cells (k + 1) (set out q v)
  unfolding fresh
  cells_more k q v out e l ev is = (simp length-set is.0, one)
    where
      one : every (k + 1) (fresh f) ≡ true → (r : ℕ) → r < 1200 → at (set out q v) r ≡ key_sum f (k + 1) r
      one o r h =
          let before = every_all _ k (λ i b. every_at (fresh f) (k + 1) i o (omega arith)) in
          let new : key_count f k q ≡ 0 = rw e (eqb-true _ 0 (every_at (fresh f) (k + 1) k o (omega arith))) in
          rw (get_d_set out q r v (pos 0) (omega (arith, is.0)), sum_more k r, ← e, ← ev)
          (by_test (eqb q r)
          (λ y. rw (y, subst (λ (i : ℕ). key_sum f k i ≡ pos 0) (eqb-true q r y) (sum_zero k q new)) (sym (+ℤ_idl v)))
          (λ y. rw y (is.1 before r h ∙ sym (+ℤ_idr (key_sum f k r)))))
