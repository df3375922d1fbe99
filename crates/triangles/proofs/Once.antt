-- Question 4 by the keys. A file of the right length whose records are well formed has each cell
-- once where no key stands twice: its records are as many as the set's cells. Assumes nothing.
use Prim.Native.Nat.{ℕ, zero, suc, ◌+◌, ◌-◌, ◌*◌, ◌/◌, ◌%◌, ◌<◌, ◌≤◌}
use native.Mathlib.Numerals.{add-one}
use native.Mathlib.Omega.{arith}
use native.Mathlib.Nat.{not-suc-le-zero}
use mathlib.Core.Path.{◌≡◌, refl, sym, ap, ◌∙◌}
use mathlib.Core.Bool.{Bool, true, false, ◌&&◌, cond, true≢false}
use mathlib.Core.List.{List}
use borrow.Author.Tests.{ltb-true, eq-eqb, ne_eqb, eqb-true}
use lib.Dec.{ltb, eqb}
use lib.IntN.{ℤ, pos}
use Rattle.integers.specs.Sums.{sum_cong, sum_nothing}
use Rattle.model.specs.Lists.{at, every, total, count}
use Rattle.model.specs.ListsLaws.{every_at, every_all, and_left, and_right, tabulate_ext, total_ext, total_plus, total_tight}
use Rattle.model.specs.Records.{inside, kind_at, year_at, delay_at, records, is_of, copies, value_of, triangle}
use Rattle.model.specs.RecordsLaws.{inside_yes, inside_so}
use Rattle.model.specs.Questions.{each_cell}
use Rattle.model.specs.Lent.{triangle_in}
use Rattle.model.specs.Tests.{by_test, same_test}
use Rattle.records.specs.Folds.{totals, fold_unit, fold_split, fold_pick, joined, total_fold}
use Rattle.records.specs.OneRecord.{well_formed}
use Rattle.records.specs.Places.{inside_at, place_passes, places_pass}
use Rattle.triangles.proofs.Counting.{count_none, count_more, once_so, so_once}
use Rattle.triangles.specs.Keys.{key_at, key_count, key_sum, fresh}

-- ---- how many keys are cells

abbrev pub cell_key : ℕ → ℕ → ℕ
cell_key m q = cond (inside_at m (q % 400)) 1 0

pub cell_keys : (m u : ℕ) → total (400 * u) (cell_key m) ≡ u * count 400 (inside_at m)
unfolding count
cell_keys m zero = total_fold 0 _ ∙ fold_unit totals 0 _ (λ q l. absurd (not-suc-le-zero l)) ∙ omega arith
cell_keys m (suc u) =
    let e : 400 * suc u ≡ 400 * u + 400 = omega arith in
    let l : total (400 * u + 400) (cell_key m) ≡ total (400 * u) (cell_key m) + total 400 (λ p. cell_key m (400 * u + p)) =
    total_fold _ _ ∙ fold_split totals (400 * u) 400 (cell_key m) ∙ sym (joined totals (total_fold _ _) (total_fold _ _)) in
    let r : total 400 (λ p. cell_key m (400 * u + p)) ≡ count 400 (inside_at m) =
    total_ext 400 _ _ (λ p h. let z : (400 * u + p) % 400 ≡ p = omega arith in ap (λ (i : ℕ). cond {A = ℕ} (inside_at m i) 1 0) z) in
    ap (λ (i : ℕ). total i (cell_key m)) e ∙ omega (arith, cell_keys m u)

-- ---- one record

pub parts_so : (m u a i j : ℕ) → (ltb a u && inside m i j) ≡ true → (a < u) × (1 ≤ i) × (i + j ≤ m)
parts_so m u a i j e =
    let y = inside_so m i j (and_right (ltb a u) (inside m i j) e) in
    (ltb-true a u (and_left (ltb a u) (inside m i j) e), y.0, y.1)

key_parts :
    (a i j t p : ℕ) → 1 ≤ i → i + j ≤ 20 → p < 400 → (eqb a t && eqb i (p / 20 + 1) && eqb j (p % 20)) ≡ eqb (400 * a + (20 * (i - 1) + j)) (400 * t + p)
key_parts a i j t p h l b =
    same_test (eqb a t && eqb i (p / 20 + 1) && eqb j (p % 20)) (eqb (400 * a + (20 * (i - 1) + j)) (400 * t + p))
    (λ e. let ai = and_left (eqb a t && eqb i (p / 20 + 1)) (eqb j (p % 20)) e in
    let x = eqb-true a t (and_left (eqb a t) (eqb i (p / 20 + 1)) ai) in
    let y = eqb-true i (p / 20 + 1) (and_right (eqb a t) (eqb i (p / 20 + 1)) ai) in
    let z = eqb-true j (p % 20) (and_right (eqb a t && eqb i (p / 20 + 1)) (eqb j (p % 20)) e) in
    eq-eqb (400 * a + (20 * (i - 1) + j)) (400 * t + p) (omega arith))
    (λ e. let k = eqb-true (400 * a + (20 * (i - 1) + j)) (400 * t + p) e in
    rw (eq-eqb a t (omega arith), eq-eqb i (p / 20 + 1) (omega arith), eq-eqb j (p % 20) (omega arith)))

module _ (m u v : ℕ) (f : List ℕ) (n : ℕ) (small : m ≤ 20) (formed : every n (well_formed m u v f) ≡ true) where
  so : (k : ℕ) → k < n → (kind_at f k < u) × (1 ≤ year_at f k) × (year_at f k + delay_at f k ≤ m)
  unfolding well_formed
  so k l =
      parts_so m u (kind_at f k) (year_at f k) (delay_at f k) (and_left _ _ (and_left _ _ (every_at (well_formed m u v f) n k formed l)))

  key_small : (k : ℕ) → k < n → key_at f k < 400 * u
  unfolding key_at
  key_small k l = let w = so k l in omega arith

  -- a record is that of kind t and place p where its key is 400 t + p
  by_key : (t p k : ℕ) → p < 400 → k < n → is_of f t (p / 20 + 1) (p % 20) k ≡ eqb (key_at f k) (400 * t + p)
  unfolding key_at is_of
  by_key t p k h l = let w = so k l in key_parts (kind_at f k) (year_at f k) (delay_at f k) t p w.1 (omega arith) h

  copies_key : (t p : ℕ) → p < 400 → n ≡ records f → copies f t (p / 20 + 1) (p % 20) ≡ key_count f n (400 * t + p)
  unfolding copies key_count count
  copies_key t p h e = rw (← e) (total_ext n _ _ (λ k l. ap (λ (b : Bool). cond {A = ℕ} b 1 0) (by_key t p k h l)))

  value_key : (t p : ℕ) → p < 400 → n ≡ records f → value_of f t (p / 20 + 1) (p % 20) ≡ key_sum f n (400 * t + p)
  unfolding value_of key_sum
  value_key t p h e = rw (← e) (sum_cong n (λ k l. rw (by_key t p k h l)))

  -- a place that is no cell
  none_outside : (t p k : ℕ) → p < 400 → inside_at m p ≡ false → k < n → eqb (key_at f k) (400 * t + p) ≡ false
  unfolding key_at
  none_outside t p k h o l =
      let w = so k l in
      ne_eqb (key_at f k) (400 * t + p) (λ e. absurd (true≢false (sym (inside_yes m (p / 20 + 1) (p % 20) (omega arith) (omega arith)) ∙ o)))

  count_outside : (t p : ℕ) → p < 400 → inside_at m p ≡ false → key_count f n (400 * t + p) ≡ 0
  unfolding key_count count
  count_outside t p h o = total_fold n _ ∙ fold_unit totals n _ (λ k l. rw (none_outside t p k h o l))

  sum_outside : (t p : ℕ) → p < 400 → inside_at m p ≡ false → key_sum f n (400 * t + p) ≡ pos 0
  unfolding key_sum
  sum_outside t p h o = sum_nothing n (λ k l. rw (none_outside t p k h o l))

  -- the triangle of kind t, from the sums by key
  pub triangle_key : (t : ℕ) (set : List ℤ) → t < 3 → n ≡ records f → ((q : ℕ) → q < 1200 → at set q ≡ key_sum f n q) → triangle_in t set ≡ triangle m (value_of f t)
  unfolding triangle triangle_in
  triangle_key t set k e h =
      tabulate_ext 400 _ _
      (λ p l. h (400 * t + p) (omega arith) ∙ by_test (inside_at m p) (λ i. rw i (sym (value_key t p l e))) (λ o. rw o (sum_outside t p l o)))

  -- ---- each record has one key

  key_one : (k : ℕ) → k < n → total (400 * u) (λ q. cond (eqb (key_at f k) q) 1 0) ≡ 1
  key_one k l =
      total_fold (400 * u) _
      ∙ fold_pick totals (400 * u) (key_at f k) (λ q. cond (eqb (key_at f k) q) 1 0) (key_small k l) (λ q _ o. rw (ne_eqb (key_at f k) q (λ e. o (sym e))))
      ∙ rw (eq-eqb (key_at f k) (key_at f k) refl)

  keys_total : (j : ℕ) → j ≤ n → total (400 * u) (key_count f j) ≡ j
  keys_total zero l = total_fold (400 * u) _ ∙ fold_unit totals (400 * u) _ (λ q h. count_none f q)
  keys_total (suc j) l =
      total_ext (400 * u) _ (λ q. key_count f j q + cond (eqb (key_at f j) q) 1 0) (λ q h. ap (λ (i : ℕ). key_count f i q) (sym (add-one j)) ∙ count_more f j q)
      ∙ total_plus (400 * u) (key_count f j) (λ q. cond (eqb (key_at f j) q) 1 0) ∙ omega (arith, keys_total j (omega arith), key_one j l)

  module _ (full : total (400 * u) (cell_key m) ≡ n) (all : n ≡ records f) where
    abbrev each_once : Bool
    each_once = every u (λ t. each_cell m (λ i j. eqb (copies f t i j) 1))

    at_most : every n (fresh f) ≡ true → (q : ℕ) → q < 400 * u → key_count f n q ≤ cell_key m q
    at_most d q l =
        let e : q ≡ 400 * (q / 400) + q % 400 = omega arith in
        by_test (inside_at m (q % 400)) (λ i. rw i (once_so f n d q))
        (λ o. rw o (omega (arith, ap (key_count f n) e ∙ count_outside (q / 400) (q % 400) (omega arith) o)))

    once : every n (fresh f) ≡ true → each_once ≡ true
    once d =
        every_all _ u
        (λ t k. places_pass m _ small
        (λ p l i. let e : (400 * t + p) % 400 ≡ p = omega arith in
        let exactly = total_tight (400 * u) (key_count f n) (cell_key m) (at_most d) (keys_total n (omega arith) ∙ sym full) in
        eq-eqb _ 1 (copies_key t p l all ∙ exactly (400 * t + p) (omega arith) ∙ rw (e, i))))

    -- the key of record k is a cell of its kind
    distinct : each_once ≡ true → (k : ℕ) → k < n → key_count f n (key_at f k) ≤ 1
    unfolding key_at
    distinct h k l =
        let w = so k l in
        let t = kind_at f k in
        let p = 20 * (year_at f k - 1) + delay_at f k in
        let z = place_passes m (λ i j. eqb (copies f t i j) 1) (every_at (λ t. each_cell m (λ i j. eqb (copies f t i j) 1)) u t h w.0) p
        (inside_yes m (p / 20 + 1) (p % 20) (omega arith) (omega arith)) in
        omega (arith, sym (copies_key t p (omega arith) all) ∙ eqb-true (copies f t (p / 20 + 1) (p % 20)) 1 z)

    -- question 4
    pub fourth : every n (fresh f) ≡ each_once
    fourth = same_test (every n (fresh f)) each_once once (λ h. so_once f n (distinct h))
