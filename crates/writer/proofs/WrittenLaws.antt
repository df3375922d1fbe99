-- Laws of Written: a record that is written is read back, and each cell of the set stands in one
-- record. Assumes nothing.
use Prim.Native.Nat.{ℕ, zero, suc, ◌+◌, ◌-◌, ◌*◌, ◌^◌, ◌<◌, ◌≤◌}
use native.Mathlib.Omega.{arith}
use Rattle.std.specs.Prelude.{◌≡◌, Bool, true, ◌&&◌, List, ◌++◌, length, take, drop, replicate, ℤ, pos, negsuc}
use Rattle.std.proofs.Math.Path.{refl, ap}
use Rattle.std.proofs.Common.{sym, ◌∙◌, length-append, length-drop, SFits}
use borrow.Author.Tests.{lt-ltb, le-ltb, eq-eqb, eqb-true}
use Rattle.std.proofs.lemmas.List.{take-append-le, drop-append-le}
use Rattle.std.proofs.Math.Seq.{drop-append-add}
use Rattle.std.proofs.Math.Dec.{eqb}
use Rattle.std.specs.Int.{w64}
use Rattle.model.specs.Lists.{chained, every, total, count}
use Rattle.model.specs.ListsLaws.{every_at, every_all, and_left, and_right}
use Rattle.model.specs.Records.{cell, spares_zero, value_at, least_first, signed, records, is_of, copies, value_of, triangle, is_line, in_range}
use Rattle.model.specs.RecordsLaws.{inside_yes, triangle_ext, triangle_zeros}
use Rattle.model.specs.Questions.{q5, each_cell}
use Rattle.model.specs.QuestionsLaws.{each_cell_all}
use Rattle.model.specs.SetFile.{word, bytes, record_of}
use Rattle.model.specs.Tests.{by_test}
use Rattle.records.specs.Folds.{Monoid, alls, totals, sums, fold, fold_ext, fold_unit, fold_split, fold_pick, joined, every_fold, total_fold, sum_fold}
use Rattle.records.specs.OneRecord.{record_at, Local, well_formed, well_formed_local, ranged, ranged_local, of_cell, of_cell_local, value_local, over}
use Rattle.triangles.specs.Ranges.{range_fits}
use Rattle.writer.specs.Written.{cell_bytes, year_bytes, kind_bytes}

-- ---- one record

word_small : (v : ℤ) → SFits w64 v → word v < 2 ^ 64
unfolding word
word_small (pos n) s = let b = s.sfits in omega arith
word_small (negsuc n) s = let b = s.sfits in omega arith

word_back : (v : ℤ) → SFits w64 v → signed (word v) ≡ v
unfolding word signed
word_back (pos n) s = rw (lt-ltb n (2 ^ 63) s.sfits)
word_back (negsuc n) s = let b = s.sfits in rw (le-ltb (2 ^ 64 - suc n) (2 ^ 63) (omega arith)) (ap negsuc (omega arith))

module _ (t i j v : ℕ) where
  bytes_back : (x : ℕ) → x < 2 ^ 64 → least_first 8 (record_of t i j v x) 8 ≡ x
  unfolding record_of bytes least_first
  bytes_back x h = omega arith

  module _ (z : ℤ) (ok : in_range t z ≡ true) where
    value_back : value_at (record_of t i j v (word z)) 0 ≡ z
    unfolding value_at
    value_back = let s = range_fits t z ok in ap signed (bytes_back (word z) (word_small z s)) ∙ word_back z s

    ranged_back : ranged (record_of t i j v (word z)) 0 ≡ true
    unfolding ranged record_of
    ranged_back = ap (in_range t) value_back ∙ ok

  well_back : (m u x : ℕ) → t < u → 1 ≤ i → i + j ≤ m → is_line v ≡ true → well_formed m u v (record_of t i j v x) 0 ≡ true
  unfolding well_formed record_of spares_zero
  well_back m u x h y d l = rw (lt-ltb t u h, inside_yes m i j y d, l, eq-eqb v v refl)

-- ---- records one after the other: how long they are, and a fold over them

-- a fold over two files, one after the other
over_append : {A : Type 0} (M : Monoid A) (G : List ℕ → ℕ → A) → Local G → (f g : List ℕ) (n : ℕ) → length f ≡ 16 * n → over M G (f ++ g) ≡ M.op (over M G f) (over M G g)
unfolding over record_at
over_append M G h f g n e =
    ap (λ (i : ℕ). fold M i (G (f ++ g))) number ∙ fold_split M (records f) (records g) (G (f ++ g))
    ∙ joined M (fold_ext M (records f) (G (f ++ g)) (G f) (λ k l. h (f ++ g) k ∙ ap (λ (r : List ℕ). G r 0) (front k l) ∙ sym (h f k)))
    (fold_ext M (records g) (λ k. G (f ++ g) (records f + k)) (G g) (λ k l. h (f ++ g) (records f + k) ∙ ap (λ (r : List ℕ). G r 0) (back k) ∙ sym (h g k)))
  where
    number : records (f ++ g) ≡ records f + records g
    number = rw (length-append f g, e) (omega arith)

    front : (k : ℕ) → k < records f → record_at (f ++ g) k ≡ record_at f k
    front k l = ap (take 16) (drop-append-le (16 * k) f g (omega arith)) ∙ take-append-le 16 (drop (16 * k) f) g (omega (arith, length-drop (16 * k) f))

    back : (k : ℕ) → record_at (f ++ g) (records f + k) ≡ record_at g k
    back k =
        let z : 16 * (records f + k) ≡ length f + 16 * k = omega arith in
        ap (λ (i : ℕ). take 16 (drop i (f ++ g))) z ∙ ap (take 16) (drop-append-add f g (16 * k))

-- f k has c k records
abbrev Records : (ℕ → List ℕ) → (ℕ → ℕ) → Type 0
Records f c = (k : ℕ) → length (f k) ≡ 16 * c k

length_chained : (f : ℕ → List ℕ) (c : ℕ → ℕ) → Records f c → (n : ℕ) → length (chained n f) ≡ 16 * total n c
unfolding chained total
length_chained f c h zero = refl
length_chained f c h (suc n) = rw (length-append, length_chained f c h n, h n) (omega arith)

module _ {A : Type 0} (M : Monoid A) (G : List ℕ → ℕ → A) (here : Local G) where
  over_chained : (f : ℕ → List ℕ) (c : ℕ → ℕ) (g : ℕ → A) → Records f c → ((k : ℕ) → over M G (f k) ≡ g k) → (n : ℕ) → over M G (chained n f) ≡ fold M n g
  unfolding chained over fold
  over_chained f c g h e zero = refl
  over_chained f c g h e (suc n) =
      over_append M G here (chained n f) (f n) (total n c) (length_chained f c h n) ∙ joined M (over_chained f c g h e n) (e n)

  over_one : (t i j v x : ℕ) → over M G (record_of t i j v x) ≡ G (record_of t i j v x) 0
  unfolding over fold record_of bytes
  over_one t i j v x = M.left (G (record_of t i j v x) 0)

-- the cells of year k + 1, and of a triangle
abbrev in_year : ℕ → ℕ → ℕ
in_year m k = total (m - k) (λ _. 1)

abbrev in_kind : ℕ → ℕ
in_kind m = total m (in_year m)

counted : every 21 (λ m. eqb (2 * in_kind m) (m * (m + 1))) ≡ true
unfolding every total
counted = refl

pub in_kind_lem : (m : ℕ) → m ≤ 20 → 2 * in_kind m ≡ m * (m + 1)
in_kind_lem m h = eqb-true _ _ (every_at (λ k. eqb (2 * in_kind k) (k * (k + 1))) 21 m counted (omega arith))

pub length_record : (t i j v x : ℕ) → length (record_of t i j v x) ≡ 16
unfolding record_of bytes
length_record t i j v x = refl

length_year : (m v t : ℕ) (a : List ℤ) → Records (λ k. year_bytes v t a (suc k) (m - k)) (in_year m)
unfolding year_bytes
length_year m v t a k = length_chained (cell_bytes v t a (suc k)) (λ _. 1) (λ j. length_record t (suc k) j v _) (m - k)

-- ---- the set that is written

module _ (m v : ℕ) (s : ℕ → List ℤ) where
  abbrev pub kinds_bytes : ℕ → List ℕ
  kinds_bytes u = chained u (λ t. kind_bytes m v t (s t))

  length_kind : Records (λ t. kind_bytes m v t (s t)) (λ _. in_kind m)
  unfolding kind_bytes
  length_kind t = length_chained _ (in_year m) (length_year m v t (s t)) m

  pub length_kinds : (u : ℕ) → length (kinds_bytes u) ≡ 16 * total u (λ _. in_kind m)
  length_kinds u = length_chained _ _ length_kind u

  module _ (u : ℕ) where
    abbrev f : List ℕ
    f = kinds_bytes u

    module _ {A : Type 0} (M : Monoid A) (G : List ℕ → ℕ → A) where
      abbrev piece : ℕ → ℕ → ℕ → A
      piece t i j = G (cell_bytes v t (s t) i j) 0

      over_set : Local G → over M G f ≡ fold M u (λ t. fold M m (λ k. fold M (m - k) (piece t (suc k))))
      unfolding year_bytes kind_bytes
      over_set here =
          over_chained M G here _ _ _ length_kind
          (λ t. over_chained M G here _ _ _ (length_year m v t (s t))
          (λ k. over_chained M G here _ (λ _. 1) _ (λ j. length_record t (suc k) j v _) (λ j. over_one M G here t (suc k) j v _) (m - k)) m) u

    -- what holds of each record that is written holds of the file
    all_hold : (P : List ℕ → ℕ → Bool) → Local P → ((t i j : ℕ) → t < u → 1 ≤ i → i + j ≤ m → P (cell_bytes v t (s t) i j) 0 ≡ true) → over alls P f ≡ true
    all_hold P here h =
        over_set alls P here
        ∙ fold_unit alls u _ (λ t k. fold_unit alls m _ (λ y l. fold_unit alls (m - y) _ (λ j b. h t (suc y) j k (omega arith) (omega arith))))

    pub third : is_line v ≡ true → every (records f) (well_formed m u v f) ≡ true
    unfolding over
    third y = every_fold _ _ ∙ all_hold (well_formed m u v) (well_formed_local m u v) (λ t i j k l b. well_back t i j v m u _ k l b y)

    -- W of the record of kind t and cell (i,j), of all the records that are written
    module _ {A : Type 0} (M : Monoid A) (W : List ℕ → ℕ → A) (here : Local W) (t i j : ℕ) where
      abbrev G : List ℕ → ℕ → A
      G = of_cell M.unit W t i j

      other : (k y d : ℕ) → (k ≡ t → y ≡ i → d ≡ j → ⊥) → piece M G k y d ≡ M.unit
      unfolding of_cell is_of record_of
      other k y d n =
          by_test (eqb k t && eqb y i && eqb d j)
          (λ e. let ki = and_left (eqb k t && eqb y i) (eqb d j) e in
          absurd (n (eqb-true k t (and_left (eqb k t) (eqb y i) ki)) (eqb-true y i (and_right (eqb k t) (eqb y i) ki)) (eqb-true d j (and_right (eqb k t && eqb y i) (eqb d j) e))))
          (λ e. rw e)

      this : piece M G t i j ≡ W (cell_bytes v t (s t) i j) 0
      unfolding of_cell is_of record_of
      this = rw (eq-eqb t t refl, eq-eqb i i refl, eq-eqb j j refl)

      local : Local G
      local = of_cell_local M.unit W t i j here

      -- a cell of the set stands in one record
      held : t < u → 1 ≤ i → i + j ≤ m → over M G f ≡ W (cell_bytes v t (s t) i j) 0
      held k l b =
          let e : suc (i - 1) ≡ i = omega arith in
          over_set M G local
          ∙ fold_pick M u t _ k (λ k _ n. fold_unit M m _ (λ y _. fold_unit M (m - y) _ (λ d _. other k (suc y) d (λ q _ _. n q))))
          ∙ fold_pick M m (i - 1) _ (omega arith) (λ y _ n. fold_unit M (m - y) _ (λ d _. other t (suc y) d (λ _ q _. n (omega arith))))
          ∙ fold_pick M (m - (i - 1)) j _ (omega arith) (λ d _ n. other t (suc (i - 1)) d (λ _ _ q. n q)) ∙ rw e this

      -- a kind that is not written stands in none
      not_held : u ≤ t → over M G f ≡ M.unit
      not_held h =
          over_set M G local
          ∙ fold_unit M u _ (λ k l. fold_unit M m _ (λ y _. fold_unit M (m - y) _ (λ d _. other k (suc y) d (λ q _ _. omega arith))))

    module _ (ok : (t i j : ℕ) → t < u → 1 ≤ i → i + j ≤ m → in_range t (cell (s t) i j) ≡ true) where
      value_held : (t i j : ℕ) → t < u → 1 ≤ i → i + j ≤ m → value_of f t i j ≡ cell (s t) i j
      unfolding value_of over of_cell
      value_held t i j k l b = sum_fold _ _ ∙ held sums value_at value_local t i j k l b ∙ value_back t i j v (cell (s t) i j) (ok t i j k l b)

      pub triangle_held : (t : ℕ) → t < u → triangle m (value_of f t) ≡ triangle m (cell (s t))
      triangle_held t k = triangle_ext m (value_of f t) (cell (s t)) (λ i j. value_held t i j k)

      pub fifth : q5 m f ≡ true
      unfolding q5 over ranged
      fifth = every_fold _ _ ∙ all_hold ranged ranged_local (λ t i j k l b. ranged_back t i j v (cell (s t) i j) (ok t i j k l b))

    pub triangle_none : (t : ℕ) → u ≤ t → triangle m (value_of f t) ≡ replicate 400 (pos 0)
    unfolding value_of over of_cell
    triangle_none t h = triangle_zeros m (value_of f t) (λ i j. sum_fold _ _ ∙ not_held sums value_at value_local t i j h)

    pub fourth : every u (λ t. each_cell m (λ i j. eqb (copies f t i j) 1)) ≡ true
    unfolding copies count over of_cell
    fourth =
        every_all _ u (λ t k. each_cell_all m _ (λ i j l b. eq-eqb _ 1 (total_fold _ _ ∙ held totals (λ f k. 1) (λ f k. refl) t i j k l b)))
