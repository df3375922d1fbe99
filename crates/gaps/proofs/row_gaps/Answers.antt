-- `gaps::row_gaps` meets its contract: the gaps of the delays below j are made. Assumes nothing.
use Rattle.std.proofs.Common.{◌≡◌, ℕ, ◌+◌, ◌-◌, ◌*◌, ◌^◌, ◌≤◌, ◌<◌, min, ◌⊎◌, ⊎_elim, inl, inr, List, ℤ, pos, nat_abs, ◌+ℤ◌, ◌-ℤ◌, leb, leb-true, leb-false, ap, ap₂, sym, ◌∙◌, arith, w64, to_z, of_z}
use mir.Val.{SFits}
use Rattle.integers.specs.Order.{nat_abs-+ℤ}
use Rattle.model.specs.Lists.{at, listed}
use Rattle.model.specs.ListsLaws.{listed_next}
use Rattle.model.specs.Lent.{triangle_in, at_triangle}
use Rattle.model.specs.Tests.{by_test}
use Rattle.rounding.specs.Words.{fits_abs}
use Rattle.cells.specs.declared.Cell.{Cell}
use Rattle.cells.specs.CellOf.{Year, cell_of}
use Rattle.cells.specs.SmallLaws.{read_back, cell_small}
use Rattle.gaps.specs.Gaps.{Sizes, gap_from}
use Rattle.gaps.specs.GapsLaws.{not_compared, is_compared, listed_skip, gap_small}
use Rattle.gaps.proofs.row_gaps.Goals as goal

which : (n m i j : ℕ) → min n (m + 1 - i) ≤ j → (n ≤ j) ⊎ (m < i + j)
which n m i j h = by_test (leb n j) (λ e. inl (leb-true n j e)) (λ e. let l = leb-false n j e in inr (omega arith))

abbrev word : ℤ → ℤ
word z = to_z w64 (of_z w64 z)

module _ (set : List ℤ) {m n i basis : ℕ} {whole u s p : List ℤ} (v : ℤ) (sizes : Sizes m n (triangle_in 1 set)) (year : Year n i basis whole u s p) (v_small : nat_abs v ≤ 2 * 10 ^ 14) where
  abbrev one_cell : ℕ → Cell
  one_cell j = cell_of n v s p u i j

  abbrev gap : ℕ → ℤ
  gap j = gap_from m n (one_cell j) (triangle_in 1 set) i j

  abbrev row : (ℕ → ℤ) → Type 0
  row f = (j : ℕ) → j < 20 → f (20 * (i - 1) + j) ≡ gap j

  -- from place x to place y of the row nothing is compared
  skip : (f : ℕ → ℤ) → row f → (x y : ℕ) → x ≤ y → y ≤ 20 → ((j : ℕ) → x ≤ j → j < y → gap j ≡ pos 0) → listed 400 (20 * (i - 1) + x) f (pos 0) ≡ listed 400 (20 * (i - 1) + y) f (pos 0)
  skip f r x y h l none =
      listed_skip 400 (20 * (i - 1) + x) (20 * (i - 1) + y) f (omega arith)
      (λ q b c. let e : q ≡ 20 * (i - 1) + (q - 20 * (i - 1)) = omega arith in
      ap f e ∙ r (q - 20 * (i - 1)) (omega arith) ∙ none (q - 20 * (i - 1)) (omega arith) (omega arith))

  -- the known cells
  before : (f : ℕ → ℤ) → row f → listed 400 (20 * (i - 1)) f (pos 0) ≡ listed 400 (20 * (i - 1) + (n + 1 - i)) f (pos 0)
  before f r =
      let e : 20 * (i - 1) + 0 ≡ 20 * (i - 1) = omega arith in
      rw e at (skip f r 0 (n + 1 - i) (omega arith) (omega (arith, sizes.few, sizes.less, year.first)) (λ j a b. not_compared m n (one_cell j) (triangle_in 1 set) i j (inr (inr (inl (omega arith))))))

  -- the cells from x on, past the last one that is compared
  after : (f : ℕ → ℤ) → row f → (x : ℕ) → x ≤ 20 → min n (m + 1 - i) ≤ x → listed 400 (20 * (i - 1) + x) f (pos 0) ≡ listed 400 (20 * i) f (pos 0)
  after f r x h out =
      let e : 20 * (i - 1) + 20 ≡ 20 * i = omega (arith, year.first) in
      rw e at (skip f r x 20 h (omega arith) (λ j a b. not_compared m n (one_cell j) (triangle_in 1 set) i j (⊎_elim (λ y. inr (inl y)) (λ y. inr (inr (inr y))) (which n m i j (omega arith)))))

  -- a cell that is compared, as the code makes it, and the number that is stored for it
  module _ (j : ℕ) (first : n + 1 - i ≤ j) (end : j < min n (m + 1 - i)) (c : Cell) (made : c ≡ one_cell j) where
    inside : (i ≤ n) × (j < n) × (n < i + j) × (i + j ≤ m) × (m ≤ 20) × (1 ≤ i)
    inside = (year.last, omega arith, omega arith, omega (arith, sizes.less, year.last), sizes.few, year.first)

    small : (nat_abs (one_cell j).rbns ≤ 2 * 10 ^ 15) × (nat_abs (one_cell j).ibnr ≤ 2 * 10 ^ 15)
    small = cell_small year v v_small j (omega (arith, inside))

    sum_small : nat_abs ((one_cell j).rbns +ℤ (one_cell j).ibnr) ≤ 10 ^ 16
    sum_small = omega (arith, small, nat_abs-+ℤ (one_cell j).rbns (one_cell j).ibnr)

    sum_is : word c.rbns +ℤ word c.ibnr ≡ (one_cell j).rbns +ℤ (one_cell j).ibnr
    sum_is =
        ap₂ (λ (x y : ℤ). x +ℤ y) (ap (λ (c : Cell). word c.rbns) made ∙ read_back (one_cell j).rbns (omega (arith, small))) (ap (λ (c : Cell). word c.ibnr) made ∙ read_back (one_cell j).ibnr (omega (arith, small)))

    sum_fits : SFits w64 (word c.rbns +ℤ word c.ibnr)
    sum_fits = rw sum_is (fits_abs (omega (arith, sum_small)))

    place : 400 + 20 * (i - 1) + j ≡ 400 * 1 + (20 * (i - 1) + j)
    place = omega arith

    paid_is : word (at set (400 + 20 * (i - 1) + j)) ≡ at (triangle_in 1 set) (20 * (i - 1) + j)
    paid_is =
        let e = ap (at set) place ∙ sym (at_triangle 1 (20 * (i - 1) + j) set (omega (arith, inside))) in
        ap word e ∙ read_back (at (triangle_in 1 set) (20 * (i - 1) + j)) (omega (arith, sizes.cells i j year.first (omega (arith, inside))))

    gap_is : word (word c.rbns +ℤ word c.ibnr) -ℤ word (at set (400 + 20 * (i - 1) + j)) ≡ gap j
    gap_is =
        let h = inside in
        ap₂ (λ (x y : ℤ). x -ℤ y) (ap word sum_is ∙ read_back ((one_cell j).rbns +ℤ (one_cell j).ibnr) (omega (arith, sum_small))) paid_is ∙ sym (is_compared m n (one_cell j) (triangle_in 1 set) i j h.0 h.1 h.2 h.3)

    gap_fits : nat_abs (gap j) ≤ 5 * 10 ^ 15
    gap_fits = gap_small sizes (one_cell j) i j year.first (λ _ _. small)

    stored_fits : SFits w64 (word (word c.rbns +ℤ word c.ibnr) -ℤ word (at set (400 + 20 * (i - 1) + j)))
    stored_fits = rw gap_is (fits_abs (omega (arith, gap_fits)))

    stored_is : word (word (word c.rbns +ℤ word c.ibnr) -ℤ word (at set (400 + 20 * (i - 1) + j))) ≡ gap j
    stored_is = rw gap_is (read_back (gap j) (omega (arith, gap_fits)))

pub loop-j-init : goal.loop-j-init
loop-j-init c =
    let y = c.args.year.now in
    let r = c.requires in
    (omega arith, omega (arith, r.0.few, r.0.less, r.1.0.first), λ f d row. d ∙ before c.args.set.now y.v r.0 r.1.0 r.1.1 f row)

pub overflow_add-d : goal.overflow_add-d
overflow_add-d c = sum_fits c.args.set.now c.args.year.now.v c.requires.0 c.requires.1.0 c.requires.1.1 c.loop-j.j c.loop-j.invariant.0 (omega (arith, c.min-j-end.ensures)) c.open_cell-cell.result c.open_cell-cell.ensures

pub overflow_sub-d-in-loop-j : goal.overflow_sub-d-in-loop-j
overflow_sub-d-in-loop-j c = stored_fits c.args.set.now c.args.year.now.v c.requires.0 c.requires.1.0 c.requires.1.1 c.loop-j.j c.loop-j.invariant.0 (omega (arith, c.min-j-end.ensures)) c.open_cell-cell.result c.open_cell-cell.ensures

pub loop-j-preserved : goal.loop-j-preserved
loop-j-preserved c =
    let y = c.args.year.now in
    let r = c.requires in
    let l = c.loop-j in
    let end : l.j < min y.m (c.args.m + 1 - y.i) = omega (arith, c.min-j-end.ensures) in
    let q : 20 * (y.i - 1) + (l.j + 1) ≡ 20 * (y.i - 1) + l.j + 1 = omega arith in
    (omega arith, omega (arith, r.0.few, r.0.less), λ f d row. rw q (listed_next 400 (20 * (y.i - 1) + l.j) f (pos 0) (omega (arith, r.0.few, r.0.less, r.1.0.last)) (l.invariant.2 f d row) (stored_is c.args.set.now y.v r.0 r.1.0 r.1.1 l.j l.invariant.0 end c.open_cell-cell.result c.open_cell-cell.ensures ∙ sym (row l.j (omega (arith, r.0.few, r.0.less))))))

pub returns : goal.returns
returns c f e row =
    c.loop-j.invariant.2 f e row ∙ after c.args.set.now c.args.year.now.v c.requires.0 c.requires.1.0 c.requires.1.1 f row c.loop-j.j c.loop-j.invariant.1 (omega (arith, c.min-j-end.ensures))
