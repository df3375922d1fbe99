-- `one_more_delay` meets its contract. The loop's invariant: the payment delays below l are added.
-- Assumes nothing.
use Rattle.std.proofs.Common.{◌≡◌, ℕ, ◌+◌, ◌*◌, ◌^◌, ◌≤◌, ◌<◌, List, ℤ, ◌+ℤ◌, ◌*ℤ◌, nat_abs, set, leb, mul-le-mul, ap, ◌∙◌, arith, w64, to_z, of_z}
use mir.Val.{SFits}
use Rattle.integers.specs.Order.{nat_abs-*ℤ}
use Rattle.model.specs.Lists.{at}
use Rattle.rounding.specs.Words.{fits_abs}
use Rattle.cells.specs.Weights.{Weights, Delays}
use Rattle.cells.specs.PairLaws.{weight_small, pairs_small}
use Rattle.cells.specs.SmallLaws.{read_back}
use Rattle.cells.specs.SumsFromLaws.{partly, start, here, added, next, all}
use Rattle.years.proofs.one_more_delay.Goals as goal

abbrev word : ℤ → ℤ
word z = to_z w64 (of_z w64 z)

-- the product that is added at delay l, and the sum that is stored at place k + l
module _ (m k : ℕ) (b p : List ℤ) (w : Weights b × Delays p) (few : m ≤ 20) (k<m : k < m) (l : ℕ) (h : l < m) where
  abbrev x : ℤ
  x = at b k

  abbrev y : ℤ
  y = at p l

  abbrev z : ℤ
  z = at (partly m k b p l) (k + l)

  x_small : nat_abs x ≤ 10 ^ 9 + 20
  x_small = weight_small b w.0 k (omega arith)

  y_small : nat_abs y ≤ 8 * 10 ^ 9
  y_small = w.1 l (omega arith)

  product_small : nat_abs (x *ℤ y) ≤ 9 * 10 ^ 18
  product_small = omega (arith, nat_abs-*ℤ x y, mul-le-mul x_small y_small)

  product_is : word x *ℤ word y ≡ x *ℤ y
  product_is = rw (read_back x (omega (arith, x_small)), read_back y (omega (arith, y_small)))

  product_fits : SFits w64 (word x *ℤ word y)
  product_fits = rw product_is (fits_abs (omega (arith, product_small)))

  place : k + l < 39
  place = omega arith

  z_small : nat_abs z ≤ 9 * 10 ^ 18
  z_small = rw (here m k b p l h place k<m) (pairs_small m (k + l) (leb (k + 1)) b p w.0 w.1 few)

  sum_small : nat_abs (z +ℤ x *ℤ y) ≤ 9 * 10 ^ 18
  sum_small = rw (added m k b p l h place k<m) (pairs_small m (k + l) (leb k) b p w.0 w.1 few)

  sum_is : {s : List ℤ} → s ≡ partly m k b p l → word (at s (k + l)) +ℤ word (word x *ℤ word y) ≡ z +ℤ x *ℤ y
  sum_is e = rw (e, product_is, read_back z z_small, read_back (x *ℤ y) product_small)

  sum_fits : {s : List ℤ} → s ≡ partly m k b p l → SFits w64 (word (at s (k + l)) +ℤ word (word x *ℤ word y))
  sum_fits e = rw (sum_is e) (fits_abs (omega (arith, sum_small)))

  stored : {s : List ℤ} → s ≡ partly m k b p l → set s (k + l) (word (word (at s (k + l)) +ℤ word (word x *ℤ word y))) ≡ partly m k b p (l + 1)
  stored e = rw (sum_is e, read_back (z +ℤ x *ℤ y) sum_small) (ap (λ (q : List ℤ). set q (k + l) (z +ℤ x *ℤ y)) e ∙ next m k b p l h place k<m)

pub loop-l-init : goal.loop-l-init
loop-l-init c = c.requires.k_lt_m.2 ∙ start c.args.m c.args.k c.args.b.now c.args.p.now

pub overflow_mul-sums : goal.overflow_mul-sums
overflow_mul-sums c = let a = c.args in let r = c.requires in product_fits a.m a.k a.b.now a.p.now r.weights r.k_lt_m.1 r.k_lt_m.0 c.loop-l.l (omega arith)

pub overflow_add-sums-in-loop-l : goal.overflow_add-sums-in-loop-l
overflow_add-sums-in-loop-l c = let a = c.args in let r = c.requires in sum_fits a.m a.k a.b.now a.p.now r.weights r.k_lt_m.1 r.k_lt_m.0 c.loop-l.l (omega arith) c.loop-l.invariant

pub loop-l-preserved : goal.loop-l-preserved
loop-l-preserved c = let a = c.args in let r = c.requires in stored a.m a.k a.b.now a.p.now r.weights r.k_lt_m.1 r.k_lt_m.0 c.loop-l.l (omega arith) c.loop-l.invariant

pub returns : goal.returns
returns c =
    let a = c.args in
    let d : c.loop-l.l ≡ a.m = omega arith in
    c.loop-l.invariant ∙ ap (partly a.m a.k a.b.now a.p.now) d ∙ all a.m a.k a.b.now a.p.now
