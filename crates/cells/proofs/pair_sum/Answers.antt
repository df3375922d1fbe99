-- `pair_sum` meets its contract. The loop's invariant: what is summed so far are the terms below k.
-- Assumes nothing.
use Rattle.std.proofs.Common.{◌≡◌, ℕ, ◌+◌, ◌-◌, ◌*◌, ◌^◌, ◌≤◌, ◌<◌, List, ℤ, pos, ◌+ℤ◌, ◌*ℤ◌, nat_abs, leb, le-leb, mul-le-mul, add-one, ap, sym, ◌∙◌, arith, w64, to_z, of_z}
use Rattle.std.proofs.lemmas.Bool.{lt-leb}
use Rattle.std.proofs.Math.Facts.{to_z-of_z}
use mir.Val.{SFits}
use Rattle.integers.specs.Order.{nat_abs-*ℤ}
use Rattle.integers.specs.Sums.{sum, sum_suc, sum_nothing, sum_ends}
use Rattle.rounding.specs.Words.{fits_abs}
use Rattle.model.specs.Lists.{at}
use Rattle.cells.specs.Weights.{Weights, Delays}
use Rattle.cells.specs.SmallLaws.{read_back}
use Rattle.cells.specs.PairLaws.{term, term_in, term_no, term_before, sum_small, weight_small, pairs_terms}
use Rattle.cells.proofs.pair_sum.Goals as goal

abbrev word : ℤ → ℤ
word z = to_z w64 (of_z w64 z)

abbrev terms : ℕ → ℕ → ℕ → List ℤ → List ℤ → ℕ → ℤ
terms m j n x p = term m j (λ k. leb k n) x p

-- the terms past the last one are 0
past : (m j n : ℕ) (x p : List ℤ) (k : ℕ) → n < k → terms m j n x p k ≡ pos 0
past m j n x p k l = term_no m j (λ k. leb k n) x p k (lt-leb k n l)

-- the product that is added at k
module _ (m j n : ℕ) (x p : List ℤ) (few : m ≤ 20) (n_lt_m : n < m) (n_le_j : n ≤ j) (w : Weights x) (d : Delays p) (k : ℕ) (near : j < k + m) (le : k ≤ n) where
  abbrev a : ℤ
  a = at x k

  abbrev b : ℤ
  b = at p (j - k)

  a_small : nat_abs a ≤ 10 ^ 9 + 20
  a_small = weight_small x w k (omega arith)

  b_small : nat_abs b ≤ 8 * 10 ^ 9
  b_small = d (j - k) (omega arith)

  a_back : word a ≡ a
  a_back = read_back a (omega (arith, a_small))

  b_back : word b ≡ b
  b_back = read_back b (omega (arith, b_small))

  product_fits : SFits w64 (a *ℤ b)
  product_fits = fits_abs (omega (arith, nat_abs-*ℤ a b, mul-le-mul a_small b_small))

  read_fits : SFits w64 (word a *ℤ word b)
  read_fits = rw (a_back, b_back) product_fits

  one_more : sum (k + 1) (terms m j n x p) ≡ sum k (terms m j n x p) +ℤ a *ℤ b
  one_more =
      rw add-one
      (sum_suc k (terms m j n x p)
      ∙ ap (λ (z : ℤ). sum k (terms m j n x p) +ℤ z) (term_in m j (λ k. leb k n) x p k (le-leb k n le) (omega arith) near))

  next_is : {s : ℤ} → s ≡ sum k (terms m j n x p) → s +ℤ word (word a *ℤ word b) ≡ sum (k + 1) (terms m j n x p)
  next_is e = rw (a_back, b_back, to_z-of_z product_fits, e) (sym one_more)

  sum_fits : SFits w64 (sum (k + 1) (terms m j n x p))
  sum_fits = fits_abs (omega (arith, sum_small m j (λ k. leb k n) x p w d few (k + 1) (omega arith)))

  next_fits : {s : ℤ} → s ≡ sum k (terms m j n x p) → SFits w64 (s +ℤ word (word a *ℤ word b))
  next_fits e = rw (next_is e) sum_fits

  next_back : {s : ℤ} → s ≡ sum k (terms m j n x p) → word (s +ℤ word (word a *ℤ word b)) ≡ sum (k + 1) (terms m j n x p)
  next_back e = rw (next_is e) (to_z-of_z sum_fits)

pub loop-k-init : goal.loop-k-init
loop-k-init c =
    let a = c.args in
    let e = c.saturating_sub-k.ensures in
    sym (sum_nothing c.saturating_sub-k.result (λ k l. term_before a.m a.j (λ k. leb k a.n) a.x.now a.p.now k (omega (arith, e))))

pub overflow_mul-sum : goal.overflow_mul-sum
overflow_mul-sum c =
    let a = c.args in
    let r = c.requires in
    read_fits a.m a.j a.n a.x.now a.p.now r.n_lt_m.1 r.n_lt_m.0 r.n_lt_m.2 r.weights r.delays c.loop-k.k (omega (arith, c.saturating_sub-k.ensures)) (omega arith)

pub overflow_add-sum : goal.overflow_add-sum
overflow_add-sum c =
    let a = c.args in
    let r = c.requires in
    next_fits a.m a.j a.n a.x.now a.p.now r.n_lt_m.1 r.n_lt_m.0 r.n_lt_m.2 r.weights r.delays c.loop-k.k (omega (arith, c.saturating_sub-k.ensures)) (omega arith) c.loop-k.invariant

pub loop-k-preserved : goal.loop-k-preserved
loop-k-preserved c =
    let a = c.args in
    let r = c.requires in
    next_back a.m a.j a.n a.x.now a.p.now r.n_lt_m.1 r.n_lt_m.0 r.n_lt_m.2 r.weights r.delays c.loop-k.k (omega (arith, c.saturating_sub-k.ensures)) (omega arith) c.loop-k.invariant

pub returns : goal.returns
returns c =
    let a = c.args in
    let f = terms a.m a.j a.n a.x.now a.p.now in
    let none = past a.m a.j a.n a.x.now a.p.now in
    let end = a.n + 1 in
    c.loop-k.invariant
    ∙ sum_ends end c.loop-k.k f (omega arith) (λ k l u. none k (omega arith))
    ∙ sym (sum_ends end a.m f (omega arith) (λ k l u. none k (omega arith)))
    ∙ sym (pairs_terms a.m a.j (λ k. leb k a.n) a.x.now a.p.now)
