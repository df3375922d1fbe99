-- `weights::actual_weights` meets its contract. The loop's invariant: the first k weights are in
-- their places. Assumes nothing.
use Rattle.std.proofs.Common.{◌≡◌, ℕ, ◌+◌, ◌-◌, ◌*◌, ◌^◌, ◌≤◌, ◌<◌, List, ℤ, pos, nat_abs, ◌*ℤ◌, set, mul-le-mul, ap, sym, ◌∙◌, arith, w64, to_z, of_z}
use Rattle.std.proofs.Math.Facts.{to_z-of_z}
use mir.Val.{SFits}
use Rattle.integers.specs.Order.{nat_abs-*ℤ}
use Rattle.model.specs.Lent.{triangle_in, at_triangle}
use Rattle.model.specs.Lists.{at, listed}
use Rattle.model.specs.ListsLaws.{listed_none, listed_next}
use Rattle.model.specs.Records.{cell}
use Rattle.model.specs.Rounding.{r}
use Rattle.rounding.specs.Words.{fits_abs}
use Rattle.cells.specs.SmallLaws.{read_back}
use Rattle.cells.specs.Weights.{Counted, actual_weight}
use Rattle.years.proofs.weights.actual_weights.Goals as goal

abbrev word : ℤ → ℤ
word z = to_z w64 (of_z w64 z)

-- weight k, where x is the share g as it is read, and y the sum of the row
module _ (counts : List ℤ) (i k : ℕ) where
  abbrev count : ℤ
  count = cell (triangle_in 0 counts) i k

  abbrev read : ℤ
  read = word (at counts (20 * (i - 1) + k))

  module _ {m : ℕ} {g latest : ℤ} (c : Counted m i (triangle_in 0 counts) g latest) (h : k < m - i + 1) {x : ℤ} (x_is : x ≡ g) where
    count_small : nat_abs count ≤ 10 ^ 7
    count_small = c.counts k (omega arith)

    count_is : read ≡ count
    count_is =
        let q = 20 * (i - 1) + k in
        let e : q ≡ 400 * 0 + q = omega arith in
        ap word (ap (at counts) e ∙ sym (at_triangle 0 q counts (omega (arith, c.first, c.last, c.few)))) ∙ read_back count (omega (arith, count_small))

    product_small : nat_abs (count *ℤ x) ≤ 10 ^ 16
    product_small = rw x_is (omega (arith, nat_abs-*ℤ count g, mul-le-mul count_small c.share))

    product_fits : SFits w64 (read *ℤ x)
    product_fits = rw count_is (fits_abs (omega (arith, product_small)))

    product_is : word (read *ℤ x) ≡ count *ℤ x
    product_is = rw count_is (read_back (count *ℤ x) (omega (arith, product_small)))

    stored : (y : ℤ) {s : List ℤ} {z : ℤ} → s ≡ listed 20 k (actual_weight (triangle_in 0 counts) i x y) (pos 0) → z ≡ r (word (read *ℤ x)) y → SFits w64 z → set s k (word z) ≡ listed 20 (k + 1) (actual_weight (triangle_in 0 counts) i x y) (pos 0)
    unfolding actual_weight
    stored y e q f = listed_next 20 k (actual_weight (triangle_in 0 counts) i x y) (pos 0) (omega (arith, c.first, c.last, c.few)) e (to_z-of_z f ∙ q ∙ ap (λ (p : ℤ). r p y) product_is)

pub loop-k-init : goal.loop-k-init
loop-k-init c = listed_none 20 _ (pos 0)

pub overflow_mul-set : goal.overflow_mul-set
overflow_mul-set c = product_fits c.args.set.now c.args.i c.loop-k.k c.requires (omega arith) (to_z-of_z c.ranges.g)

pub round_div-requires : goal.round_div-requires
round_div-requires c =
    let a = c.args in
    let r = c.requires in
    rw (product_is a.set.now a.i c.loop-k.k r (omega arith) (to_z-of_z c.ranges.g), to_z-of_z c.ranges.latest)
    (r.some, r.row, omega (arith, product_small a.set.now a.i c.loop-k.k r (omega arith) (to_z-of_z c.ranges.g)))

pub loop-k-preserved : goal.loop-k-preserved
loop-k-preserved c =
    stored c.args.set.now c.args.i c.loop-k.k c.requires (omega arith) (to_z-of_z c.ranges.g) _ c.loop-k.invariant c.round_div.ensures (record { sfits = c.round_div.type_inv })

pub returns : goal.returns
returns c =
    let e : c.loop-k.k ≡ c.args.m - c.args.i + 1 = omega arith in
    rw (to_z-of_z c.ranges.g, to_z-of_z c.ranges.latest, e) at c.loop-k.invariant
