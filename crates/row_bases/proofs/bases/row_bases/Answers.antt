-- `row_bases::bases::row_bases` meets its contract. The loop's invariant: the bases of the first k
-- years are in range and in their places. Assumes nothing.
use Rattle.std.proofs.Common.{◌≡◌, sym, true, false, ℕ, ◌+◌, ◌*◌, ◌^◌, ◌<◌, arith, rules, le-leb, leb, List, set, ℤ, pos, nat_abs, Some, None, w64, SFits, to_z, of_z, to_z-of_z}
use borrow.Author.Tests.{lt-leb}
use Rattle.model.specs.Lists.{at, listed, every}
use Rattle.model.specs.ListsLaws.{listed_none, listed_next, every_none, every_more, every_no}
use Rattle.arithmetic.specs.Capped.{capped, within_is, over_is}
use Rattle.rounding.specs.Words.{fits_abs}
use Rattle.row_bases.specs.Bases.{number, base_at}
use Rattle.row_bases.proofs.bases.row_bases.Goals as goal

-- the base of year k + 1 is out of range
stopped : (m : ℕ) (f : ℕ → ℤ) (k : ℕ) → k < m → capped (2 * 10 ^ 14) (f k) ≡ None → every m (λ i. leb (nat_abs (f i)) (2 * 10 ^ 14)) ≡ false
stopped m f k h e = every_no (λ i. leb (nat_abs (f i)) (2 * 10 ^ 14)) m k h (lt-leb (nat_abs (f k)) (2 * 10 ^ 14) (over_is (2 * 10 ^ 14) (f k) e))

-- or within it
gone_on : (f : ℕ → ℤ) (k : ℕ) {list : List ℤ} (v : ℤ) → k < 20 → capped (2 * 10 ^ 14) (f k) ≡ Some v
    → (every k (λ i. leb (nat_abs (f i)) (2 * 10 ^ 14)) ≡ true) × (list ≡ listed 20 k f (pos 0))
    → (every (k + 1) (λ i. leb (nat_abs (f i)) (2 * 10 ^ 14)) ≡ true) × (set list k (to_z w64 (of_z w64 v)) ≡ listed 20 (k + 1) f (pos 0))
gone_on f k v h e inv =
    let told = within_is (2 * 10 ^ 14) (f k) v e in
    let fits : SFits w64 (f k) = fits_abs (omega (arith, told.1)) in (
      every_more (λ i. leb (nat_abs (f i)) (2 * 10 ^ 14)) k inv.0 (le-leb (nat_abs (f k)) (2 * 10 ^ 14) told.1),
      listed_next 20 k f (pos 0) h inv.1 (rw (← told.0) (to_z-of_z fits)),
    )

pub loop-k-init : goal.loop-k-init
loop-k-init c = (every_none _, listed_none 20 _ (pos 0))

pub returns-in_err-v : goal.returns-in_err-v
returns-in_err-v c =
    let u1 : SFits w64 (at c.args.u.now 0) = search rules in
    let w1 : SFits w64 (at c.args.w.now 0) = search rules in
    let u : SFits w64 (at c.args.u.now c.loop-k.k) = search rules in
    let w : SFits w64 (at c.args.w.now c.loop-k.k) = search rules in
    let l : SFits w64 (at c.args.c.now c.loop-k.k) = search rules in
    let e = rw (to_z-of_z u1, to_z-of_z w1, to_z-of_z u, to_z-of_z w, to_z-of_z l) at c.in_err-v.ensures in
    rw c.from_residual.ensures (stopped c.args.m (base_at c.args.m (number c.args.method) c.args.u.now c.args.c.now c.args.w.now) c.loop-k.k (omega arith) (sym e))

pub loop-k-preserved : goal.loop-k-preserved
loop-k-preserved c =
    let u1 : SFits w64 (at c.args.u.now 0) = search rules in
    let w1 : SFits w64 (at c.args.w.now 0) = search rules in
    let u : SFits w64 (at c.args.u.now c.loop-k.k) = search rules in
    let w : SFits w64 (at c.args.w.now c.loop-k.k) = search rules in
    let l : SFits w64 (at c.args.c.now c.loop-k.k) = search rules in
    let e = rw (to_z-of_z u1, to_z-of_z w1, to_z-of_z u, to_z-of_z w, to_z-of_z l) at c.in_ok-v.ensures in
    gone_on (base_at c.args.m (number c.args.method) c.args.u.now c.args.c.now c.args.w.now) c.loop-k.k c.in_ok-v.field-0 (omega arith) (sym e) c.loop-k.invariant
