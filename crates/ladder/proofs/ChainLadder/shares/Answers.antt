-- `ChainLadder::shares` meets its contract: the shares so far are taken. Assumes nothing.
use Rattle.std.proofs.Common.{◌≡◌, refl, List, ℕ, zero, suc, ◌-◌, ◌≤◌, ◌<◌, replicate, arith, rules, ℤ, pos, ◌-ℤ◌, w64, SFits, to_z-of_z}
use Rattle.integers.specs.Order.{nat_abs--ℤ}
use Rattle.model.specs.Lists.{at}
use Rattle.model.specs.ListsLaws.{listed_none, listed_next}
use Rattle.rounding.specs.Words.{fits_abs}
use Rattle.ladder.specs.Ladder.{InBounds, difference}
use Rattle.ladder.specs.LadderLaws.{bounds_abs}
use Rattle.ladder.proofs.ChainLadder.shares.Goals as goal

by_suc : (g : List ℤ) (k : ℕ) → 1 ≤ k → at g k -ℤ at g (k - 1) ≡ difference g k
unfolding difference
by_suc g zero h = absurd (omega arith)
by_suc g (suc k) h = let e : suc k - 1 ≡ k = omega arith in rw e

difference_fits : {m : ℕ} {g : List ℤ} → InBounds m g → (k : ℕ) → 1 ≤ k → k < m → SFits w64 (difference g k)
difference_fits {g} b k h l =
    rw (← by_suc g k h)
    (fits_abs (omega (arith, nat_abs--ℤ (at g k) (at g (k - 1)), (bounds_abs (at g k) (b.shares k l)).2, (bounds_abs (at g (k - 1)) (b.shares (k - 1) (omega arith))).2)))

pub loop-k-init : goal.loop-k-init
unfolding difference
loop-k-init c =
    let x : SFits w64 (at c.args.self.now.g 0) = search rules in
    rw (to_z-of_z x) (listed_next 20 0 (difference c.args.self.now.g) (pos 0) {out = replicate 20 (pos 0)} (omega arith) (listed_none 20 _ (pos 0)) refl)

pub loop-k-preserved : goal.loop-k-preserved
loop-k-preserved c =
    let x : SFits w64 (at c.args.self.now.g c.loop-k.k) = search rules in
    let y : SFits w64 (at c.args.self.now.g (c.loop-k.k - 1)) = search rules in
    let f = difference_fits c.requires c.loop-k.k c.loop-k.auto.k c.loop-k-test.true in
    listed_next 20 c.loop-k.k _ (pos 0) (omega (arith, c.requires.few)) c.loop-k.invariant (rw (to_z-of_z x, to_z-of_z y, by_suc c.args.self.now.g c.loop-k.k c.loop-k.auto.k) (to_z-of_z f))
