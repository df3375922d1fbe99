-- `chain_ladder::at_least` meets its contract: the numbers that the iterator goes over are the
-- first n. Assumes nothing.
use Rattle.std.proofs.Common.{◌≡◌, rules, Bool, ℕ, ◌<◌, ◌≤◌, ◌↔◌, IsTrue, EachIndex, List, length, length-take, take, get_or-take, arith, ℤ, pos, ◌≤ℤ◌}
use lib.Signed.{le_z}
use Rattle.integers.specs.Order.{le_z_true, le_yes}
use Rattle.model.specs.Lists.{at, every}
use Rattle.model.specs.ListsLaws.{every_at, every_all}
use Rattle.model.specs.Tests.{same_test}
use Rattle.chain_ladder.proofs.at_least.Goals as goal

same : (b : Bool) (n : ℕ) (xs : List ℤ) (least : ℤ) → n ≤ length xs → (IsTrue b ↔ EachIndex (take n xs) (λ k. least ≤ℤ at (take n xs) k)) → b ≡ every n (λ k. le_z least (at xs k))
same b n xs least h y =
    same_test b (every n (λ k. le_z least (at xs k)))
    (λ e. every_all (λ k. le_z least (at xs k)) n (λ k l. let u : least ≤ℤ at xs k = rw (← get_or-take n xs k (pos 0) l) (y.0 e k (omega (arith, length-take n xs))) in le_z_true u))
    (λ e. y.1 (λ k l. let u : k < n = omega (arith, length-take n xs) in rw (get_or-take n xs k (pos 0) u) (le_yes (every_at (λ k. le_z least (at xs k)) n k e u))))

pub returns : goal.returns
returns c = same c.all.result c.args.n c.args.xs.now c.args.least (omega arith) (search rules)
