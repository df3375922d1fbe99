use Rattle.std.proofs.Common.{◌≡◌, suc, ◌-◌, ◌≤◌, pos}
use Rattle.model.specs.Lists.{listed}
use Rattle.model.specs.Lent.{triangle_in}
use Rattle.model.specs.Shares.{A, B}
use Rattle.ladder.proofs.sums.sums.Given as goal

abbrev pub invariant-loop-j : goal.invariant-loop-j
invariant-loop-j l =
    let t = triangle_in l.kind l.set in
    let n = l.j - 1 in
    (n ≤ l.m - 1) × (l.a ≡ listed 20 n (λ i. A l.m t (suc i)) (pos 0)) × (l.b ≡ listed 20 n (λ i. B l.m t (suc i)) (pos 0)) × (l.whole ≡ B l.m t n)
