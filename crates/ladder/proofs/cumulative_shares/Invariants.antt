use Rattle.std.proofs.Common.{◌≡◌, true, ℕ, ◌≤◌, ◌<◌}
use Rattle.ladder.specs.Ladder.{bounded, g_of}
use Rattle.ladder.proofs.Backwards.{listed_from}
use Rattle.ladder.proofs.cumulative_shares.Given as goal

abbrev pub invariant-loop-j : goal.invariant-loop-j
invariant-loop-j l = (l.j < l.m) × (l.g ≡ listed_from 20 l.j l.m (g_of l.m l.a l.b)) × ((k : ℕ) → l.j ≤ k → k < l.m → bounded (g_of l.m l.a l.b k) ≡ true)
