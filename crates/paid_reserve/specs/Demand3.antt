-- Demand 3: the delays that a set's forecast solves for. The distance to the reserve of the
-- forecast as it is written is Demand3 of proofs/. Assumes nothing.
use Rattle.std.specs.Prelude.{ℕ, ◌<◌}
use Rattle.std.proofs.Common.{arith}
use Rattle.model.specs.Shares as Shares
use Rattle.model.specs.Shares.{b_list}
use Rattle.model.specs.Delays.{delays_of}
use Rattle.model.specs.declared.TriangleSet.{TriangleSet}
use Rattle.chain_ladder.specs.DevelopedLaws.{Shared, counts_sound}
use Rattle.ladder.specs.SharesLaws.{at_b_list}
use Rattle.solver.specs.DelaysLaws.{Solves, solved}

-- ---- of every set that passes questions 9 to 11
module _ (m : ℕ) (s : TriangleSet) (h : Shared m s.counts s.paid) where
  -- the delays solved here solve its system
  pub own_solve : Solves m (b_list m s.counts) (b_list m s.paid) (delays_of m s)
  unfolding delays_of Shares.b
  own_solve =
      let few = h.counts.small.few in
      let some : 0 < m = (let l = h.counts.least in omega arith) in
      solved (b_list m s.counts) (b_list m s.paid) m few (rw (at_b_list m s.counts few 0 some) (counts_sound h).first)
