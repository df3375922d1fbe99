use Rattle.journal.specs.Replays.{Reached}
use Rattle.journal.proofs.replay.Given as goal

-- the first k transactions are accepted
abbrev pub invariant-loop-k : goal.invariant-loop-k
invariant-loop-k l = Reached l.m l.journal l.k 0 l.t
