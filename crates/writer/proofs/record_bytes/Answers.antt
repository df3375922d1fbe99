-- `record_bytes` meets its contract. Assumes nothing.
use Rattle.std.proofs.Common.{ap, List, ℕ, ◌∷◌}
use Rattle.std.proofs.Math.Facts.{to_z-of_z}
use Rattle.model.specs.SetFile.{record_of}
use Rattle.writer.proofs.Words.{word_bytes}
use Rattle.writer.proofs.record_bytes.Goals as goal

pub returns : goal.returns
unfolding record_of
returns c =
    rw (c.to_le_bytes-w.ensures, to_z-of_z c.ranges.value)
    (ap (λ (w : List ℕ). c.args.kind ∷ c.args.year ∷ c.args.delay ∷ c.args.line ∷ 0 ∷ 0 ∷ 0 ∷ 0 ∷ w) (word_bytes c.args.value))
