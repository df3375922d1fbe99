-- `added` meets its contract: a sum that does not fit is out of every range. Assumes nothing.
use Rattle.std.proofs.Common.{◌+ℤ◌, le-leb}
use Rattle.std.proofs.Math.Facts.{to_z-of_z}
use Rattle.model.specs.Records.{in_range}
use Rattle.model.specs.Tests.{by_test}
use Rattle.triangles.specs.Ranges.{range_fits}
use Rattle.booking.proofs.added.Goals as goal

pub returns-in_err-sum : goal.returns-in_err-sum
returns-in_err-sum c =
    by_test (in_range c.args.x.kind (c.args.cell +ℤ c.args.amount))
    (λ y. absurd (c.in_err-sum.ensures (rw (to_z-of_z c.ranges.cell, to_z-of_z c.ranges.amount) (range_fits _ _ y))))
    (λ y. rw (le-leb _ _ c.if-x-last.false, y) c.from_residual.ensures)
