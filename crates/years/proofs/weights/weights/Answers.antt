-- `weights::weights` meets its contract. Assumes nothing.
use Rattle.std.proofs.Common.{◌-◌, arith}
use Rattle.model.specs.Lists.{at}
use Rattle.cells.specs.SmallLaws.{read_back}
use Rattle.cells.specs.Weights.{weights_from}
use Rattle.years.specs.Ready.{year_weights}
use Rattle.years.proofs.weights.weights.Goals as goal

pub returns-in-Estimated : goal.returns-in-Estimated
unfolding year_weights weights_from
returns-in-Estimated c = rw c.in-Estimated.is

pub actual_weights-requires : goal.actual_weights-requires
actual_weights-requires c =
    let a = c.args in
    let r = c.requires in
    rw (read_back (at a.counts.now.g (a.m - a.i)) (omega (arith, r.share)), read_back (at a.counts.now.latest (a.i - 1)) (omega (arith, r.row))) r

pub returns-in-Actual : goal.returns-in-Actual
unfolding year_weights weights_from
returns-in-Actual c =
    let a = c.args in
    let r = c.requires in
    rw c.in-Actual.is (rw (read_back (at a.counts.now.g (a.m - a.i)) (omega (arith, r.share)), read_back (at a.counts.now.latest (a.i - 1)) (omega (arith, r.row))) at c.actual_weights.ensures)
