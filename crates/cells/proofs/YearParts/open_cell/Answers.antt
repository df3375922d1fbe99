-- `YearParts::open_cell` meets its contract. Assumes nothing.
use Rattle.std.proofs.Common.{◌+◌, arith, w64}
use Rattle.std.proofs.Math.Facts.{to_z-of_z}
use Rattle.std.proofs.lemmas.Bool.{lt-leb}
use Rattle.model.specs.Lists.{at}
use Rattle.model.specs.Cells.{rbns_from}
use Rattle.cells.specs.CellOf.{cell_of}
use Rattle.cells.specs.SmallLaws.{read_back}
use Rattle.cells.specs.SumsFromLaws.{reported_small}
use Rattle.cells.proofs.YearParts.open_cell.Goals as goal

pub scale_cell-requires : goal.scale_cell-requires
scale_cell-requires c =
    let y = c.requires.of_year in
    (rw (read_back c.args.self.now.v (omega (arith, y.1))) y.1, rw (to_z-of_z {w = w64} (record { sfits = c.reported_sum-reported.type_inv }), c.reported_sum-reported.ensures) (reported_small y.0 c.args.j))

pub returns : goal.returns
unfolding cell_of rbns_from
returns c =
    let y = c.args.self.now in
    let j = c.args.j in
    let r = c.requires.of_year in
    let v = read_back y.v (omega (arith, r.1)) in
    let rbns = rw (v, to_z-of_z {w = w64} (record { sfits = c.reported_sum-reported.type_inv }), c.reported_sum-reported.ensures) at c.scale_cell.ensures in
    let ibnr = rw (v, read_back (at y.unreported.now j) (r.0.summed j c.requires.m_bound.1)) at c.scale_cell-2.ensures in
    rw (to_z-of_z {w = w64} (record { sfits = c.scale_cell.type_inv }), to_z-of_z {w = w64} (record { sfits = c.scale_cell-2.type_inv }), lt-leb (y.i + j) y.m (omega arith), rbns, ibnr)
