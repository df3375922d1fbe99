-- `YearParts::write` meets its contract. The loop's invariant: the entries of the delays below j
-- are written. Assumes nothing.
use Rattle.std.proofs.Common.{◌≡◌, ℕ, ◌+◌, ◌-◌, ◌*◌, ◌≤◌, ◌<◌, ap, ◌∙◌, ℤ, List, length, set, arith, w64, to_z, of_z}
use Rattle.model.specs.Overlay.{overlay}
use Rattle.cells.specs.declared.Cell.{Cell}
use Rattle.cells.specs.declared.YearParts.{YearParts}
use Rattle.cells.specs.CellOf.{OfYear, year_cell, first_of}
use Rattle.cells.specs.EntryLaws.{known_entries, two_stored}
use Rattle.cells.specs.SmallLaws.{read_back, cell_small}
use Rattle.cells.proofs.YearParts.write.Goals as goal

-- the two numbers of a cell stored behind the entries of the delays before it
stored : (y : YearParts) → OfYear y → (j : ℕ) → j < 39 → (d out : List ℤ) (from : ℕ) (c : Cell) → from + 2 * j + 2 ≤ length d → c ≡ year_cell y j → out ≡ overlay d from (first_of y (2 * j))
    → set (set out (from + 2 * j) (to_z w64 (of_z w64 c.rbns))) (from + 2 * j + 1) (to_z w64 (of_z w64 c.ibnr)) ≡ overlay d from (first_of y (2 * (j + 1)))
stored y r j k d out from c h e o =
    let small = cell_small r.0 y.v r.1 j k in
    rw (e, read_back (year_cell y j).rbns (omega (arith, small)), read_back (year_cell y j).ibnr (omega (arith, small)), o) (two_stored y.m y.v y.s.now y.p.now y.unreported.now y.i d from j h)

pub loop-j-init : goal.loop-j-init
loop-j-init c =
    let y = c.args.self.now in
    let r = c.requires.of_year.0 in
    (omega arith, omega (arith, r.first, r.last), c.write_known.ensures ∙ ap (overlay c.args.out.now c.args.from) (known_entries y.m y.v y.s.now y.p.now y.unreported.now y.i r.first))

pub loop-j-preserved : goal.loop-j-preserved
loop-j-preserved c =
    let y = c.args.self.now in
    let r = c.requires.of_year in
    (omega arith, omega arith, stored y r c.loop-j.j (omega (arith, r.0.few)) c.args.out.now c.loop-j.out c.args.from c.open_cell-cell.result (omega arith) c.open_cell-cell.ensures c.loop-j.invariant.2)

pub returns : goal.returns
returns c =
    let e : c.loop-j.j ≡ 2 * c.args.self.now.m - 1 = omega arith in
    rw e at c.loop-j.invariant.2
