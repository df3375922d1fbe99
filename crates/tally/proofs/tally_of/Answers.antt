-- `tally::tally_of` meets its contract. The invariant: t is the tally of calendar years 1
-- to k. Assumes nothing.
use Rattle.std.proofs.Common.{◌≡◌, ◌-◌, ◌*◌, arith, SFits, rules}
use Rattle.std.specs.Int.{w64}
use Rattle.std.proofs.lemmas.Int.{to_z-of_z}
use Rattle.year_tally.specs.TallyAddLaws.{so_fits}
use Rattle.tally.specs.YearRows.{no_years, all_years, year_added}
use Rattle.tally.proofs.tally_of.Goals as goal

pub loop-k-init : goal.loop-k-init
loop-k-init c = no_years c.args.m c.args.out.now

pub loop-k-preserved : goal.loop-k-preserved
loop-k-preserved c =
    let f : SFits w64 c.year_sum-rbns.result = search rules in
    let g : SFits w64 c.year_sum-ibnr.result = search rules in
    rw (c.add-t.ensures, to_z-of_z w64 _ f, to_z-of_z w64 _ g)
    (year_added c.args.m c.args.out.now c.loop-k.k (omega arith) (so_fits _ f) (so_fits _ g) c.loop-k.invariant c.year_sum-rbns.ensures c.year_sum-ibnr.ensures)

pub returns : goal.returns
returns c =
    let e : c.loop-k.k ≡ 2 * c.args.m - 2 = omega arith in
    rw (← all_years c.args.m c.args.out.now (omega arith) c.requires.3) (rw e at c.loop-k.invariant)
