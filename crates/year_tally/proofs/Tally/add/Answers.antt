-- `Tally::add` meets its contract: each return is a case of `tally_add`. Assumes nothing.
use Rattle.std.proofs.Common.{◌-◌, arith, get_or, pos, SFits, rules}
use Rattle.std.proofs.lemmas.Int.{to_z-of_z}
use Rattle.std.specs.Int.{w64}
use Rattle.year_tally.specs.TallyAddLaws.{year_low, year_high, rbns_past, ibnr_past, both_fit}
use Rattle.year_tally.proofs.Tally.add.Goals as goal

pub returns-in_default : goal.returns-in_default
returns-in_default c = year_low _ _ _ _ (omega arith)

pub returns-in_default-2 : goal.returns-in_default-2
returns-in_default-2 c = year_high _ _ _ _ (omega arith) (omega arith)

pub returns-in_default-checked_add : goal.returns-in_default-checked_add
returns-in_default-checked_add c =
    let f : SFits w64 (get_or c.args.self.rbns (c.args.year - 1) (pos 0)) = search rules in
    let g : SFits w64 c.args.rbns = c.ranges.rbns in
    rbns_past _ _ _ _ (omega arith) (omega arith) (simp to_z-of_z at c.in_default-checked_add.ensures)

pub returns-in_default-checked_add-2 : goal.returns-in_default-checked_add-2
returns-in_default-checked_add-2 c =
    let f : SFits w64 (get_or c.args.self.rbns (c.args.year - 1) (pos 0)) = search rules in
    let g : SFits w64 (get_or c.args.self.ibnr (c.args.year - 1) (pos 0)) = search rules in
    let h : SFits w64 c.args.rbns = c.ranges.rbns in
    let i : SFits w64 c.args.ibnr = c.ranges.ibnr in
    let a = simp to_z-of_z at c.in-Some.ensures in
    ibnr_past _ _ _ _ (omega arith) (omega arith) a.0 (simp to_z-of_z at c.in_default-checked_add-2.ensures)

pub returns : goal.returns
returns c =
    let f : SFits w64 (get_or c.args.self.rbns (c.args.year - 1) (pos 0)) = search rules in
    let g : SFits w64 (get_or c.args.self.ibnr (c.args.year - 1) (pos 0)) = search rules in
    let h : SFits w64 c.args.rbns = c.ranges.rbns in
    let i : SFits w64 c.args.ibnr = c.ranges.ibnr in
    let a = simp to_z-of_z at c.in-Some.ensures in
    let b = simp to_z-of_z at c.in-Some-checked_add.ensures in
    rw (a.1, b.1, to_z-of_z w64 _ a.0, to_z-of_z w64 _ b.0) (both_fit _ _ _ _ (omega arith) (omega arith) a.0 b.0)
