-- `tally_text::write_lines` meets its contract. The invariant: the lines of the first k years are
-- written, and nothing else. Assumes nothing.
use Rattle.std.proofs.Common.{◌≡◌, ap, arith, rules, ℕ, ◌+◌, ◌<◌, SFits, get_or, pos, to_z}
use Rattle.std.proofs.lemmas.Int.{to_z-of_z, to_z_pos}
use Rattle.std.specs.Int.{w64}
use Rattle.model.specs.Calendar.{amount, digits}
use Rattle.text.specs.Written.{written_none, written_then, written_length}
use Rattle.tally_text.specs.TallyTextLaws.{laid, lines_none, laid_next, laid_room}
use Rattle.tally_text.proofs.write_lines.Goals as goal

-- the year that is written
year_is : (k : ℕ) → k < 38 → amount (to_z w64 (k + 1)) ≡ digits (k + 1)
unfolding amount
year_is k h = ap amount (to_z_pos w64 (k + 1) (omega arith))

pub loop-k-init : goal.loop-k-init
loop-k-init c = rw (lines_none (laid c.args.layout) c.args.t.now) (written_none c.args.out.now c.args.start (omega arith))

pub write_aligned-next-requires : goal.write_aligned-next-requires
write_aligned-next-requires c =
    rw (year_is c.loop-k.k (omega arith))
    (omega (arith, laid_room c.args.layout c.args.t.now c.loop-k.k c.args.n (omega arith), c.loop-k.invariant.end, written_length c.loop-k.invariant))

pub write_sums-end-requires : goal.write_sums-end-requires
write_sums-end-requires c =
    let f : SFits w64 (get_or c.args.t.now.rbns c.loop-k.k (pos 0)) = search rules in
    let g : SFits w64 (get_or c.args.t.now.ibnr c.loop-k.k (pos 0)) = search rules in
    let y = rw (year_is c.loop-k.k (omega arith)) at c.write_aligned-next.ensures in
    rw (to_z-of_z w64 _ f, to_z-of_z w64 _ g) record {
      ibnr_value = c.requires.by_index c.loop-k.k (omega arith);
      sums_in_bounds = omega (
        arith,
        laid_room c.args.layout c.args.t.now c.loop-k.k c.args.n (omega arith),
        c.loop-k.invariant.end,
        written_length c.loop-k.invariant,
        y.end,
        written_length y,
      );
    }

pub loop-k-preserved : goal.loop-k-preserved
loop-k-preserved c =
    let f : SFits w64 (get_or c.args.t.now.rbns c.loop-k.k (pos 0)) = search rules in
    let g : SFits w64 (get_or c.args.t.now.ibnr c.loop-k.k (pos 0)) = search rules in
    let y = rw (year_is c.loop-k.k (omega arith)) at c.write_aligned-next.ensures in
    rw (laid_next c.args.layout c.args.t.now c.loop-k.k)
    (written_then c.loop-k.invariant (written_then y (rw (to_z-of_z w64 _ f, to_z-of_z w64 _ g) at c.write_sums-end.ensures)))

pub returns : goal.returns
returns c = let e : c.loop-k.k ≡ c.args.n = omega arith in rw e at c.loop-k.invariant

pub shape_of-out : goal.shape_of-out
shape_of-out c = written_length c.loop-k.invariant
