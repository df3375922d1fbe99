-- `page_text::write_page` meets its contract: the heading, the lines of the years, ALL and the
-- totals. Assumes nothing.
use Rattle.std.proofs.Common.{◌≡◌, ◌∙◌, sym, ap, ℕ, ◌-◌, ◌*◌, ◌≤◌, arith, rules, SFits, length}
use Rattle.std.proofs.lemmas.Int.{to_z-of_z}
use Rattle.std.specs.Int.{w64}
use Rattle.model.specs.Calendar.{lines}
use Rattle.model.specs.Page.{aligned, columns, heading}
use Rattle.year_tally.specs.declared.Tally.{Tally}
use Rattle.text.specs.Written.{written_then}
use Rattle.tally.specs.Printable.{Printable}
use Rattle.tally.specs.YearRows.{total_is, total_spaced, evenly}
use Rattle.tally_text.specs.TallyTextLaws.{laid}
use Rattle.page_text.specs.PageLaws.{page_layout, page_laid, page_lines_laid, page_lines_length, year_amounts, total_amounts, amounts_laid, amounts_length}
use Rattle.page_text.proofs.write_page.Goals as goal

-- the lines of the years, 68 bytes each
lines_length : (m : ℕ) (t : Tally) → 2 ≤ m → m ≤ 20 → Printable m t → length (lines (laid page_layout) t (2 * m - 2)) ≡ 68 * (2 * m - 2)
lines_length m t low high p =
    let fit = year_amounts m t low high p in
    ap length (sym (page_lines_laid t (2 * m - 2) fit)) ∙ page_lines_length t (2 * m - 2) (omega arith) fit

pub write_lines-end-requires : goal.write_lines-end-requires
write_lines-end-requires c =
    record {
      n_bound = omega arith;
      by_index = c.requires.printable.both;
      lines_in_bounds = omega (arith, c.write_bytes-first.ensures.end, lines_length c.args.m _ c.requires.le_m.0 c.requires.le_m.1 c.requires.printable);
    }

pub spaced_sum-x-requires : goal.spaced_sum-x-requires
spaced_sum-x-requires c = evenly (total_spaced _ _ (omega arith) c.requires.printable.first_total)

pub spaced_sum-y-requires : goal.spaced_sum-y-requires
spaced_sum-y-requires c = evenly (total_spaced _ _ (omega arith) c.requires.printable.second_total)

pub write_bytes-next-requires : goal.write_bytes-next-requires
write_bytes-next-requires c =
    omega (
      arith,
      c.write_bytes-first.ensures.end,
      c.write_lines-end.ensures.end,
      lines_length c.args.m _ c.requires.le_m.0 c.requires.le_m.1 c.requires.printable,
    )

pub write_sums-requires : goal.write_sums-requires
write_sums-requires c =
    let f : SFits w64 c.spaced_sum-x.result = search rules in
    let g : SFits w64 c.spaced_sum-y.result = search rules in
    let a = total_amounts c.args.m c.args.t.now c.requires.le_m.0 c.requires.le_m.1 c.requires.printable in
    rw (to_z-of_z w64 _ f, to_z-of_z w64 _ g, c.spaced_sum-x.ensures, c.spaced_sum-y.ensures, total_is _ c.args.t.now.rbns, total_is _ c.args.t.now.ibnr)
    record {
      ibnr_value = c.requires.printable.total;
      sums_in_bounds = omega (
        arith,
        c.write_bytes-first.ensures.end,
        c.write_lines-end.ensures.end,
        c.write_bytes-next.ensures.end,
        lines_length c.args.m _ c.requires.le_m.0 c.requires.le_m.1 c.requires.printable,
        ap length (amounts_laid a),
        amounts_length a,
      );
    }

pub returns : goal.returns
unfolding heading columns aligned
returns c =
    let f : SFits w64 c.spaced_sum-x.result = search rules in
    let g : SFits w64 c.spaced_sum-y.result = search rules in
    let last =
    rw (to_z-of_z w64 _ f, to_z-of_z w64 _ g, c.spaced_sum-x.ensures, c.spaced_sum-y.ensures, total_is _ c.args.t.now.rbns, total_is _ c.args.t.now.ibnr)
    at c.write_sums.ensures in
    rw (page_laid c.args.m c.args.t.now c.requires.le_m.0 c.requires.le_m.1 c.requires.printable)
    (written_then c.write_bytes-first.ensures (written_then c.write_lines-end.ensures (written_then c.write_bytes-next.ensures last))).bytes
