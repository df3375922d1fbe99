-- `put_year` meets its contract: the records so far are written. Assumes nothing.
use Rattle.std.proofs.Common.{◌≡◌, ℕ, ◌+◌, sym, ap, ◌∙◌, arith, w64, FitsSigned, ℤ}
use Rattle.std.proofs.Math.Facts.{to_z-of_z}
use Rattle.model.specs.Records.{cell}
use Rattle.model.specs.Overlay.{overlay}
use Rattle.model.specs.SetFile.{word, record_of}
use Rattle.writer.specs.Written.{year_bytes}
use Rattle.writer.proofs.WrittenLaws.{length_record}
use Rattle.writer.proofs.Chained.{filled_room, filled_none, filled_next}
use Rattle.writer.proofs.put_year.Goals as goal

pub put-requires : goal.put-requires
unfolding year_bytes
put-requires c =
    omega (
      arith,
      length_record c.args.kind c.args.year c.loop-j.j c.args.line (word (cell c.args.cells.now c.args.year c.loop-j.j)),
      filled_room _ _ _ c.loop-j.invariant c.args.n c.requires.n_in_bounds c.loop-j-test.true,
    )

pub loop-j-preserved : goal.loop-j-preserved
unfolding year_bytes
loop-j-preserved c =
    let l = c.loop-j in
    let v = cell c.args.cells.now c.args.year l.j in
    let long = length_record c.args.kind c.args.year l.j c.args.line (word v) in
    let read : FitsSigned w64 v = search in
    let e = c.record_bytes.ensures ∙ ap (λ (z : ℤ). record_of c.args.kind c.args.year l.j c.args.line (word z)) (to_z-of_z read) in
    filled_next _ _ _ l.invariant c.args.n c.requires.n_in_bounds
    (ap (λ (n : ℕ). l.next + n) (sym long), c.put.ensures ∙ ap (overlay l.out l.next) e) c.put.auto.out

pub returns : goal.returns
unfolding year_bytes
returns c =
    let e : c.loop-j.j ≡ c.args.n = omega arith in
    let w = rw e at c.loop-j.invariant in
    record { value = w.end; out_after = w.bytes }

pub loop-j-init : goal.loop-j-init
loop-j-init c = filled_none _ _ _

pub overflow_add-next : goal.overflow_add-next
unfolding year_bytes
overflow_add-next c =
    omega (
      arith,
      length_record c.args.kind c.args.year c.loop-j.j c.args.line (word (cell c.args.cells.now c.args.year c.loop-j.j)),
      filled_room _ _ _ c.loop-j.invariant c.args.n c.requires.n_in_bounds c.loop-j-test.true,
    )
