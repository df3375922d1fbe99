-- `calendar::respond_short` meets its contract: the answer goes to a text of its own, and from
-- there to the output where that has room. Assumes nothing.
use Rattle.std.proofs.Common.{◌≡◌, sym, subst, List, ℕ, ◌<◌, ◌≤◌, length-take-le, length}
use Rattle.model.specs.Overlay.{overlay}
use Rattle.calendar.specs.Respond.{written_room, too_short, copied}
use Rattle.calendar.proofs.respond_short.Goals as goal

-- the text lies within the list that it was written to
fits : (before after text : List ℕ) (n : ℕ) → after ≡ overlay before 0 text → n ≡ length text → n ≤ length after
fits before after text n w e = rw (w, e) (written_room before text)

pub returns-then-out-n : goal.returns-then-out-n
returns-then-out-n c =
    let z = too_short c.args.input.now c.args.out.now (subst (λ (k : ℕ). length c.args.out.now < k) c.answer-n.ensures.1 c.if-out-n.true) in
    (sym z.0, sym z.1)

pub slice_bounds-text-end : goal.slice_bounds-text-end
slice_bounds-text-end c = fits _ _ _ _ c.answer-n.ensures.0 c.answer-n.ensures.1

pub slice_bounds-write_bytes-end : goal.slice_bounds-write_bytes-end
slice_bounds-write_bytes-end c = sym (length-take-le _ _ (fits _ _ _ _ c.answer-n.ensures.0 c.answer-n.ensures.1))

pub returns : goal.returns
returns c =
    copied c.args.input.now c.args.out.now _ _ _ _ _ c.answer-n.ensures.0 c.answer-n.ensures.1 c.write_bytes.ensures
