-- `copy_kind` meets its contract: the part copied is the triangle place by place. Assumes nothing.
use Rattle.std.proofs.Common.{◌+◌, ◌*◌, ◌-◌, arith, get_or-take, get_or-drop, ◌∙◌, drop, pos}
use Rattle.model.specs.ListsLaws.{is_tabulate}
use Rattle.model.specs.Lent.{triangle_in}
use Rattle.triangles.proofs.copy_kind.Goals as goal

pub returns : goal.returns
unfolding triangle_in
returns c =
    let a = 400 * c.args.kind in
    is_tabulate 400 _ _ (pos 0) (omega arith)
    (λ k h. rw c.copy_from_slice.ensures.after (get_or-take (a + 400 - a) (drop a c.args.set.now) k (pos 0) (omega arith) ∙ get_or-drop a c.args.set.now k (pos 0)))
