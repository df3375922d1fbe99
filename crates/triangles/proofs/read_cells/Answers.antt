-- `read_cells` meets its contract: each way out is one case of `Answer`. Assumes nothing.
use Rattle.std.proofs.Common.{arith, ◌≡◌, ◌*◌, true, sym, ap, ◌∙◌}
use Rattle.model.specs.Records.{set_length, has_incurred}
use Rattle.model.specs.Questions.{q1, kinds}
use Rattle.model.specs.Lengths.{set_most, size_so, kinds_range}
use Rattle.triangles.proofs.Answer.{no_1, no_2, read_so}
use Rattle.triangles.proofs.read_cells.Goals as goal
use Rattle.triangles.proofs.read_cells.Goals.{Else-not-q1, After-set_records-n}

-- question 1 had a yes
size : (c : Else-not-q1) → q1 c.args.m ≡ true
size c = sym c.q1.ensures ∙ c.if-not-q1.false

-- the length that the file's kinds need
long : (c : After-set_records-n) → 16 * c.set_records-n.result ≡ set_length c.args.m (has_incurred c.args.m c.args.file.now)
long c = c.set_records-n.ensures ∙ rw c.has_incurred-incurred.ensures

pub returns-then-not-q1 : goal.returns-then-not-q1
returns-then-not-q1 c = no_1 _ _ _ (sym c.q1.ensures ∙ c.if-not-q1.true)

pub returns-then-file-n : goal.returns-then-file-n
returns-then-file-n c = no_2 _ _ _ (sym c.q1.ensures ∙ c.if-not-q1.false) (λ e. c.if-file-n.true (e ∙ sym (c.set_records-n.ensures ∙ rw c.has_incurred-incurred.ensures)))

pub returns : goal.returns
returns c =
    let u = c.kinds-kinds.ensures ∙ ap kinds c.has_incurred-incurred.ensures in
    read_so _ _ _ (sym c.q1.ensures ∙ c.if-not-q1.false) _ c.if-file-n.false (c.set_records-n.ensures ∙ rw c.has_incurred-incurred.ensures) _ (rw (u, c.line.ensures) at c.read_records.ensures)

pub has_incurred-incurred-requires : goal.has_incurred-incurred-requires
has_incurred-incurred-requires c = (size_so _ (size c)).1

pub set_records-n-requires : goal.set_records-n-requires
set_records-n-requires c = (size_so _ (sym c.q1.ensures ∙ c.if-not-q1.false)).1

pub overflow_mul-n : goal.overflow_mul-n
overflow_mul-n c = omega (arith, set_most _ c.has_incurred-incurred.result (size_so _ (sym c.q1.ensures ∙ c.if-not-q1.false)).1, c.set_records-n.ensures)

pub read_records-requires-clause-m_bound : goal.read_records-requires-clause-m_bound
read_records-requires-clause-m_bound c =
    ((size_so _ (sym c.q1.ensures ∙ c.if-not-q1.false)).1, rw c.kinds-kinds.ensures (kinds_range _).1)
