-- `first_line::read_first_line` meets its contract: each return is a case of `first_line`.
-- Assumes nothing.
use Rattle.std.proofs.Common.{sym, arith}
use Rattle.first_line.specs.Runs.{run_within, refused_1, refused_2, refused_3, asked}
use Rattle.first_line.proofs.read_first_line.Goals as goal

pub returns-in_err-m : goal.returns-in_err-m
returns-in_err-m c = rw c.from_residual.ensures (refused_1 _ (sym c.in_err-m.ensures))

pub run_at-requires-2-clause-at_in_bounds : goal.run_at-requires-2-clause-at_in_bounds
run_at-requires-2-clause-at_in_bounds c = run_within _ 0 32 _ (omega arith) (sym c.in_ok-m.ensures)

pub returns-in_err-method : goal.returns-in_err-method
returns-in_err-method c = rw c.from_residual-in_err-method.ensures (refused_2 _ _ (sym c.in_ok-m.ensures) (sym c.in_err-method.ensures))

pub run_at-requires-3-clause-at_in_bounds : goal.run_at-requires-3-clause-at_in_bounds
run_at-requires-3-clause-at_in_bounds c = run_within _ c.in_ok-m.m.next 32 _ (omega arith) (sym c.in_ok-method.ensures)

pub returns-in_err-basis : goal.returns-in_err-basis
returns-in_err-basis c =
    rw c.from_residual-in_err-basis.ensures (refused_3 _ _ (sym c.in_ok-m.ensures) _ (sym c.in_ok-method.ensures) (sym c.in_err-basis.ensures))

pub returns : goal.returns
returns c = asked _ _ (sym c.in_ok-m.ensures) _ (sym c.in_ok-method.ensures) _ (sym c.in_ok-basis.ensures)
