-- `errors::overall` meets its contract: the rows so far are summed. Assumes nothing.
use Rattle.std.proofs.Common.{◌≡◌, ◌+◌, sym, ◌∙◌, ap, nat_abs, arith, w64}
use Rattle.std.proofs.Math.Facts.{to_z-of_z}
use Rattle.integers.specs.Sums.{sum_zero}
use Rattle.model.specs.BackTest.{overall}
use Rattle.gaps.specs.ErrorsLaws.{all_small, more_fits, more_is}
use Rattle.gaps.proofs.errors.overall.Goals as goal

pub loop-k-init : goal.loop-k-init
loop-k-init c = sym (sum_zero _)

pub overflow_add-out : goal.overflow_add-out
overflow_add-out c = more_fits c.loop-k.k _ c.loop-k.invariant (to_z-of_z {w = w64} (record { sfits = c.row_gap-out.type_inv }) ∙ c.row_gap-out.ensures) (all_small c.args.d.now c.requires.0 c.args.n c.requires.1 (c.loop-k.k + 1) (omega arith))

pub loop-k-preserved : goal.loop-k-preserved
loop-k-preserved c = more_is c.loop-k.k _ c.loop-k.invariant (to_z-of_z {w = w64} (record { sfits = c.row_gap-out.type_inv }) ∙ c.row_gap-out.ensures) (all_small c.args.d.now c.requires.0 c.args.n c.requires.1 (c.loop-k.k + 1) (omega arith))

pub returns : goal.returns
unfolding overall
returns c = let e : c.loop-k.k ≡ c.args.n = omega arith in c.unsigned_abs.ensures.value ∙ ap nat_abs (rw e at c.loop-k.invariant)
