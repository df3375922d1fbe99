-- `first_line::run_at` meets its contract: each return is a case of `run_at`. Assumes nothing.
use Rattle.std.proofs.Common.{sym, ◌∙◌, arith}
use Rattle.first_line.specs.Runs.{after, after_at, after_end, after_length, slice_is, run_none, run_long, run_other, run_past, run_is}
use Rattle.first_line.proofs.run_at.Goals as goal
use Rattle.first_line.proofs.run_at.Goals.{then-rest-n-via-then-rest-n, then-rest-n-via-else-rest-n+then-rest-n-2}

pub returns-in_default : goal.returns-in_default
returns-in_default c = run_none _ c.args.at _ _ (after_end c.args.s.now c.args.at c.digits_in_front-n.ensures) (omega arith)

pub returns-in_default-2 : goal.returns-in_default-2
returns-in_default-2 c = run_long _ c.args.at _ _ (after_end c.args.s.now c.args.at c.digits_in_front-n.ensures) (omega arith)

pub returns-then-rest-n : goal.returns-then-rest-n
returns-then-rest-n c =
    let e = after_end c.args.s.now c.args.at c.digits_in_front-n.ensures in
    elim c.then-rest-n.branch [
      | then-rest-n-via-then-rest-n w ↦ run_past _ c.args.at _ _ e (omega arith) (omega arith) (omega (arith, after_length c.args.at c.args.s.now)) (omega arith)
      | then-rest-n-via-else-rest-n+then-rest-n-2 w ↦
          run_other _ c.args.at _ _ e (omega arith) (omega arith) (λ q. w.if-rest-n-2.true (after_at c.args.at c.args.s.now c.digits_in_front-n.result ∙ q))
    ]

pub returns : goal.returns
returns c =
    let e = after_end c.args.s.now c.args.at c.digits_in_front-n.ensures in
    rw (c.number_of.ensures, after c.args.at c.args.s.now, sym (slice_is c.args.s.now c.args.at c.digits_in_front-n.result (omega arith)))
    (run_is _ c.args.at _ _ e (omega arith) (omega arith) (omega arith) (sym (after_at c.args.at c.args.s.now c.digits_in_front-n.result) ∙ c.if-rest-n-2.false))
