use Rattle.std.proofs.Common.{◌≡◌, ◌+◌, ◌*◌, ◌^◌, ◌≤◌, drop}
use Rattle.model.specs.Calendar.{value_from}
use Rattle.first_line.proofs.number_of.Given as goal

abbrev pub invariant-loop-b : goal.invariant-loop-b
invariant-loop-b l =
    record { small : l.v + 23 ≤ 23 * 10 ^ l.b-index; rest : value_from 0 l.digits ≡ value_from l.v (drop l.b-index l.digits) }
