-- `set_records` meets its contract: m(m+1) is even. Assumes nothing.
use Rattle.std.proofs.Common.{ℕ, ◌≡◌, ◌+◌, ◌*◌, ◌/◌, ◌≤◌, Bool, true, false, arith}
use Rattle.std.proofs.Math.Nat.{mul-le-mul}
use Rattle.model.specs.Lengths.{cells_most, kinds_range}
use Rattle.model.specs.Records.{set_length}
use Rattle.model.specs.Questions.{kinds}
use Rattle.records.specs.Places.{cells_of}
use Rattle.records.proofs.questions.set_records.Goals as goal

records_of_lem : (m : ℕ) (there : Bool) → m ≤ 20 → 16 * (kinds there * (m * (m + 1) / 2)) ≡ set_length m there
unfolding kinds
records_of_lem m true h = let e = cells_of m h in omega arith
records_of_lem m false h = let e = cells_of m h in omega arith

pub overflow_mul-result-2 : goal.overflow_mul-result-2
overflow_mul-result-2 c =
    let m = c.args.m in
    let l : c.kinds.result ≤ 3 = rw c.kinds.ensures (kinds_range _).1 in
    let h : m * (m + 1) / 2 ≤ 210 = omega (arith, cells_most _ c.requires) in
    omega (arith, mul-le-mul l h)

pub overflow_mul-result : goal.overflow_mul-result
overflow_mul-result c = omega (arith, cells_most _ c.requires)

pub returns : goal.returns
returns c = rw c.kinds.ensures (records_of_lem _ _ c.requires)
