-- `YearParts::reported_sum` meets its contract. Assumes nothing.
use Rattle.std.proofs.Common.{◌≡◌, ℕ, ◌-◌, ◌*◌, ◌^◌, ◌≤◌, ◌<◌, List, ℤ, ◌-ℤ◌, nat_abs, leb, ap, arith, w64, to_z, of_z}
use Rattle.rounding.specs.Words.{fits_abs}
use Rattle.model.specs.Lists.{at}
use Rattle.model.specs.Cells.{pairs}
use Rattle.cells.specs.CellOf.{number, Year}
use Rattle.cells.specs.SmallLaws.{read_back}
use Rattle.cells.specs.SumsFromLaws.{reported_small, sums_fit, whole_less_later}
use Rattle.cells.proofs.YearParts.reported_sum.Goals as goal

-- the difference, with estimated counts
difference_is : {m i basis : ℕ} {whole u s p : List ℤ} → Year m i basis whole u s p → (j : ℕ) → j < 39 → basis ≡ 1 → to_z w64 (of_z w64 (at whole j)) -ℤ to_z w64 (of_z w64 (at u j)) ≡ pairs m j (λ k. leb k (m - i)) s p
difference_is {m} {i} {basis} {whole} {u} {s} {p} y j h b =
    let w : nat_abs (at whole j) ≤ 9 * 10 ^ 18 = rw (y.whole_is b) (sums_fit m 0 s p y.few y.weights y.delays j h) in
    rw (read_back (at whole j) w, read_back (at u j) (y.summed j h)) (whole_less_later y j b h)

pub overflow_sub-result : goal.overflow_sub-result
overflow_sub-result c =
    let y = c.requires.0.0 in
    rw (difference_is y c.args.j c.requires.2 (ap number c.in-Estimated.is)) (fits_abs (omega (arith, reported_small y c.args.j)))

pub returns-in-Estimated : goal.returns-in-Estimated
returns-in-Estimated c =
    let y = c.requires.0.0 in
    rw (difference_is y c.args.j c.requires.2 (ap number c.in-Estimated.is)) (read_back (pairs c.args.self.now.m c.args.j (λ k. leb k (c.args.self.now.m - c.args.self.now.i)) c.args.self.now.s.now c.args.self.now.p.now) (reported_small y c.args.j))
