-- What question 16 says of a transaction. Assumes nothing.
use Rattle.std.specs.Prelude.{ℕ, zero, suc, ◌^◌, ◌<◌, ◌≡◌, refl, Bool, true, false, ◌&&◌, cond, leb, eqb, pos}
use Rattle.std.proofs.Common.{arith, leb-true}
use Rattle.integers.specs.Parts.{◌⩽◌}
use Rattle.integers.specs.Order.{≤ℤ_trans}
use Rattle.model.specs.ListsLaws.{and_left, and_right}
use Rattle.model.specs.Questions.{within, q1}
use Rattle.model.specs.QuestionsLaws.{within_so}
use Rattle.model.specs.Lengths.{size_so}
use Rattle.model.specs.declared.Transaction.{Transaction}
use Rattle.model.specs.Journal.{q16}
use Rattle.booking.specs.Good.{Good}

-- a kind that is not 0
pub one_of : (k : ℕ) → k < 2 → (k ≡ 0 → ⊥) → k ≡ 1
one_of zero h n = absurd (n refl)
one_of (suc k) h n = omega arith

most_ten : (t : Bool) → pos (cond t 0 (10 ^ 10)) ⩽ pos (10 ^ 10)
most_ten true = omega arith
most_ten false = omega arith

pub good : (m : ℕ) (x : Transaction) → q1 m ≡ true → q16 m x ≡ true → Good m x
unfolding q16
good m x e g =
    let b1 = leb x.claim 4095 in
    let b2 = b1 && leb x.kind 1 in
    let b3 = b2 && leb 1 x.accident in
    let b4 = b3 && leb x.accident m in
    let b5 = b4 && leb x.accident x.calendar in
    let b6 = b5 && leb x.calendar m in
    let b7 = b6 && eqb x.spare 0 in
    let top = pos (cond (eqb x.kind 0) 0 (10 ^ 10)) in
    let a = within_so (pos 0) top x.amount (and_right b7 (within (pos 0) top x.amount) g) in
    let g6 = and_left b6 (eqb x.spare 0) (and_left b7 (within (pos 0) top x.amount) g) in
    let g5 = and_left b5 (leb x.calendar m) g6 in
    let g3 = and_left b3 (leb x.accident m) (and_left b4 (leb x.accident x.calendar) g5) in
    let g2 = and_left b2 (leb 1 x.accident) g3 in
    let c = leb-true x.claim 4095 (and_left b1 (leb x.kind 1) g2) in
    let k = leb-true x.kind 1 (and_right b1 (leb x.kind 1) g2) in
    let l = leb-true x.calendar m (and_right b5 (leb x.calendar m) g6) in
    let s = (size_so m e).1 in
    record {
      few = s;
      claim_is = omega arith;
      kind_is = omega arith;
      year_is = leb-true 1 x.accident (and_right b2 (leb 1 x.accident) g3);
      order = leb-true x.accident x.calendar (and_right b4 (leb x.accident x.calendar) g5);
      calendar_is = l;
      least = a.0;
      most = ≤ℤ_trans a.1 (most_ten (eqb x.kind 0));
    }

-- m does not matter
pub good_20 : (m : ℕ) (x : Transaction) → Good m x → Good 20 x
good_20 m x g =
    record {
      few = omega arith;
      claim_is = g.claim_is;
      kind_is = g.kind_is;
      year_is = g.year_is;
      order = g.order;
      calendar_is = omega (arith, g.few, g.calendar_is);
      least = g.least;
      most = g.most;
    }
