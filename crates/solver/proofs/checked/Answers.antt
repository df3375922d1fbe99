-- `checked` meets its contract: the delays so far are in range and solve their lines. Assumes
-- nothing.
use Rattle.std.proofs.Common.{◌≡◌, sym, ◌∙◌, ap, true, false, ◌&&◌, List, ℕ, ◌+◌, ◌*◌, ◌^◌, ◌≤◌, ◌<◌, arith, eqb, eq-eqb, ne_eqb, length, set, ℤ, pos, nat_abs, w64, to_z, of_z, to_z-of_z, Some, None}
use mathlib.Core.Bool.{and-false}
use Rattle.model.specs.Lists.{at, every, listed}
use Rattle.model.specs.ListsLaws.{every_none, every_more, every_at, every_no, get_or_listed, listed_none, listed_next}
use Rattle.model.specs.Delays.{solves_at}
use Rattle.model.specs.Questions.{q12, q20}
use Rattle.solver.specs.DelaysLaws.{same_line}
use Rattle.solver.specs.Solved.{held, checked_of}
use Rattle.solver.specs.SolvedLaws.{held_small, next_of}
use Rattle.solver.proofs.checked.Goals as goal
use Rattle.solver.proofs.checked.Goals.{After-in_range, After-solves_at, Else-not-in_range}

module _ (m : ℕ) (b q lent : List ℤ) where
  -- ---- question 20
  turned_away : q20 m b q lent ≡ false → None ≡ checked_of m b q lent
  unfolding checked_of
  turned_away e = rw e

  by_number : (length lent ≡ m → ⊥) → q20 m b q lent ≡ false
  unfolding q20
  by_number o = rw (ne_eqb (length lent) m o)

  by_range : (l : ℕ) → l < m → held (at lent l) ≡ false → q20 m b q lent ≡ false
  unfolding q20 q12
  by_range l h e = rw (every_no (λ l. held (at lent l)) m l h e, and-false (eqb (length lent) m))

  by_line : (l : ℕ) → l < m → solves_at b q lent l ≡ false → q20 m b q lent ≡ false
  unfolding q20
  by_line l h e = rw (every_no (solves_at b q lent) m l h e) (and-false (eqb (length lent) m && q12 m lent))

  let_through : length lent ≡ m → every m (λ l. held (at lent l)) ≡ true → every m (solves_at b q lent) ≡ true → q20 m b q lent ≡ true
  unfolding q20 q12
  let_through n r e = rw (eq-eqb (length lent) m n, r, e)

-- the delay that is looked at
x_is : (c : After-in_range) → to_z w64 (of_z w64 (at c.args.lent.now c.loop-l.l)) ≡ at c.args.lent.now c.loop-l.l
x_is c = to_z-of_z {w = w64} (record { sfits = c.y-1.given })

-- it is in range, and stands in the list
module _ (c : Else-not-in_range) where
  abbrev lent : List ℤ
  lent = c.args.lent.now

  abbrev l : ℕ
  l = c.loop-l.l

  abbrev p : List ℤ
  p = set c.loop-l.p l (to_z w64 (of_z w64 (at lent l)))

  placed_next : p ≡ listed 20 (l + 1) (at lent) (pos 0)
  placed_next = listed_next 20 l (at lent) (pos 0) (omega arith) c.loop-l.invariant.placed (x_is c.before)

  ranges : every (l + 1) (λ k. held (at lent k)) ≡ true
  ranges = every_more _ l c.loop-l.invariant.in_bounds (sym (c.if-not-in_range.ensures ∙ ap held (x_is c.before)))

  here : (k : ℕ) → k ≤ l → at p k ≡ at lent k
  here k h = ap (λ (y : List ℤ). at y k) placed_next ∙ get_or_listed 20 (l + 1) (at lent) (pos 0) k (pos 0) (omega arith) (omega arith)

  small : (k : ℕ) → k ≤ l → nat_abs (at p k) ≤ 8 * 10 ^ 9
  small k h = rw (here k h) (held_small (at lent k) (every_at (λ k. held (at lent k)) (l + 1) k ranges (omega arith)))

  -- its line
  line : solves_at c.args.b.now c.args.q.now p l ≡ solves_at c.args.b.now c.args.q.now lent l
  line = same_line c.args.b.now c.args.q.now p lent l here

pub returns-then-lent-m : goal.returns-then-lent-m
returns-then-lent-m c = let a = c.args in turned_away a.m a.b.now a.q.now a.lent.now (by_number a.m a.b.now a.q.now a.lent.now (λ e. omega (arith, e, c.if-lent-m.true)))

pub loop-l-init : goal.loop-l-init
loop-l-init c = record { placed = listed_none 20 _ (pos 0); in_bounds = every_none _; solved = every_none _ }

pub returns-then-not-in_range : goal.returns-then-not-in_range
returns-then-not-in_range c =
    let a = c.args in
    turned_away a.m a.b.now a.q.now a.lent.now
    (by_range a.m a.b.now a.q.now a.lent.now c.loop-l.l (omega arith) (sym (c.if-not-in_range.ensures ∙ ap held (x_is c.before))))

pub solves_at-requires : goal.solves_at-requires
solves_at-requires c = next_of c.requires c.loop-l.l (omega arith) 0 _ (omega arith) (λ k h. small c.before k (omega arith))

pub returns-then-not-solves_at : goal.returns-then-not-solves_at
returns-then-not-solves_at c =
    let a = c.args in
    turned_away a.m a.b.now a.q.now a.lent.now
    (by_line a.m a.b.now a.q.now a.lent.now c.loop-l.l (omega arith) (sym (c.if-not-solves_at.ensures ∙ line c.before.before.before)))

pub loop-l-preserved : goal.loop-l-preserved
loop-l-preserved c =
    let e = c.before.before.before in record {
      placed = placed_next e;
      in_bounds = ranges e;
      solved = every_more _ c.loop-l.l c.loop-l.invariant.solved (sym (c.if-not-solves_at.ensures ∙ line e));
    }

pub returns : goal.returns
unfolding checked_of
returns c =
    let i = c.loop-l.invariant in
    let a = c.args in
    let e : c.loop-l.l ≡ a.m = omega arith in
    let ok = let_through a.m a.b.now a.q.now a.lent.now c.if-lent-m.false (rw e at i.in_bounds) (rw e at i.solved) in
    rw ok (ap (λ (p : List ℤ). Some p) (rw e at i.placed))
