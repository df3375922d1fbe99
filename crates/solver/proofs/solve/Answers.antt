-- `solve` meets its contract: the delays so far are solved, and are in their bounds. Assumes
-- nothing.
use Rattle.std.proofs.Common.{◌≡◌, refl, sym, ◌∙◌, ap, ap₂, false, List, ℕ, ◌+◌, ◌*◌, ◌^◌, ◌≤◌, ◌<◌, add-one, arith, ℤ, nat_abs, set, w64, to_z, of_z, to_z-of_z, Some, None}
use Rattle.model.specs.Lists.{at}
use Rattle.model.specs.ListsLaws.{every_none, every_more, every_at, every_no}
use Rattle.model.specs.Delays.{delay_after, delays_to, delays}
use Rattle.model.specs.Questions.{q12}
use Rattle.solver.specs.DelaysLaws.{delay_kept, delay_from}
use Rattle.solver.specs.Solved.{held, solved_of}
use Rattle.solver.specs.SolvedLaws.{held_small, next_of}
use Rattle.solver.proofs.solve.Goals as goal
use Rattle.solver.proofs.solve.Goals.{After-delay-x, After-in_range}

-- the delay that is solved
module _ (c : After-delay-x) where
  abbrev m : ℕ
  m = c.args.m

  abbrev b : List ℤ
  b = c.args.b.now

  abbrev q : List ℤ
  q = c.args.q.now

  abbrev l : ℕ
  l = c.loop-l.l

  x_is : to_z w64 (of_z w64 c.delay-x.result) ≡ at (delays m b q) l
  x_is =
      to_z-of_z {w = w64} (record { sfits = c.delay-x.type_inv }) ∙ c.delay-x.ensures ∙ ap (λ (p : List ℤ). delay_after b q p l) c.loop-l.invariant.solved
      ∙ sym (delay_from b q m l c.requires.few c.loop-l-test.true)

  -- a delay outside its bounds
  refused : held (at (delays m b q) l) ≡ false → None ≡ solved_of m b q
  unfolding solved_of q12
  refused e = rw (every_no (λ k. held (at (delays m b q) k)) m l c.loop-l-test.true e)

pub loop-l-init : goal.loop-l-init
unfolding delays_to
loop-l-init c = record { solved = refl; in_bounds = every_none _ }

pub returns-then-not-in_range : goal.returns-then-not-in_range
returns-then-not-in_range c = refused c.before.before (sym (c.if-not-in_range.ensures ∙ ap held (x_is c.before.before)))

pub loop-l-preserved : goal.loop-l-preserved
unfolding delays_to
loop-l-preserved c =
    let a = c.args in
    record {
      solved = more a.b.now a.q.now c.loop-l.l c.loop-l.invariant.solved (x_is c.before.before ∙ delay_from a.b.now a.q.now a.m c.loop-l.l c.requires.few c.loop-l-test.true);
      in_bounds = every_more _ c.loop-l.l c.loop-l.invariant.in_bounds (sym (c.if-not-in_range.ensures ∙ ap held (x_is c.before.before)));
    }
  where
    more : (b q : List ℤ) (l : ℕ) {p : List ℤ} {v : ℤ} → p ≡ delays_to b q l → v ≡ delay_after b q (delays_to b q l) l → set p l v ≡ delays_to b q (l + 1)
    more b q l e f = rw add-one (ap₂ (λ (p : List ℤ) (v : ℤ). set p l v) e f)

pub returns : goal.returns
unfolding solved_of q12 delays
returns c =
    let e : c.loop-l.l ≡ c.args.m = omega arith in
    rw (rw e at c.loop-l.invariant.in_bounds) (ap (λ (p : List ℤ). Some p) (rw e at c.loop-l.invariant.solved))

pub delay-x-requires : goal.delay-x-requires
unfolding delays
delay-x-requires c =
    let a = c.args in
    let l = c.loop-l.l in
    let D = delays a.m a.b.now a.q.now in
    let past : (k : ℕ) → k < l → nat_abs (at c.loop-l.p k) ≤ 8 * 10 ^ 9 =
    λ k h. rw (ap (λ (x : List ℤ). at x k) c.loop-l.invariant.solved ∙ sym (delay_kept a.b.now a.q.now a.m l k (omega arith) h)) (held_small (at D k) (every_at (λ k. held (at D k)) l k c.loop-l.invariant.in_bounds h)) in
    next_of c.requires l c.loop-l-test.true 1 _ (omega arith) (λ k h. past k (omega arith))
