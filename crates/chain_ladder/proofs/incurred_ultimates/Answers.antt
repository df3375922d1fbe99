-- `chain_ladder::incurred_ultimates` meets its contract: the four tests are question 13. Assumes
-- nothing.
use Rattle.std.proofs.Common.{◌≡◌, refl, sym, ◌∙◌, Bool, ◌&&◌, List, ℕ, ◌-◌, ℤ, pos, Some, None}
use lib.Signed.{le_z}
use Rattle.model.specs.Lists.{at, every}
use Rattle.model.specs.Shares.{g}
use Rattle.model.specs.Questions.{q13}
use Rattle.model.specs.Lent.{triangle_in}
use Rattle.ladder.specs.Ladder.{bounded}
use Rattle.ladder.specs.LadderLaws.{asked-A, asked-B, asked_signs, columns_above, ladder_ultimates}
use Rattle.chain_ladder.specs.DevelopedLaws.{A-above, B-above, latest_least, q13_is}
use Rattle.chain_ladder.proofs.OneTriangle.{Summed, steps_of, bounded_of, ladder_of, ready_of}
use Rattle.chain_ladder.proofs.incurred_ultimates.Goals as goal

-- ---- the tests' answers
module _ {m : ℕ} {t latest a b : List ℤ} (made : Summed m t latest a b) {yes : Bool} where
  a_is : yes ≡ every (m - 1) (λ k. le_z (pos 1) (at a k)) → A-above m t ≡ yes
  a_is h = sym ((rw made.a_is at h) ∙ asked-A m t made.small.few)

  b_is : yes ≡ every (m - 1) (λ k. le_z (pos 1) (at b k)) → B-above m t ≡ yes
  b_is h = sym ((rw made.b_is at h) ∙ asked-B m t made.small.few)

  latest_is : yes ≡ every m (λ k. le_z (pos 0) (at latest k)) → latest_least m t ≡ yes
  latest_is h = sym ((rw made.latest_is at h) ∙ asked_signs m t made.small.few)

-- question 13 by them
answer : (m : ℕ) (t : List ℤ) {a b l y : Bool} → A-above m t ≡ a → B-above m t ≡ b → latest_least m t ≡ l → every m (λ j. bounded (g m t j)) ≡ y
    → q13 m t ≡ ((a && b) && l && y)
answer m t p q r s = q13_is m t ∙ rw (p, q, r, s)

pub returns-then-not-at_least : goal.returns-then-not-at_least
returns-then-not-at_least c =
    let s = c.sums.ensures in
    let made : Summed c.args.m (triangle_in 2 c.args.set.now) c.sums.new.latest c.sums.new.a c.sums.new.b =
    record { some = c.requires.0; small = c.requires.1; latest_is = s.latest_after; a_is = s.a_after; b_is = s.b_after } in
    answer _ _ (a_is made c.if-not-at_least.ensures) refl refl refl

pub returns-then-not-at_least-2 : goal.returns-then-not-at_least-2
returns-then-not-at_least-2 c =
    let s = c.sums.ensures in
    let made : Summed c.args.m (triangle_in 2 c.args.set.now) c.sums.new.latest c.sums.new.a c.sums.new.b =
    record { some = c.requires.0; small = c.requires.1; latest_is = s.latest_after; a_is = s.a_after; b_is = s.b_after } in
    answer _ _ (a_is made c.if-not-at_least.ensures) (b_is made c.if-not-at_least-2.ensures) refl refl

pub returns-then-not-at_least-3 : goal.returns-then-not-at_least-3
returns-then-not-at_least-3 c =
    let s = c.sums.ensures in
    let made : Summed c.args.m (triangle_in 2 c.args.set.now) c.sums.new.latest c.sums.new.a c.sums.new.b =
    record { some = c.requires.0; small = c.requires.1; latest_is = s.latest_after; a_is = s.a_after; b_is = s.b_after } in
    answer _ _ (a_is made c.if-not-at_least.ensures) (b_is made c.if-not-at_least-2.ensures) (latest_is made c.if-not-at_least-3.ensures) refl

pub cumulative_shares-requires : goal.cumulative_shares-requires
cumulative_shares-requires c =
    let s = c.sums.ensures in
    let made : Summed c.args.m (triangle_in 2 c.args.set.now) c.sums.new.latest c.sums.new.a c.sums.new.b =
    record { some = c.requires.0; small = c.requires.1; latest_is = s.latest_after; a_is = s.a_after; b_is = s.b_after } in
    steps_of made (columns_above _ _ (b_is made c.if-not-at_least-2.ensures))

pub returns-in_err-g : goal.returns-in_err-g
returns-in_err-g c =
    let s = c.sums.ensures in
    let made : Summed c.args.m (triangle_in 2 c.args.set.now) c.sums.new.latest c.sums.new.a c.sums.new.b =
    record { some = c.requires.0; small = c.requires.1; latest_is = s.latest_after; a_is = s.a_after; b_is = s.b_after } in
    rw c.from_residual.ensures (answer _ _ (a_is made c.if-not-at_least.ensures) (b_is made c.if-not-at_least-2.ensures) (latest_is made c.if-not-at_least-3.ensures) (bounded_of made None c.in_err-g.ensures))

pub ultimates-requires : goal.ultimates-requires
ultimates-requires c =
    let s = c.sums.ensures in
    let made : Summed c.args.m (triangle_in 2 c.args.set.now) c.sums.new.latest c.sums.new.a c.sums.new.b =
    record { some = c.requires.0; small = c.requires.1; latest_is = s.latest_after; a_is = s.a_after; b_is = s.b_after } in
    ready_of made c.in_ok-g.ensures

pub returns : goal.returns
returns c =
    let s = c.sums.ensures in
    let made : Summed c.args.m (triangle_in 2 c.args.set.now) c.sums.new.latest c.sums.new.a c.sums.new.b =
    record { some = c.requires.0; small = c.requires.1; latest_is = s.latest_after; a_is = s.a_after; b_is = s.b_after } in
    (answer _ _ (a_is made c.if-not-at_least.ensures) (b_is made c.if-not-at_least-2.ensures) (latest_is made c.if-not-at_least-3.ensures) (bounded_of made (Some c.in_ok-g.g) c.in_ok-g.ensures).0, c.ultimates.ensures ∙ ladder_ultimates (ladder_of made c.in_ok-g.ensures) made.small.few)
