-- `delays::prepare_from` meets its contract: the questions of the shares, and then that of the
-- delays. Assumes nothing.
use Rattle.std.proofs.Common.{◌≡◌, refl, sym, ◌∙◌, ap, ap₂, Option, Result, List, ℕ, ◌^◌, ℤ, pos}
use Rattle.std.specs.Option.{option_map_or}
use Rattle.model.specs.Lists.{listed}
use Rattle.model.specs.Shares.{b_list}
use Rattle.model.specs.CallsLaws.{if_refused}
use Rattle.model.specs.Lent.{triangle_in}
use Rattle.refusals.specs.Refusals.{number, refusal_number}
use Rattle.refusals.specs.RefusalsLaws.{not_accepted, handed_on, none_of, some_of}
use Rattle.refusals.specs.declared.Refusal.{Refusal}
use Rattle.ladder.specs.Ladder.{difference}
use Rattle.ladder.specs.LadderLaws.{ladder_ready, ladder_shares}
use Rattle.chain_ladder.specs.Valid.{Amounts}
use Rattle.chain_ladder.specs.Developed.{Developed}
use Rattle.chain_ladder.specs.DevelopedLaws.{Shared, counts_ready, paid_ready}
use Rattle.solver.specs.Solved.{solved_of, checked_of}
use Rattle.delays.specs.Prepared.{PreparedFrom, refusal_from}
use Rattle.delays.specs.PreparedLaws.{found, solvable, by_shares, by_delays, none_refused, found_delays}
use Rattle.delays.proofs.prepare_from.Goals as goal

-- beside a refusal nothing is said but that the delays are as they were
refused : {A : Type 0} (r : Result A Refusal) (e : Refusal) {m : ℕ} {set cl cg dl dg p : List ℤ} (given : Option (List ℤ))
    → refusal_number r ≡ number e → number e ≡ refusal_from m (triangle_in 0 set) (triangle_in 1 set) given → PreparedFrom m set given (refusal_number r) cl cg dl dg p p
refused r e given h is = rw h (record {
  refusal = is;
  counts = λ z. absurd (not_accepted e z);
  paid = λ z. absurd (not_accepted e z);
  delays_are = sym (if_refused _ _ _ (not_accepted e));
})

-- the shares are accepted
module _ {m : ℕ} {set cl cg dl dg : List ℤ} (ok : Amounts m (10 ^ 7) (triangle_in 0 set) × Amounts m (10 ^ 10) (triangle_in 1 set)) (d : Developed m set 0 cl cg dl dg) where
  abbrev c : List ℤ
  c = triangle_in 0 set

  abbrev e : List ℤ
  e = triangle_in 1 set

  shared : Shared m c e
  shared = record { counts = ok.0; paid = ok.1; asked = sym d.refusal }

  -- b and q are those of the chain ladders
  module _ {b q : List ℤ} (b_is : b ≡ listed 20 m (difference cg) (pos 0)) (q_is : q ≡ listed 20 m (difference dg) (pos 0)) where
    b_same : b ≡ b_list m c
    b_same = b_is ∙ ladder_shares (d.counts refl) shared.counts.small.few

    q_same : q ≡ b_list m e
    q_same = q_is ∙ ladder_shares (d.paid refl) shared.counts.small.few

    -- and what is found are their delays
    found_is : (given : Option (List ℤ)) {o : Option (List ℤ)} → o ≡ option_map_or (checked_of m b q) given (solved_of m b q) → o ≡ found m c e given
    found_is given h = h ∙ ap₂ (λ (x y : List ℤ). option_map_or (checked_of m x y) given (solved_of m x y)) b_same q_same

pub returns-in_err-develop : goal.returns-in_err-develop
returns-in_err-develop c =
    let d = c.in_err-develop.ensures.refusal in
    refused _ _ _ (handed_on _ _ c.from_residual.ensures.1) (d ∙ sym (by_shares _ _ _ _ (λ z. not_accepted _ (d ∙ z))))

pub shares-b-requires : goal.shares-b-requires
shares-b-requires c =
    let d = c.in_ok-develop.ensures in
    (ladder_ready (d.counts refl) (counts_ready (shared c.requires.amounts d))).bounds

pub shares-q-requires : goal.shares-q-requires
shares-q-requires c =
    let d = c.in_ok-develop.ensures in
    (ladder_ready (d.paid refl) (paid_ready (shared c.requires.amounts d))).bounds

pub from_either-requires : goal.from_either-requires
from_either-requires c =
    let ok = c.requires.amounts in
    let d = c.in_ok-develop.ensures in
    let b = c.shares-b.ensures in
    let q = c.shares-q.ensures in
    solvable (shared ok d) (b_same ok d b q) (q_same ok d b q)

pub returns-in_err-p : goal.returns-in_err-p
returns-in_err-p c =
    let ok = c.requires.amounts in
    let d = c.in_ok-develop.ensures in
    let none = none_of _ _ _ c.in_err-p.ensures.value in
    let no = found_is ok d c.shares-b.ensures c.shares-q.ensures _ (rw none.0 at c.from_either.ensures) in
    refused _ _ _ (handed_on _ _ c.from_residual-in_err-p.ensures.1) (ap number none.1 ∙ c.question.ensures ∙ sym (by_delays _ _ _ _ (shared ok d).asked no))

pub returns : goal.returns
returns c =
    let ok = c.requires.amounts in
    let d = c.in_ok-develop.ensures in
    let yes = found_is ok d c.shares-b.ensures c.shares-q.ensures _ (rw (some_of _ _ _ c.in_ok-p.ensures.value) at c.from_either.ensures) in
    record {
      refusal = sym (none_refused _ _ _ _ (shared ok d).asked yes);
      counts = λ _. d.counts refl;
      paid = λ _. d.paid refl;
      delays_are = found_delays _ _ _ _ yes;
    }
