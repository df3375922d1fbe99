-- Laws of Prepared: the answer by its stages, and the calls `delays` and `check_delays` by it.
-- Assumes nothing.
use Rattle.std.specs.Prelude.{◌≡◌, Bool, cond, Option, Some, None, ℕ, ◌≤◌, eqb, ℤ}
use Rattle.std.proofs.Math.Path.{refl, sym}
use Rattle.std.proofs.Common.{◌∙◌, arith}
use Rattle.std.proofs.Math.Bool.{true, false}
use mathlib.Core.List.{List, [], ◌++◌}
use Rattle.std.specs.Option.{option_map_or}
use Rattle.integers.specs.Sums.{sum_cong}
use borrow.Author.Tests.{eqb-true}
use Rattle.model.specs.Records.{line_of, set_of}
use Rattle.model.specs.Shares as Shares
use Rattle.model.specs.Shares.{b_list}
use Rattle.model.specs.Delays.{delays_of}
use Rattle.model.specs.Questions.{q12, q20, first_no, of_shares, of_delays, of_given_delays}
use Rattle.model.specs.QuestionsLaws.{numbered, no_refusal, each_yes, stage_no, stage_yes, stages_so}
use Rattle.model.specs.Calls.{if_accepted, zeros, call_refusal, read_refusal, delays_refusal, accepted_delays, refused_delays, delays_answer, check_delays_refusal, check_delays_answer}
use Rattle.model.specs.CallsLaws.{by_file, by_set, number_of, beside, as_answered, if_refused}
use Rattle.model.specs.Tests.{by_test}
use Rattle.model.specs.declared.DelaysAnswer.{DelaysAnswer}
use Rattle.ladder.specs.SharesLaws.{at_b_list, shares_sum, share_range}
use Rattle.chain_ladder.specs.DevelopedLaws.{Shared, shares_numbered, counts_least, counts_sound, paid_sound}
use Rattle.solver.specs.Solved.{Solvable, solved_of, checked_of}
use Rattle.delays.specs.Prepared.{pair_delays, prepared_refusal, asks_delays, delays_from, refusal_from, ReadDelays}

-- the shares of counts and paid that pass questions 9 to 11
pub solvable : {m : ℕ} {c d b q : List ℤ} → Shared m c d → b ≡ b_list m c → q ≡ b_list m d → Solvable m b q
unfolding Shares.b
solvable {m} {c} {d} h e f =
    let few = h.counts.small.few in
    let some : 1 ≤ m = (let l = h.counts.least in omega arith) in
    rw (e, f) (record {
      few = few;
      first = rw (at_b_list m c few 0 some) (counts_least h);
      shares = λ k l. rw (at_b_list m c few k l) (share_range m c (counts_sound h) k l).0;
      whole = sum_cong m (at_b_list m c few) ∙ shares_sum m c some;
      targets = λ l k. rw (at_b_list m d few l k) (share_range m d (paid_sound h) l k);
    })

-- what stands in an Option by a test
by_yes : (t : Bool) {p q : List ℤ} → Some p ≡ cond t (Some q) None → p ≡ q
by_yes true e = cc
by_yes false e = cc

module _ (m : ℕ) (c d : List ℤ) where
  -- what either side hands back
  abbrev pub found : Option (List ℤ) → Option (List ℤ)
  found given = option_map_or (checked_of m (b_list m c) (b_list m d)) given (solved_of m (b_list m c) (b_list m d))

  -- whether there are some is the answer to the question that it is asked
  found_asked : (given : Option (List ℤ)) → first_no (asks_delays m c d given) ≡ option_map_or (λ p. 0) (found given) (option_map_or (λ lent. 20) given 12)
  unfolding asks_delays of_given_delays of_delays first_no checked_of solved_of
  found_asked (Some lent) = by_test (q20 m (b_list m c) (b_list m d) lent) (λ e. rw e) (λ e. rw e)
  found_asked None = by_test (q12 m (pair_delays m c d)) (λ e. rw e) (λ e. rw e)

  -- with a yes it is the delays
  pub found_delays : (given : Option (List ℤ)) {p : List ℤ} → Some p ≡ found given → p ≡ delays_from m c d given
  unfolding delays_from checked_of solved_of
  found_delays (Some lent) e = by_yes (q20 m (b_list m c) (b_list m d) lent) e
  found_delays None e = by_yes (q12 m (pair_delays m c d)) e

  module _ (given : Option (List ℤ)) where
    -- ---- the refusal, stage by stage
    pub by_shares : (first_no (of_shares m c d) ≡ 0 → ⊥) → refusal_from m c d given ≡ first_no (of_shares m c d)
    unfolding refusal_from
    by_shares = stage_no (of_shares m c d) (asks_delays m c d given) (shares_numbered m c d)

    module _ (asked : first_no (of_shares m c d) ≡ 0) where
      after_shares : refusal_from m c d given ≡ option_map_or (λ p. 0) (found given) (option_map_or (λ lent. 20) given 12)
      unfolding refusal_from
      after_shares = stage_yes (of_shares m c d) (asks_delays m c d given) (shares_numbered m c d) asked ∙ found_asked given

      pub by_delays : None ≡ found given → refusal_from m c d given ≡ option_map_or (λ lent. 20) given 12
      by_delays e = after_shares ∙ rw (← e)

      pub none_refused : {p : List ℤ} → Some p ≡ found given → refusal_from m c d given ≡ 0
      none_refused e = after_shares ∙ rw (← e)

  -- the answers of an accepted pair
  pub shares_so : (given : Option (List ℤ)) → refusal_from m c d given ≡ 0 → first_no (of_shares m c d) ≡ 0
  unfolding refusal_from
  shares_so given z = (stages_so (of_shares m c d) (asks_delays m c d given) (shares_numbered m c d) z).0

  pub given_so : (lent : List ℤ) → refusal_from m c d (Some lent) ≡ 0 → q20 m (b_list m c) (b_list m d) lent ≡ true
  unfolding refusal_from asks_delays of_given_delays numbered
  given_so lent z = (each_yes (of_given_delays m c d lent) refl (stages_so (of_shares m c d) (of_given_delays m c d lent) (shares_numbered m c d) z).1).0

  pub prepared_so : prepared_refusal m c d ≡ 0 → (first_no (of_shares m c d) ≡ 0) × (q12 m (pair_delays m c d) ≡ true)
  unfolding prepared_refusal of_delays numbered
  prepared_so z =
      let a = stages_so (of_shares m c d) (of_delays m (pair_delays m c d)) (shares_numbered m c d) z in
      (a.0, (each_yes (of_delays m (pair_delays m c d)) refl a.1).0)

-- ---- the calls
module _ (m : ℕ) (f : List ℕ) where
  abbrev counts : List ℤ
  counts = (set_of m f).counts

  abbrev paid : List ℤ
  paid = (set_of m f).paid

  module _ (given : Option (List ℤ)) where
    -- a file that the reader refuses
    pub unread : {n : ℕ} (p : List ℤ) → n ≡ read_refusal m f → (n ≡ 0 → ⊥) → ReadDelays m f given n p p
    unread p e o = record {
      refusal = e ∙ sym (by_file m f [] (of_shares m counts paid ++ asks_delays m counts paid given) (λ z. o (e ∙ z)));
      delays_are = sym (if_refused _ _ _ o);
    }

    -- one that it reads
    pub from_pair : read_refusal m f ≡ 0 → call_refusal m f [] (of_shares m counts paid ++ asks_delays m counts paid given) ≡ refusal_from m counts paid given
    unfolding refusal_from numbered
    from_pair read = by_set m f [] (of_shares m counts paid ++ asks_delays m counts paid given) refl read (no_refusal [] tt)

  pub delays_refusal_lem : (delays_answer m f).refusal ≡ delays_refusal m f
  unfolding delays_answer
  delays_refusal_lem = number_of _ _ _ (λ (x : DelaysAnswer). x.refusal) refl refl

  -- what is written over a list, or over a line, is the answer's, beside a refusal what stood there
  delays_beside : {n : ℕ} (before : List ℤ) → n ≡ delays_refusal m f → if_accepted n (delays_of m (set_of m f)) before ≡ if_accepted n (delays_answer m f).p before
  unfolding delays_answer
  delays_beside before e = rw e (beside (delays_refusal m f) (accepted_delays (set_of m f).line (delays_of m (set_of m f))) _ (λ (a : DelaysAnswer). a.p) before)

  pub delays_line : {n : ℕ} → n ≡ (delays_answer m f).refusal → (x : ℕ) → if_accepted n (line_of f) x ≡ if_accepted n (delays_answer m f).line x
  unfolding delays_answer set_of
  delays_line e x = rw (e ∙ delays_refusal_lem) (beside (delays_refusal m f) (accepted_delays (set_of m f).line (delays_of m (set_of m f))) _ (λ (a : DelaysAnswer). a.line) x)

  pub as_solved : {n : ℕ} {before p : List ℤ} → ReadDelays m f None n before p → (n ≡ (delays_answer m f).refusal) × (p ≡ if_accepted n (delays_answer m f).p before)
  unfolding delays_refusal delays_of asks_delays delays_from
  as_solved {before = before} made =
      (made.refusal ∙ sym delays_refusal_lem, made.delays_are ∙ delays_beside before made.refusal)

  pub as_checked : {n line : ℕ} {lent before p : List ℤ} → ReadDelays m f (Some lent) n before p → line ≡ if_accepted n (line_of f) 0 → record { refusal = n; line = line } ≡ check_delays_answer m f lent
  unfolding check_delays_answer check_delays_refusal asks_delays set_of
  as_checked {n} {lent = lent} made l = rw (l, made.refusal) (by_test (eqb (check_delays_refusal m f lent) 0) (λ t. rw (t, eqb-true (check_delays_refusal m f lent) 0 t)) (λ t. rw t))

  -- over zeros, it is the answer
  as_made : {A : Type 0} {n : ℕ} → n ≡ (delays_answer m f).refusal → (part : DelaysAnswer → A) {x : A} → part (refused_delays (delays_refusal m f)) ≡ x
      → if_accepted n (part (delays_answer m f)) x ≡ part (delays_answer m f)
  unfolding delays_answer
  as_made e part {x} z = rw (e ∙ delays_refusal_lem) (as_answered (delays_refusal m f) _ _ part x z)

  pub delays_whole : {n line : ℕ} {p : List ℤ} → n ≡ (delays_answer m f).refusal → line ≡ if_accepted n (line_of f) 0 → p ≡ if_accepted n (delays_answer m f).p (zeros 20)
      → record { refusal = n; line = line; p = p } ≡ delays_answer m f
  delays_whole e l q = rw (l ∙ delays_line e 0 ∙ as_made e (λ x. x.line) refl, q ∙ as_made e (λ x. x.p) refl, e)
