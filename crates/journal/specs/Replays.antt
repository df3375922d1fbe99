-- Laws of a replay: where it stands after each transaction, and what it ends with. Assumes nothing.
use Rattle.std.specs.Prelude.{ℕ, ◌+◌, ◌/◌, ◌%◌, ◌<◌, ◌≤◌, ◌≡◌, true, List, [], ◌∷◌}
use Rattle.std.proofs.Math.Numerals.{add-one}
use native.Mathlib.Omega.{arith}
use Rattle.std.proofs.Math.Path.{refl, sym, subst}
use Rattle.std.proofs.Common.{◌∙◌, ap, eq-eqb, ne_eqb}
use Rattle.model.specs.ListsLaws.{tabulate_ext}
use Rattle.model.specs.Records.{triangle, records}
use Rattle.model.specs.Questions.{Question, first_no, q1}
use Rattle.model.specs.QuestionsLaws.{EachYes, numbered, each_yes, no_refusal, stage_no, stage_yes, stages_so}
use Rattle.model.specs.Journal.{transaction_at, of_transaction, no_tally, tally_after, q16_length, of_transactions, is_entry, reports, payments}
use Rattle.model.specs.Calls.{of_step, Stepped, replay_refusal, replay_tally, Replayed}
use Rattle.model.specs.declared.JournalTally.{JournalTally}
use Rattle.journal.specs.Turns.{none_asked, more_asked, refused_at}
use Rattle.journal.specs.ByCell.{counts_are, paid_are, pos_count}

module _ (m : ℕ) (f : List ℕ) where
  -- what the journal is asked before its transactions
  abbrev pub frame : List Question
  frame = (1, q1 m) ∷ (16, q16_length f) ∷ []

  numbered_frame : numbered frame ≡ true
  unfolding numbered
  numbered_frame = refl

  framed_so : first_no frame ≡ 0 → EachYes frame
  framed_so e = each_yes frame numbered_frame e

  framed_no : (first_no frame ≡ 0 → ⊥) → replay_refusal m f ≡ first_no frame
  unfolding replay_refusal
  framed_no o = stage_no frame (of_transactions m f (records f)) numbered_frame o

  framed_yes : EachYes frame → replay_refusal m f ≡ first_no (of_transactions m f (records f))
  unfolding replay_refusal
  framed_yes y = stage_yes frame (of_transactions m f (records f)) numbered_frame (no_refusal frame y)

  -- ---- an accepted journal

  pub all_accepted : replay_refusal m f ≡ 0 → (q1 m ≡ true) × (first_no (of_transactions m f (records f)) ≡ 0)
  unfolding replay_refusal
  all_accepted e = let s = stages_so frame (of_transactions m f (records f)) numbered_frame e in ((framed_so s.0).0, s.1)

  pub counts_after : replay_refusal m f ≡ 0 → (tally_after f (records f)).counts ≡ triangle m (reports f)
  unfolding reports triangle
  counts_after e =
      let a = all_accepted e in
      counts_are m f a.0 (records f) a.1 ∙ tabulate_ext 400 _ _ (λ p l. rw (pos_count (records f) (is_entry f 0 (p / 20 + 1) (p % 20))))

  pub paid_after : replay_refusal m f ≡ 0 → (tally_after f (records f)).paid ≡ triangle m (payments f)
  unfolding payments
  paid_after e = let a = all_accepted e in paid_are m f a.0 (records f) a.1

  accepted_tally : (before : JournalTally) → replay_refusal m f ≡ 0 → replay_tally m f before ≡ tally_after f (records f)
  unfolding replay_tally
  accepted_tally before e = rw (eq-eqb _ 0 e)

  replayed : (before after : JournalTally) (r : ℕ) → r ≡ replay_refusal m f → after ≡ replay_tally m f before → Replayed m f before after r
  replayed before after r e g =
      record {
        result = e;
        tally = g;
        counted = λ z. ap (λ (d : JournalTally). d.counts) (g ∙ accepted_tally before (sym e ∙ z)) ∙ counts_after (sym e ∙ z);
        added = λ z. ap (λ (d : JournalTally). d.paid) (g ∙ accepted_tally before (sym e ∙ z)) ∙ paid_after (sym e ∙ z);
      }

  -- ---- transaction by transaction

  -- the refusal r and the tally d once k transactions have been asked, or once one of them, or the
  -- journal itself, has been refused
  pub record Reached (k r : ℕ) (d : JournalTally) : Type 0 where
    pub going : r ≡ 0 → EachYes frame × (k ≤ records f) × (first_no (of_transactions m f k) ≡ 0) × (d ≡ tally_after f k)
    pub stopped : (r ≡ 0 → ⊥) → r ≡ replay_refusal m f

  pub begins : (r : ℕ) (d : JournalTally) → r ≡ first_no frame → d ≡ no_tally → Reached 0 r d
  unfolding tally_after
  begins r d e g =
      record {
        going = λ z. (framed_so (sym e ∙ z), omega arith, none_asked m f, g);
        stopped = λ w. e ∙ sym (framed_no (λ z. w (e ∙ z)));
      }

  pub turns : (k r : ℕ) (d : JournalTally) → Reached k r d → r ≡ 0 → k < records f → (d' : JournalTally) (r' : ℕ)
      → Stepped (of_step m d (transaction_at f k)) d (transaction_at f k) d' r' → Reached (k + 1) r' d'
  unfolding tally_after first_no
  turns k r d s z l d' r' st =
      let g = s.going z in
      let t = g.2 in
      let new : r' ≡ first_no (of_transaction m (tally_after f k) (transaction_at f k)) =
      subst (λ (u : JournalTally). r' ≡ first_no (of_transaction m u (transaction_at f k))) g.3 (rw g.0.0 at st.result) in
      record {
        going = λ w. (
          g.0,
          omega arith,
          rw add-one (more_asked m f k t ∙ sym new ∙ w),
          rw (add-one, ← g.3) (st.tally ∙ rw (eq-eqb _ 0 (sym st.result ∙ w))),
        );
        stopped = λ w. new ∙ sym (framed_yes g.0 ∙ refused_at m f (records f) k l t (λ q. w (new ∙ q)));
      }

  pub ends_yes : (k : ℕ) (before d : JournalTally) → Reached k 0 d → records f ≤ k → Replayed m f before d 0
  ends_yes k before d s l =
      let g = s.going refl in
      let e : k ≡ records f = omega arith in
      let z : replay_refusal m f ≡ 0 = framed_yes g.0 ∙ rw (sym e) g.2 in
      replayed before d 0 (sym z) (rw e at g.3 ∙ sym (accepted_tally before z))

  pub ends_no : (k r : ℕ) (before d : JournalTally) → Reached k r d → (r ≡ 0 → ⊥) → Replayed m f before before r
  unfolding replay_tally
  ends_no k r before d s w = let e = s.stopped w in replayed before before r e (sym (rw (ne_eqb _ 0 (λ z. w (e ∙ z)))))
