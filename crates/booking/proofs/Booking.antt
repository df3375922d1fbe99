-- The ways out of a transaction: its refusal number and the tally. Assumes nothing.
use Rattle.std.specs.Prelude.{ℕ, ◌≡◌, refl, Bool, true, false, ◌&&◌, cond, Option, Some, None, leb, ℤ, pos, ◌+ℤ◌, get_or, set}
use Rattle.std.proofs.Common.{sym, ◌∙◌, eq-eqb}
use borrow.Author.Tests.{ne_eqb}
use Rattle.model.specs.Lists.{at}
use Rattle.model.specs.Records.{in_range}
use Rattle.model.specs.Questions.{first_no, q1}
use Rattle.model.specs.Journal.{booked_at, cell_after, q16, q17, q18, of_booking, of_transaction, booked}
use Rattle.model.specs.Calls.{of_step, Stepped}
use Rattle.model.specs.declared.JournalTally.{JournalTally}
use Rattle.model.specs.declared.Transaction.{Transaction}

-- a value there, or none, by a test
some_so : {A : Type 0} {v w : A} (b : Bool) → Some v ≡ cond b (Some w) None → (b ≡ true) × (v ≡ w)
some_so true e = (refl, cc)
some_so false e = absurd (cc)

none_so : {A : Type 0} (w : A) (b : Bool) → None ≡ cond b (Some w) None → b ≡ false
none_so w true e = absurd (cc)
none_so w false e = refl

module _ (t : JournalTally) (x : Transaction) where
  -- 17, 18, or the tally that the transaction leaves
  no_17 : q17 t x ≡ false → Stepped (of_booking t x) t x t 17
  unfolding of_booking first_no
  no_17 e = record { result = rw e; tally = rw e }

  no_18 : q17 t x ≡ true → q18 t x ≡ false → Stepped (of_booking t x) t x t 18
  unfolding of_booking first_no
  no_18 e g = record { result = rw (e, g); tally = rw (e, g) }

  yes : (after : JournalTally) → q17 t x ≡ true → q18 t x ≡ true → after ≡ booked t x → Stepped (of_booking t x) t x after 0
  unfolding of_booking first_no
  yes after e g h = record { result = rw (e, g); tally = rw (e, g) h }

  -- what the code asks and writes of a report, p being the place of its cell
  module _ (q : x.kind ≡ 0) where
    pub report_17 : (get_or t.claims x.claim 0 ≡ 0 → ⊥) → Stepped (of_booking t x) t x t 17
    unfolding q17
    report_17 n = no_17 (rw q (ne_eqb _ 0 n))

    module _ (o : get_or t.claims x.claim 0 ≡ 0) (p : ℕ) (here : p ≡ booked_at x) (r : Option ℤ)
        (so : r ≡ cond (leb t.last x.calendar && in_range x.kind (at t.counts p +ℤ pos 1)) (Some (at t.counts p +ℤ pos 1)) None) where
      owned : q17 t x ≡ true
      unfolding q17
      owned = rw q (eq-eqb _ 0 o)

      asked : r ≡ cond (q18 t x) (Some (cell_after t x)) None
      unfolding q18
      asked = rw (← here, q) (rw q at so)

      pub report_18 : r ≡ None → Stepped (of_booking t x) t x t 18
      report_18 e = no_18 owned (none_so _ _ (sym e ∙ asked))

      pub report : (cell : ℤ) → r ≡ Some cell → Stepped (of_booking t x) t x (record { claims = set t.claims x.claim x.accident; counts = set t.counts p cell; paid = t.paid; last = x.calendar }) 0
      unfolding booked
      report cell e = let s = some_so _ (sym e ∙ asked) in yes _ owned s.0 (rw (here, s.1, q))

  -- and of a payment
  module _ (q : x.kind ≡ 1) where
    pub payment_17 : (get_or t.claims x.claim 0 ≡ x.accident → ⊥) → Stepped (of_booking t x) t x t 17
    unfolding q17
    payment_17 n = no_17 (rw q (ne_eqb _ x.accident n))

    module _ (o : get_or t.claims x.claim 0 ≡ x.accident) (p : ℕ) (here : p ≡ booked_at x) (r : Option ℤ)
        (so : r ≡ cond (leb t.last x.calendar && in_range x.kind (at t.paid p +ℤ x.amount)) (Some (at t.paid p +ℤ x.amount)) None) where
      owned_paid : q17 t x ≡ true
      unfolding q17
      owned_paid = rw q (eq-eqb _ x.accident o)

      asked_paid : r ≡ cond (q18 t x) (Some (cell_after t x)) None
      unfolding q18
      asked_paid = rw (← here, q) (rw q at so)

      pub payment_18 : r ≡ None → Stepped (of_booking t x) t x t 18
      payment_18 e = no_18 owned_paid (none_so _ _ (sym e ∙ asked_paid))

      pub payment : (cell : ℤ) → r ≡ Some cell → Stepped (of_booking t x) t x (record { claims = t.claims; counts = t.counts; paid = set t.paid p cell; last = x.calendar }) 0
      unfolding booked
      payment cell e = let s = some_so _ (sym e ∙ asked_paid) in yes _ owned_paid s.0 (rw (here, s.1, q))

  -- ---- questions 1 and 16
  module _ (m : ℕ) where
    pub no_1 : q1 m ≡ false → Stepped (of_step m t x) t x t 1
    unfolding first_no
    no_1 e = record { result = rw e; tally = rw e }

    pub no_16 : q1 m ≡ true → q16 m x ≡ false → Stepped (of_step m t x) t x t 16
    unfolding of_transaction first_no
    no_16 e g = record { result = rw (e, g); tally = rw (e, g) }

    pub further : (after : JournalTally) (r : ℕ) → q1 m ≡ true → q16 m x ≡ true → Stepped (of_booking t x) t x after r → Stepped (of_step m t x) t x after r
    unfolding of_transaction first_no
    further after r e g s = record { result = rw (e, g) s.result; tally = rw (e, g) s.tally }
