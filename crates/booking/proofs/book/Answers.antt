-- `book` meets its contract, by the laws of `Booking`. Assumes nothing.
use Rattle.std.proofs.Common.{◌∙◌, sym, rules, FitsSigned, w64}
use Rattle.std.proofs.Math.Facts.{to_z-of_z}
use Rattle.model.specs.Lists.{at}
use Rattle.booking.specs.Fields.{one_of}
use Rattle.booking.proofs.Booking.{report_17, report_18, report, payment_17, payment_18, payment}
use Rattle.booking.proofs.book.Goals as goal
use Rattle.booking.proofs.book.Goals.{then-x-eq0+else-owner-ne0+in-Some, else-x-eq0+else-owner-x+in-Some-added}

pub returns-then-owner-ne0 : goal.returns-then-owner-ne0
returns-then-owner-ne0 c = report_17 _ _ c.if-x-eq0.true (λ e. c.if-owner-ne0.true (c.from-owner.ensures ∙ e))

pub returns-in_default : goal.returns-in_default
returns-in_default c =
    let cell : FitsSigned w64 (at c.args.t.now.counts c.place-place.result) = search rules in
    report_18 _ _ c.if-x-eq0.true (sym c.from-owner.ensures ∙ c.if-owner-ne0.false) _ c.place-place.ensures.value _ (rw (to_z-of_z cell) at c.added.ensures) c.in_default.is

pub returns-then-owner-x : goal.returns-then-owner-x
returns-then-owner-x c = payment_17 _ _ (one_of _ c.requires.kind_is c.if-x-eq0.false) (λ e. c.if-owner-x.true (c.from-owner.ensures ∙ e))

pub returns-in_default-added : goal.returns-in_default-added
returns-in_default-added c =
    let cell : FitsSigned w64 (at c.args.t.now.paid c.place-place.result) = search rules in
    let amount : FitsSigned w64 c.args.x.amount = search rules in
    payment_18 _ _ (one_of _ c.requires.kind_is c.if-x-eq0.false) (sym c.from-owner.ensures ∙ c.if-owner-x.false) _ c.place-place.ensures.value _
    (rw (to_z-of_z cell, to_z-of_z amount) at c.added-else-x-eq0.ensures) c.in_default-added.is

pub returns : goal.returns
returns c =
    let amount : FitsSigned w64 c.args.x.amount = search rules in
    elim c.if-x-eq0.branch [
      | then-x-eq0+else-owner-ne0+in-Some w ↦
          let counted : FitsSigned w64 (at c.args.t.now.counts c.place-place.result) = search rules in
          let cell : FitsSigned w64 w.in-Some.cell = search rules in
          rw (w.t-is, to_z-of_z cell)
          (report _ _ w.if-x-eq0.true (sym c.from-owner.ensures ∙ w.if-owner-ne0.false) _ c.place-place.ensures.value _ (rw (to_z-of_z counted) at w.added.ensures) _ w.in-Some.is)
      | else-x-eq0+else-owner-x+in-Some-added w ↦
          let paid : FitsSigned w64 (at c.args.t.now.paid c.place-place.result) = search rules in
          let cell : FitsSigned w64 w.in-Some-added.cell = search rules in
          rw (w.t-is, to_z-of_z cell)
          (payment _ _ (one_of _ c.requires.kind_is w.if-x-eq0.false) (sym c.from-owner.ensures ∙ w.if-owner-x.false) _ c.place-place.ensures.value _
          (rw (to_z-of_z paid, to_z-of_z amount) at w.added-else-x-eq0.ensures) _ w.in-Some-added.is)
    ]
