-- `chain_ladder::develop` meets its contract: each test is the answer to a question. Assumes
-- nothing.
use Rattle.std.proofs.Common.{◌≡◌, sym, ◌∙◌, Bool, List, ℕ, suc, ◌-◌, ◌^◌, arith, ℤ, pos, Some, None}
use lib.Signed.{le_z}
use Rattle.model.specs.Lists.{at, every}
use Rattle.model.specs.Questions.{first_no, of_shares, q9, q10}
use Rattle.model.specs.Lent.{triangle_in}
use Rattle.ladder.specs.Sums.{latests, a_sums, b_sums}
use Rattle.chain_ladder.specs.Valid.{Amounts}
use Rattle.chain_ladder.specs.Developed.{Developed}
use Rattle.chain_ladder.specs.DevelopedLaws.{first_9, first_10, first_11_counts, first_11_paid, none_asked, counts_sized, asked_9, asked_10, columns_9, columns_10, asked_11_counts, asked_11_paid}
use Rattle.refusals.specs.RefusalsLaws.{handed_on, none_of, some_of}
use Rattle.chain_ladder.proofs.OneTriangle.{Summed, steps_of, bounded_of, ladder_of}
use Rattle.chain_ladder.proofs.develop.Goals as goal

-- beside a refusal nothing is said of the lists
refused : {m : ℕ} {set cl cg dl dg : List ℤ} {n : ℕ} → first_no (of_shares m (triangle_in 0 set) (triangle_in 1 set)) ≡ suc n → Developed m set (suc n) cl cg dl dg
refused e = record { refusal = sym e; counts = λ z. absurd (omega arith); paid = λ z. absurd (omega arith) }

-- the answer to question 9, from the latest sums of counts
answer_9 : {m : ℕ} {t latest : List ℤ} {yes : Bool} → Amounts m (10 ^ 7) t → latest ≡ latests m t → yes ≡ every m (λ k. le_z (pos 1) (at latest k)) → q9 m t ≡ yes
answer_9 {m} {t} ok e h = sym ((rw e at h) ∙ asked_9 m t ok)

-- and to question 10, from the column sums of paid
answer_10 : {m : ℕ} {t b : List ℤ} {yes : Bool} → Amounts m (10 ^ 10) t → b ≡ b_sums m t → yes ≡ every (m - 1) (λ k. le_z (pos 1) (at b k)) → q10 m t ≡ yes
answer_10 {m} {t} ok e h = sym ((rw e at h) ∙ asked_10 m t ok)

module _ {m : ℕ} {t latest a b : List ℤ} (latest_is : latest ≡ latests m t) (a_is : a ≡ a_sums m t) (b_is : b ≡ b_sums m t) where
  counts_summed : Amounts m (10 ^ 7) t → Summed m t latest a b
  counts_summed ok = record { some = (let l = ok.least in omega arith); small = counts_sized m t ok; latest_is = latest_is; a_is = a_is; b_is = b_is }

  paid_summed : Amounts m (10 ^ 10) t → Summed m t latest a b
  paid_summed ok = record { some = (let l = ok.least in omega arith); small = ok.small; latest_is = latest_is; a_is = a_is; b_is = b_is }

pub returns-then-not-at_least : goal.returns-then-not-at_least
returns-then-not-at_least c = refused (first_9 _ _ _ (answer_9 c.requires.amounts.0 c.sums.ensures.latest_after c.if-not-at_least.ensures))

pub returns-then-not-at_least-2 : goal.returns-then-not-at_least-2
returns-then-not-at_least-2 c =
    let ok = c.requires.amounts in
    refused (first_10 _ _ _ (answer_9 ok.0 c.sums.ensures.latest_after c.if-not-at_least.ensures) (answer_10 ok.1 c.sums-2.ensures.b_after c.if-not-at_least-2.ensures))

pub cumulative_shares-requires : goal.cumulative_shares-requires
cumulative_shares-requires c =
    let ok = c.requires.amounts.0 in
    let s = c.sums.ensures in
    steps_of (counts_summed s.latest_after s.a_after s.b_after ok) (columns_9 _ _ ok (answer_9 ok s.latest_after c.if-not-at_least.ensures))

pub returns-in_err-counts : goal.returns-in_err-counts
returns-in_err-counts c =
    let ok = c.requires.amounts in
    let s = c.sums.ensures in
    let nine = answer_9 ok.0 s.latest_after c.if-not-at_least.ensures in
    let ten = answer_10 ok.1 c.sums-2.ensures.b_after c.if-not-at_least-2.ensures in
    let none = none_of _ _ _ c.in_err-counts.ensures.value in
    let no = bounded_of (counts_summed s.latest_after s.a_after s.b_after ok.0) None (rw none.0 at c.cumulative_shares.ensures) in
    rw (handed_on _ _ c.from_residual.ensures.1, none.1) (refused (first_11_counts _ _ _ nine ten (sym (asked_11_counts _ _ ok.0 nine) ∙ no)))

pub cumulative_shares-requires-2 : goal.cumulative_shares-requires-2
cumulative_shares-requires-2 c =
    let ok = c.requires.amounts.1 in
    let s = c.sums-2.ensures in
    steps_of (paid_summed s.latest_after s.a_after s.b_after ok) (columns_10 _ _ ok (answer_10 ok s.b_after c.if-not-at_least-2.ensures))

pub returns-in_err-paid : goal.returns-in_err-paid
returns-in_err-paid c =
    let ok = c.requires.amounts in
    let s = c.sums.ensures in
    let s2 = c.sums-2.ensures in
    let nine = answer_9 ok.0 s.latest_after c.if-not-at_least.ensures in
    let ten = answer_10 ok.1 s2.b_after c.if-not-at_least-2.ensures in
    let counts = bounded_of (counts_summed s.latest_after s.a_after s.b_after ok.0) (Some _) (rw (some_of _ _ _ c.in_ok-counts.ensures.value) at c.cumulative_shares.ensures) in
    let none = none_of _ _ _ c.in_err-paid.ensures.value in
    let no = bounded_of (paid_summed s2.latest_after s2.a_after s2.b_after ok.1) None (rw none.0 at c.cumulative_shares-2.ensures) in
    rw (handed_on _ _ c.from_residual-in_err-paid.ensures.1, none.1)
    (refused (first_11_paid _ _ _ nine ten (sym (asked_11_counts _ _ ok.0 nine) ∙ counts.0) (sym (asked_11_paid _ _ ok.1 ten) ∙ no)))

pub returns : goal.returns
returns c =
    let ok = c.requires.amounts in
    let s = c.sums.ensures in
    let s2 = c.sums-2.ensures in
    let one = counts_summed s.latest_after s.a_after s.b_after ok.0 in
    let two = paid_summed s2.latest_after s2.a_after s2.b_after ok.1 in
    let nine = answer_9 ok.0 s.latest_after c.if-not-at_least.ensures in
    let ten = answer_10 ok.1 s2.b_after c.if-not-at_least-2.ensures in
    let g = rw (some_of _ _ _ c.in_ok-counts.ensures.value) at c.cumulative_shares.ensures in
    let h = rw (some_of _ _ _ c.in_ok-paid.ensures.value) at c.cumulative_shares-2.ensures in
    record {
      refusal = sym (none_asked _ _ _ (record { rows = nine; columns = ten; counts = sym (asked_11_counts _ _ ok.0 nine) ∙ (bounded_of one (Some _) g).0; paid = sym (asked_11_paid _ _ ok.1 ten) ∙ (bounded_of two (Some _) h).0 }));
      counts = λ _. ladder_of one g;
      paid = λ _. ladder_of two h;
    }
