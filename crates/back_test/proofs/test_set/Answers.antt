-- `test_set` meets its contract: what the cells of the cut set are made of, their gaps, and then
-- the errors. Assumes nothing.
use Rattle.std.proofs.Common.{◌≡◌, refl, sym, ◌∙◌, ap, subst, List, ℕ, ◌+◌, ◌-◌, ◌≤◌, arith, ℤ, pos}
use Rattle.model.specs.Lists.{listed}
use Rattle.model.specs.Delays.{delays_of}
use Rattle.model.specs.Cells.{rbns, ibnr}
use Rattle.model.specs.Calls.{no_set, refused_back_test}
use Rattle.model.specs.Lent.{lent_set, triangle_in}
use Rattle.model.specs.declared.TriangleSet.{TriangleSet}
use Rattle.ladder.specs.Ladder.{InBounds, difference}
use Rattle.ladder.specs.LadderLaws.{ladder_ready}
use Rattle.chain_ladder.specs.DevelopedLaws.{counts_ready}
use Rattle.refusals.specs.RefusalsLaws.{not_accepted}
use Rattle.delays.specs.Prepared.{Prepared}
use Rattle.delays.specs.PreparedLaws.{prepared_so}
use Rattle.row_bases.specs.Method.{Based}
use Rattle.years.specs.Ready.{Ready}
use Rattle.set_forecast.specs.SetForecast.{InRange, Given, method_refusal, set_refusal}
use Rattle.set_forecast.specs.SetForecastLaws.{by_pair, by_method, solved_range, lent_passed, lent_delays, is_given, years_ready, years_cell}
use Rattle.gaps.specs.Gaps.{SmallGaps, cell_from, gaps}
use Rattle.gaps.specs.GapsLaws.{gaps_small}
use Rattle.back_test.specs.SetTest.{set_test}
use Rattle.back_test.specs.TestLaws.{handed_on, test_no, test_yes, sizes, cut_ok, cut_refusal}
use Rattle.back_test.proofs.test_set.Goals as goal

-- a set in range that is cut to size n
module _ {m : ℕ} {set : List ℤ} {method c : ℕ} (fits : InRange m set method × (1 ≤ c) × (c + 2 ≤ m)) where
  abbrev n : ℕ
  n = m - c

  abbrev s : TriangleSet → TriangleSet
  s like = lent_set like set

  ok : InRange n set method
  ok = cut_ok fits.0 fits.1 fits.2

  size : (n ≤ 20) × (c ≤ 20)
  size = let l = fits.0.counts.small.few in (omega arith, omega arith)

  -- a refusal of the lent set at size n is that of the cut set
  refused : (like : TriangleSet) (basis k : ℕ) → (k ≡ 0 → ⊥) → set_refusal n (s like) method ≡ k → refused_back_test k ≡ set_test m (s like) c method basis
  refused like basis k o e = sym (test_no m (s like) c method basis k o (cut_refusal fits.0 fits.1 fits.2 like ∙ e))

  -- with the questions of the delays passed
  module _ {cl cg dl dg before p : List ℤ} (made : Prepared n set 0 cl cg dl dg before p) where
    given : Given n set method cl cg dl dg p
    given =
        is_given made refl ok (λ z. (prepared_so n (triangle_in 0 set) (triangle_in 1 set) z).0) (solved_range n (triangle_in 0 set) (triangle_in 1 set))

    bounds : InBounds n cg
    bounds = (ladder_ready given.counts (counts_ready given.asked.shared)).bounds

    number : (like : TriangleSet) {k : ℕ} {v left lefts : List ℤ} → Based n (s like) method k v left lefts → set_refusal n (s like) method ≡ k
    unfolding method_refusal
    number like based = by_method n (s like) method (lent_passed made refl) ∙ sym based.refusal

    -- and those of the method too
    module _ {v left lefts b : List ℤ} (based : (like : TriangleSet) → Based n (lent_set like set) method 0 v left lefts) (b_is : b ≡ listed 20 n (difference cg) (pos 0)) where
      ready : Ready n (triangle_in 0 set) b cg cl v p
      ready = years_ready given no_set (based no_set) refl b_is

      small : (basis : ℕ) {d : List ℤ} → d ≡ gaps m n (cell_from n (triangle_in 0 set) basis b cg cl v p) (triangle_in 1 set) → SmallGaps d
      small basis e = subst SmallGaps (sym e) (gaps_small (sizes fits.0 fits.1 fits.2) basis ready)

pub returns-in_err-prepare : goal.returns-in_err-prepare
returns-in_err-prepare c like _ =
    let e = c.in_err-prepare.ensures.refusal in
    let o = not_accepted c.in_err-prepare.field-0.0 in
    handed_on _ _ c.from_residual.ensures.1 ∙ refused c.requires like _ _ o (by_pair _ (lent_set like c.args.set.now) _ (λ z. o (e ∙ z)) ∙ sym e)

pub method_bases-requires-clause-asked : goal.method_bases-requires-clause-asked
method_bases-requires-clause-asked c = (given c.requires c.in_ok-prepare.ensures).asked

pub returns-in_err-method_bases : goal.returns-in_err-method_bases
returns-in_err-method_bases c like _ =
    handed_on _ _ c.from_residual-in_err-method_bases.ensures.1
    ∙ refused c.requires like _ _ (not_accepted c.in_err-method_bases.field-0.0) (number c.requires c.in_ok-prepare.ensures like (c.in_err-method_bases.ensures like))

pub shares-shares-requires : goal.shares-shares-requires
shares-shares-requires c = bounds c.requires c.in_ok-prepare.ensures

pub gaps-requires : goal.gaps-requires
gaps-requires c =
    let fits = c.requires in
    (sizes fits.0 fits.1 fits.2, ready fits c.in_ok-prepare.ensures c.in_ok-method_bases.ensures c.shares-shares.ensures, refl)

pub cellwise-cellwise-requires : goal.cellwise-cellwise-requires
cellwise-cellwise-requires c =
    (small c.requires c.in_ok-prepare.ensures c.in_ok-method_bases.ensures c.shares-shares.ensures _ c.gaps.ensures, (size c.requires).0)

pub yearwise-yearwise-requires : goal.yearwise-yearwise-requires
yearwise-yearwise-requires c =
    (small c.requires c.in_ok-prepare.ensures c.in_ok-method_bases.ensures c.shares-shares.ensures _ c.gaps.ensures, (size c.requires).0, (size c.requires).1)

pub overall-overall-requires : goal.overall-overall-requires
overall-overall-requires c =
    (small c.requires c.in_ok-prepare.ensures c.in_ok-method_bases.ensures c.shares-shares.ensures _ c.gaps.ensures, (size c.requires).0)

pub returns : goal.returns
unfolding delays_of
returns c like line =
    let a = c.args in
    let fits = c.requires in
    let made = c.in_ok-prepare.ensures in
    let based = c.in_ok-method_bases.ensures like in
    test_yes fits.0 fits.1 fits.2 like a.basis _
    (λ i j h l w. years_cell (given fits made) like based refl c.shares-shares.ensures a.basis i j h l w
    ∙ ap (λ (q : List ℤ). record { rbns = rbns (a.m - a.c) (lent_set like a.set.now) q a.method a.basis i j; ibnr = ibnr (a.m - a.c) (lent_set like a.set.now) q a.method i j }) (lent_delays made refl))
    (number fits made like based) line c.gaps.ensures c.cell_number-cells.ensures c.cellwise-cellwise.ensures c.yearwise-yearwise.ensures c.overall-overall.ensures
