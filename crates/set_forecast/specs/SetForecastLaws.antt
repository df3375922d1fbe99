-- Laws of the forecast of a set: what is prepared gives the row bases and the cells what they ask,
-- and these give the answer. Assumes nothing.
use Rattle.std.specs.Prelude.{◌≡◌, Option, Some, None, ◌&&◌, ltb, eqb, ℤ, pos, nat_abs, length}
use Rattle.std.proofs.Math.Path.{refl, sym}
use Rattle.std.proofs.Common.{◌∙◌, ap, ltb-true, ltb-false}
use Rattle.std.proofs.Math.Bool.{true}
use mathlib.Core.List.{List, ◌++◌}
use Prim.Native.Nat.{ℕ, suc, ◌-◌, ◌*◌, ◌^◌, ◌≤◌, ◌<◌}
use native.Mathlib.Omega.{arith}
use Rattle.model.specs.Lists.{at, listed, every}
use Rattle.model.specs.ListsLaws.{get_or_listed, get_or_listed_past, every_at, and_left, and_right}
use Rattle.model.specs.Overlay.{overlay}
use Rattle.model.specs.Shares.{g_list, b_list}
use Rattle.model.specs.Delays.{delays, delays_of, solves_at}
use Rattle.model.specs.RowBases.{row_base}
use Rattle.model.specs.Cells.{s_list, rbns, ibnr, output_from}
use Rattle.model.proofs.SameDelays.{same_output}
use Rattle.model.specs.PaidReserve.{NearReserves}
use Rattle.paid_reserve.specs.Demand3.{own_solve}
use Rattle.paid_reserve.proofs.Demand3.{demand_3}
use Rattle.model.specs.Questions.{Question, q6, q12, q20, first_no, of_shares, of_delays, of_given_delays, of_method, of_forecast}
use Rattle.model.specs.QuestionsLaws.{numbered, stage_no, stage_yes, stages_so}
use Rattle.model.specs.Tests.{by_test}
use Rattle.model.specs.declared.TriangleSet.{TriangleSet}
use Rattle.chain_ladder.specs.DevelopedLaws.{Shared, shared_set, counts_rows, counts_sound}
use Rattle.ladder.specs.Sums.{latests}
use Rattle.ladder.specs.SumsLaws as SumsLaws
use Rattle.ladder.specs.Ladder.{difference}
use Rattle.ladder.specs.LadderLaws.{ladder_shares}
use Rattle.model.specs.Lent.{lent_set, triangle_in}
use Rattle.model.specs.CallsLaws.{if_accepted_lem}
use Rattle.chain_ladder.specs.Valid.{Valid, counts_of, paid_of, incurred_small}
use Rattle.solver.specs.DelaysLaws.{Solves, delay_past, solves_so}
use Rattle.solver.specs.Solved.{held, placed}
use Rattle.solver.specs.SolvedLaws.{held_small}
use Rattle.delays.specs.Prepared.{pair_delays, asks_delays, delays_from, refusal_from, prepared_refusal, PreparedBy}
use Rattle.delays.specs.PreparedLaws.{prepared_so, given_so}
use Rattle.row_bases.specs.Method.{Asked, Based, row_bases}
use Rattle.row_bases.specs.MethodLaws.{method_asked, six_known, six_incurred, bases_small}
use Rattle.cells.specs.CellOf.{sums_from, cell_of, years_entries}
use Rattle.cells.specs.Weights.{Weights, Delays}
use Rattle.years.specs.WeightsLaws.{weights_are}
use Rattle.years.specs.Ready.{Ready, year_weights}
use Rattle.years.specs.ReadyLaws as ReadyLaws
use Rattle.years.specs.ReadyLaws.{g_at, latest_at, shares_fit}
use Rattle.years.specs.YearsLaws.{cell_is, output_is}
use Rattle.set_forecast.specs.SetForecast.{Answered, method_refusal, set_refusal, of_either, either_delays, InRange, Given}

-- ---- a set that passed questions 1, 5, 6 and 9 to 14, with delays p in range
module _ (m : ℕ) (s : TriangleSet) (method : ℕ) (asked : Asked m s.counts s.paid s.incurred method) (passed : method_refusal m s method ≡ 0) (p : List ℤ) (small : Delays p) where
  abbrev few : m ≤ 20
  few = asked.shared.counts.small.few

  at_bases : (k : ℕ) → k < m → at (row_bases m s method) k ≡ row_base m s method (suc k)
  unfolding row_bases
  at_bases k h = get_or_listed 20 m (λ k. row_base m s method (suc k)) (pos 0) k (pos 0) (omega (arith, few)) h

  base_at : (i : ℕ) → 1 ≤ i → i ≤ m → at (row_bases m s method) (i - 1) ≡ row_base m s method i
  base_at i h l = let e : suc (i - 1) ≡ i = omega arith in at_bases (i - 1) (omega arith) ∙ ap (row_base m s method) e

  ready : Ready m s.counts (b_list m s.counts) (g_list m s.counts) (latests m s.counts) (row_bases m s method) p
  unfolding latests method_refusal
  ready = record {
    some = asked.shared.counts.least;
    few = few;
    sound = counts_sound asked.shared;
    cells = asked.shared.counts.small.cells;
    rows = λ i h l. (counts_rows asked.shared i h l, (let k = SumsLaws.latest_small m (10 ^ 7) s.counts asked.shared.counts.small i h l in omega arith));
    shares_are = refl;
    g_are = refl;
    latest_are = refl;
    bases = λ k h. rw (at_bases k h) (bases_small m s method asked passed k h);
    delays = small;
  }

  -- its output
  module _ (basis : ℕ) where
    abbrev weights : ℕ → List ℤ
    weights = year_weights m s.counts basis (b_list m s.counts) (g_list m s.counts) (latests m s.counts)

    year_weights_lem : (i : ℕ) → 1 ≤ i → i ≤ m → weights i ≡ s_list m s basis i
    unfolding year_weights
    year_weights_lem i h l = rw (g_at ready i h l, latest_at ready i h l) (weights_are m s basis i)

    written : (before : List ℤ) → overlay before 0 (years_entries m (row_bases m s method) weights (b_list m s.counts) p m) ≡ output_from m s p method basis before
    written before =
        output_is m (let l = asked.shared.counts.least in omega arith) few s p (row_bases m s method) weights method basis base_at year_weights_lem before

    -- a cell
    set_cell : (i j : ℕ) → 1 ≤ i → i ≤ m → j < 39 → cell_of m (at (row_bases m s method) (i - 1)) (weights i) p (sums_from m (m - (i - 1)) (b_list m s.counts) p) i j ≡ record { rbns = rbns m s p method basis i j; ibnr = ibnr m s p method i j }
    set_cell =
        cell_is m (let l = asked.shared.counts.least in omega arith) few s p (row_bases m s method) weights method basis base_at year_weights_lem

    -- the weights, shares and bases that the cells are made of
    pub set_weights : (i : ℕ) → 1 ≤ i → i ≤ m → Weights (s_list m s basis i)
    set_weights i h l = rw (← year_weights_lem i h l) (ReadyLaws.year_weights_lem ready i h l basis)

  pub set_shares : Weights (b_list m s.counts)
  set_shares = shares_fit ready

  pub set_bases : (i : ℕ) → 1 ≤ i → i ≤ m → nat_abs (row_base m s method i) ≤ 2 * 10 ^ 14
  unfolding method_refusal
  set_bases i h l = let e : suc (i - 1) ≡ i = omega arith in rw e at (bases_small m s method asked passed (i - 1) (omega arith))

-- ---- from what is prepared, as the code takes it: v is what the row bases made, b the shares
module _ {m : ℕ} {set : List ℤ} {method : ℕ} {cl cg dl dg p : List ℤ} (given : Given m set method cl cg dl dg p) (like : TriangleSet)
    {n : ℕ} {v left lefts : List ℤ} (based : Based m (lent_set like set) method n v left lefts) (z : n ≡ 0)
    {b : List ℤ} (b_is : b ≡ listed 20 m (difference cg) (pos 0)) where
  abbrev given_set_lem : TriangleSet
  given_set_lem = lent_set like set

  passes : method_refusal m given_set_lem method ≡ 0
  unfolding method_refusal
  passes = sym based.refusal ∙ z

  b_list_lem : b ≡ b_list m (triangle_in 0 set)
  b_list_lem = b_is ∙ ladder_shares given.counts given.asked.shared.counts.small.few

  pub years_ready : Ready m (triangle_in 0 set) b cg cl v p
  years_ready = rw (b_list_lem, given.counts.g_is, given.counts.latest_is, based.bases z) (ready m given_set_lem method given.asked passes p given.delays)

  pub years_written : (basis : ℕ) (before : List ℤ)
      → overlay before 0 (years_entries m v (year_weights m (triangle_in 0 set) basis b cg cl) b p m) ≡ output_from m given_set_lem p method basis before
  years_written basis before =
      rw (b_list_lem, given.counts.g_is, given.counts.latest_is, based.bases z) (written m given_set_lem method given.asked passes p given.delays basis before)

  pub years_cell : (basis i j : ℕ) → 1 ≤ i → i ≤ m → j < 39
      → cell_of m (at v (i - 1)) (year_weights m (triangle_in 0 set) basis b cg cl i) p (sums_from m (m - (i - 1)) b p) i j ≡ record { rbns = rbns m given_set_lem p method basis i j; ibnr = ibnr m given_set_lem p method i j }
  years_cell basis i j h l k =
      rw (b_list_lem, given.counts.g_is, given.counts.latest_is, based.bases z) (set_cell m given_set_lem method given.asked passes p given.delays basis i j h l k)

-- ---- from the set

-- delays in a list of 20 that the cells can go by: each place is in range
in_places : (m : ℕ) (p made : List ℤ) → q12 m p ≡ true → ((l : ℕ) → l < m → l < 20 → at made l ≡ at p l) → ((l : ℕ) → m ≤ l → l < 20 → at made l ≡ pos 0) → Delays made
unfolding q12
in_places m p made in_range_lem here past l h =
    by_test (ltb l m)
    (λ e. rw (here l (ltb-true l m e) h) (held_small (at p l) (every_at (λ l. held (at p l)) m l in_range_lem (ltb-true l m e))))
    (λ e. rw (past l (ltb-false l m e) h) (omega arith))

module _ (m : ℕ) (c d : List ℤ) where
  -- those solved here, and zeros behind them
  pub solved_range : prepared_refusal m c d ≡ 0 → Delays (pair_delays m c d)
  unfolding delays
  solved_range z = in_places m (pair_delays m c d) (pair_delays m c d) (prepared_so m c d z).1 (λ l h k. refl) (λ l h k. delay_past (b_list m c) (b_list m d) m l h k)

  -- from either side
  pub either_range : (given : Option (List ℤ)) → refusal_from m c d given ≡ 0 → Delays (delays_from m c d given)
  unfolding delays_from q20 prepared_refusal refusal_from asks_delays
  either_range (Some lent) z =
      in_places m lent (placed m lent) (and_right (eqb (length lent) m) (q12 m lent) (and_left (eqb (length lent) m && q12 m lent) _ (given_so m c d lent z)))
      (λ l h k. get_or_listed 20 m (at lent) (pos 0) l (pos 0) k h) (λ l h k. get_or_listed_past 20 m (at lent) (pos 0) l (pos 0) k h)
  either_range None z = solved_range z

-- they solve the system, and make the output of what stands in the list of 20
module _ (m : ℕ) (s : TriangleSet) (shared : Shared m s.counts s.paid) where
  pub either_solve : (given : Option (List ℤ)) → refusal_from m s.counts s.paid given ≡ 0
      → Solves m (b_list m s.counts) (b_list m s.paid) (either_delays m s given)
  unfolding either_delays q20
  either_solve (Some lent) z =
      solves_so m (b_list m s.counts) (b_list m s.paid) lent
      (and_right (eqb (length lent) m && q12 m lent) (every m (solves_at (b_list m s.counts) (b_list m s.paid) lent)) (given_so m s.counts s.paid lent z))
  either_solve None z = own_solve m s shared

  pub either_output : (given : Option (List ℤ)) (method basis : ℕ) (before : List ℤ)
      → output_from m s (delays_from m s.counts s.paid given) method basis before ≡ output_from m s (either_delays m s given) method basis before
  unfolding delays_from either_delays delays_of
  either_output (Some lent) method basis before =
      same_output m (placed m lent) lent (λ k h. get_or_listed 20 m (at lent) (pos 0) k (pos 0) (omega (arith, shared.counts.small.few)) h) s method basis before
  either_output None method basis before = refl

module _ (m : ℕ) (s : TriangleSet) (method : ℕ) where
  -- the refusal: questions 9 to 11 and 20 or 12, then 13 and 14
  module _ (given : Option (List ℤ)) where
    abbrev asked : List Question
    asked = of_shares m s.counts s.paid ++ asks_delays m s.counts s.paid given

    asked_numbered : numbered asked ≡ true
    unfolding of_shares asks_delays of_delays of_given_delays numbered
    asked_numbered = elim given as (λ o. numbered (of_shares m s.counts s.paid ++ asks_delays m s.counts s.paid o) ≡ true) [ None ↦ refl | Some lent ↦ refl ]

    pub by_either : (refusal_from m s.counts s.paid given ≡ 0 → ⊥) → first_no (of_either m s given method) ≡ refusal_from m s.counts s.paid given
    unfolding of_either refusal_from of_shares
    by_either = stage_no asked (of_method m s method) asked_numbered

    pub after_either : refusal_from m s.counts s.paid given ≡ 0 → first_no (of_either m s given method) ≡ method_refusal m s method
    unfolding of_either method_refusal refusal_from of_shares
    after_either = stage_yes asked (of_method m s method) asked_numbered

    either_so : first_no (of_either m s given method) ≡ 0 → (refusal_from m s.counts s.paid given ≡ 0) × (method_refusal m s method ≡ 0)
    unfolding of_either method_refusal refusal_from of_shares
    either_so = stages_so asked (of_method m s method) asked_numbered

  -- with the delays solved here
  abbrev pair : ℕ
  pair = prepared_refusal m s.counts s.paid

  pub by_pair : (pair ≡ 0 → ⊥) → set_refusal m s method ≡ pair
  unfolding set_refusal of_forecast prepared_refusal delays_of of_either refusal_from asks_delays
  by_pair = by_either None

  pub by_method : pair ≡ 0 → set_refusal m s method ≡ method_refusal m s method
  unfolding set_refusal of_forecast prepared_refusal delays_of of_either refusal_from asks_delays
  by_method = after_either None

  pub set_so : set_refusal m s method ≡ 0 → (pair ≡ 0) × (method_refusal m s method ≡ 0)
  unfolding set_refusal of_forecast prepared_refusal delays_of of_either refusal_from asks_delays
  set_so = either_so None

  module _ (valid : Valid m s) where
    set_shared : pair ≡ 0 → Shared m s.counts s.paid
    set_shared z = shared_set m s valid (prepared_so m s.counts s.paid z).0

    pub set_delays : pair ≡ 0 → Delays (delays_of m s)
    unfolding delays_of
    set_delays = solved_range m s.counts s.paid

    module _ (basis : ℕ) (six : q6 s.has_incurred method basis ≡ true) where
      pub set_asked : pair ≡ 0 → Asked m s.counts s.paid s.incurred method
      set_asked z = method_asked m s method basis valid (set_shared z) six

-- what was prepared of a lent set
module _ {m : ℕ} {set : List ℤ} {number n : ℕ} {made cl cg dl dg before p : List ℤ} (by : PreparedBy m set number made n cl cg dl dg before p) (z : n ≡ 0) where
  pub lent_passed : number ≡ 0
  lent_passed = sym by.refusal ∙ z

  pub lent_delays : p ≡ made
  lent_delays = by.delays_are ∙ if_accepted_lem _ _ _ z

  module _ {method : ℕ} (ok : InRange m set method) (asked : number ≡ 0 → first_no (of_shares m (triangle_in 0 set) (triangle_in 1 set)) ≡ 0) where
    pub lent_shared : Shared m (triangle_in 0 set) (triangle_in 1 set)
    lent_shared = record { counts = ok.counts; paid = ok.paid; asked = asked lent_passed }

    pub is_given : (number ≡ 0 → Delays made) → Given m set method cl cg dl dg p
    is_given range = record {
      asked = record { shared = lent_shared; known = ok.known; incurred = ok.incurred };
      counts = by.counts z;
      paid = by.paid z;
      delays = rw lent_delays (range lent_passed);
    }

-- demand 3, of a set that passed, with any delays that solve its system
pub near : {number m : ℕ} {s : TriangleSet} {method basis n : ℕ} {p left lefts before after : List ℤ} → Shared m s.counts s.paid
    → Answered number m s p method basis n left lefts before after → (n ≡ 0 → Solves m (b_list m s.counts) (b_list m s.paid) p)
    → n ≡ 0 → method ≡ 0 → basis ≡ 1 → NearReserves m s.paid after
near {m = m} {s = s} {p = p} {before = before} {after = after} h a solves z dcl estimated =
    let plain : after ≡ output_from m s p 0 1 before = a.output ∙ rw (z, dcl, estimated) in
    rw plain (demand_3 m s h p before (solves z))

-- a valid set and a method that question 6 knows
pub in_range_lem : (m : ℕ) (like : TriangleSet) (set : List ℤ) (method basis : ℕ) → Valid m (lent_set like set) → q6 like.has_incurred method basis ≡ true → InRange m set method
in_range_lem m like set method basis valid six = record {
  counts = counts_of m (lent_set like set) valid;
  paid = paid_of m (lent_set like set) valid;
  known = six_known like.has_incurred method basis six;
  incurred = λ n. incurred_small m (lent_set like set) valid (six_incurred like.has_incurred method basis six n);
}
