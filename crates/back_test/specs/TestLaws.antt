-- Laws of the back-test: of a set, from its forecast and its errors; of a file, its refusal
-- question by question. Assumes nothing.
use Rattle.std.specs.Prelude.{◌≡◌, Result, List, ℕ, suc, ◌+◌, ◌-◌, ◌≤◌, ◌<◌, leb, ℤ}
use Rattle.std.proofs.Common.{sym, ◌∙◌, arith}
use Rattle.std.proofs.Math.Path.{ap}
use Rattle.std.specs.Result.{IsErrAnd}
use Rattle.std.proofs.lemmas.Result.{err_from_is_err_and}
use Rattle.std.proofs.Math.Bool.{and-false}
use borrow.Author.Tests.{le-leb, lt-leb}
use Rattle.model.specs.Records.{cell, set_of}
use Rattle.model.specs.Delays.{delays_of}
use Rattle.model.specs.Cells.{rbns, ibnr}
use Rattle.model.specs.Lent.{triangle_in, lent_set}
use Rattle.model.specs.BackTest.{cut_to, gap, cell_number, cellwise, yearwise, overall}
use Rattle.model.specs.Questions.{q8, of_forecast}
use Rattle.model.specs.CallsLaws as CallsLaws
use Rattle.model.specs.CallsLaws.{settings_refusal, if_refused}
use Rattle.model.specs.Calls.{back_test_refusal, back_test_of, accepted_back_test, refused_back_test, back_test_answer}
use Rattle.model.specs.declared.TriangleSet.{TriangleSet}
use Rattle.model.specs.declared.BackTestAnswer.{BackTestAnswer}
use Rattle.refusals.specs.Refusals.{number}
use Rattle.refusals.specs.declared.Refusal.{Refusal}
use Rattle.ladder.specs.Sums.{Small}
use Rattle.chain_ladder.specs.Valid.{Amounts}
use Rattle.cells.specs.declared.Cell.{Cell}
use Rattle.set_forecast.specs.SetForecast.{InRange, set_refusal}
use Rattle.gaps.specs.Gaps.{Sizes, gap_from, gaps}
use Rattle.gaps.specs.GapsLaws.{gaps_at}
use Rattle.gaps.specs.ErrorsLaws.{same_by_cell, same_by_year, same_in_all}
use Rattle.back_test.specs.SameCells.{SameSet, delays_same, refusal_same, rbns_same, ibnr_same, cut_same}
use Rattle.back_test.specs.SetTest.{answer_of, set_test}

-- what `?` hands on
pub handed_on : (r : Result BackTestAnswer Refusal) (e : Refusal) → IsErrAnd r (λ x. x ≡ e) → answer_of r ≡ refused_back_test (number e)
handed_on r e h = let p = err_from_is_err_and r h in rw (p.1, p.2)

-- ---- of a set
module _ (m : ℕ) (s : TriangleSet) (c method basis : ℕ) where
  abbrev n : ℕ
  n = m - c

  abbrev known : TriangleSet
  known = cut_to n s

  pub test_no : (k : ℕ) → (k ≡ 0 → ⊥) → set_refusal n known method ≡ k → set_test m s c method basis ≡ refused_back_test k
  unfolding set_test
  test_no k o e = if_refused _ _ _ (λ z. o (sym e ∙ z)) ∙ ap refused_back_test e

-- ---- of a lent set, from what the code made of it at size n
module _ {m : ℕ} {set : List ℤ} {method c : ℕ} (ok : InRange m set method) (some : 1 ≤ c) (most : c + 2 ≤ m) where
  pub sizes : Sizes m (m - c) (triangle_in 1 set)
  sizes = record { least = omega arith; less = omega arith; few = ok.counts.small.few; cells = ok.paid.small.cells }

  smaller : {n : ℕ} {t : List ℤ} → Small m n t → Small (m - c) n t
  smaller small = record { few = (let l = small.few in omega arith); cells = λ i j h l. small.cells i j h (omega arith) }

  fewer : {n : ℕ} {t : List ℤ} → Amounts m n t → Amounts (m - c) n t
  fewer a = record { least = omega arith; nonneg = λ i j h l. a.nonneg i j h (omega arith); small = smaller a.small }

  pub cut_ok : InRange (m - c) set method
  cut_ok = record { counts = fewer ok.counts; paid = fewer ok.paid; known = ok.known; incurred = λ n. smaller (ok.incurred n) }

  module _ (like : TriangleSet) where
    abbrev lent : TriangleSet
    lent = lent_set like set

    abbrev size : ℕ
    size = m - c

    few_years : size ≤ 20
    few_years = let l = ok.counts.small.few in omega arith

    cut : SameSet size (cut_to size lent) lent
    cut = cut_same size (omega arith) few_years lent

    pub cut_refusal : set_refusal size (cut_to size lent) method ≡ set_refusal size lent method
    cut_refusal = refusal_same cut method

    cut_delays : delays_of size (cut_to size lent) ≡ delays_of size lent
    cut_delays = delays_same cut

    -- the gaps as they are made, from cells that are those of the set, and the model's
    module _ (basis : ℕ) (cells : ℕ → ℕ → Cell)
        (are : (i j : ℕ) → 1 ≤ i → i ≤ size → j < 39 → cells i j ≡ record { rbns = rbns size lent (delays_of size lent) method basis i j; ibnr = ibnr size lent (delays_of size lent) method i j }) where
      abbrev made : ℕ → ℕ → ℤ
      made = cell (gaps m size cells (triangle_in 1 set))

      abbrev meant : ℕ → ℕ → ℤ
      meant = gap m size lent (delays_of size (cut_to size lent)) method basis

      same : (k j : ℕ) → k < size → j < size → made (suc k) j ≡ meant (suc k) j
      unfolding gap_from gap
      same k j h l =
          gaps_at m size cells (triangle_in 1 set) k j (omega (arith, few_years)) (omega (arith, few_years))
          ∙ rw (
            are (suc k) j (omega arith) h (omega (arith, few_years)),
            cut_delays,
            rbns_same cut (delays_of size lent) method basis (suc k) j (omega arith) h,
            ibnr_same cut (delays_of size lent) method (suc k) j (omega arith) h,
          )

      pub test_yes : set_refusal size lent method ≡ 0 → {line : ℕ} → line ≡ like.line → {d : List ℤ} {k x y z : ℕ} → d ≡ gaps m size cells (triangle_in 1 set) → k ≡ cell_number c size
          → x ≡ cellwise size (cell d) → y ≡ yearwise size c (cell d) → z ≡ overall size (cell d)
          → accepted_back_test line k x y z ≡ set_test m lent c method basis
      unfolding set_test back_test_of
      test_yes accepted l d_is a b y t =
          rw (l, a, b, y, t, d_is, same_by_cell size made meant same, same_by_year size made meant same c, same_in_all size made meant same, cut_refusal ∙ accepted)

-- ---- of a file: the refusal, question by question
module _ (m : ℕ) (f : List ℕ) (c method basis : ℕ) where
  abbrev s : TriangleSet
  s = set_of m f

  abbrev cut_set : TriangleSet
  cut_set = cut_to (m - c) s

  abbrev refusal : ℕ
  refusal = back_test_refusal m f c method basis

  abbrev settings : ℕ
  settings = settings_refusal m f method basis

  pub refused : (k : ℕ) → (k ≡ 0 → ⊥) → refusal ≡ k → back_test_answer m f c method basis ≡ refused_back_test k
  unfolding back_test_answer
  refused k o e = if_refused _ _ _ (λ z. o (sym e ∙ z)) ∙ ap refused_back_test e

  pub by_settings : (settings ≡ 0 → ⊥) → refusal ≡ settings
  unfolding back_test_refusal
  by_settings = CallsLaws.by_settings m f method basis 7 (q8 m c) (of_forecast (m - c) cut_set (delays_of (m - c) cut_set) method)

  module _ (passed : settings ≡ 0) where
    pub none_cut : c < 1 → refusal ≡ 8
    unfolding back_test_refusal q8
    none_cut h = CallsLaws.no_own m f method basis 7 (q8 m c) (of_forecast (m - c) cut_set (delays_of (m - c) cut_set) method) passed (rw (lt-leb 1 c h))

    pub much_cut : m < c + 2 → refusal ≡ 8
    unfolding back_test_refusal q8
    much_cut h =
        CallsLaws.no_own m f method basis 7 (q8 m c) (of_forecast (m - c) cut_set (delays_of (m - c) cut_set) method) passed
        (rw (lt-leb (c + 2) m h) (and-false (leb 1 c)))

    pub tested : 1 ≤ c → c + 2 ≤ m → set_test m s c method basis ≡ back_test_answer m f c method basis
    unfolding set_test set_refusal back_test_answer back_test_refusal q8
    tested h l =
        let to_set =
        CallsLaws.to_set m f method basis 7 (q8 m c) (of_forecast (m - c) cut_set (delays_of (m - c) cut_set) method) passed
        (rw (le-leb 1 c h, le-leb (c + 2) m l)) in
        rw to_set
