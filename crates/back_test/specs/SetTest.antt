-- The back-test of a set: questions 9 to 14 of the cut set, and the answer.
use Rattle.std.specs.Prelude.{ℕ, ◌-◌, Result, Ok, Err}
use Rattle.model.specs.BackTest.{cut_to}
use Rattle.model.specs.Calls.{if_accepted, back_test_of, refused_back_test}
use Rattle.model.specs.declared.TriangleSet.{TriangleSet}
use Rattle.model.specs.declared.BackTestAnswer.{BackTestAnswer}
use Rattle.refusals.specs.Refusals.{number}
use Rattle.refusals.specs.declared.Refusal.{Refusal}
use Rattle.set_forecast.specs.SetForecast.{set_refusal}

unfoldable pub set_test : ℕ → TriangleSet → ℕ → ℕ → ℕ → BackTestAnswer
set_test m s c method basis =
    let n = set_refusal (m - c) (cut_to (m - c) s) method in
    if_accepted n (back_test_of m s c method basis) (refused_back_test n)

-- the answer of a call, as its caller gets it
abbrev pub answer_of : Result BackTestAnswer Refusal → BackTestAnswer
answer_of (Ok answer) = answer
answer_of (Err e) = refused_back_test (number e)
