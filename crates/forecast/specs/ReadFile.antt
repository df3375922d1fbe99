-- Questions 1 to 6 of a file that is to be forecast, and its set. Assumes nothing.
use Rattle.std.specs.Prelude.{ℕ, ◌≤◌, ◌≡◌, List, ℤ}
use Rattle.std.proofs.Common.{sym, ◌∙◌, subst}
use Rattle.model.specs.Records.{set_of}
use Rattle.model.specs.CallsLaws.{settings_refusal, settings_so}
use Rattle.model.specs.Lent.{lent_set}
use Rattle.chain_ladder.specs.Accepted.{valid_set}
use Rattle.chain_ladder.specs.Valid.{Valid, few, least}
use Rattle.set_forecast.specs.SetForecast.{InRange}
use Rattle.set_forecast.specs.SetForecastLaws.{in_range_lem}

-- n is the first no; where there is none, the lent list holds the file's set
pub record ReadToForecast (m : ℕ) (f : List ℕ) (method basis n : ℕ) (set : List ℤ) : Type 0 where
  pub refusal : n ≡ settings_refusal m f method basis
  pub holds : n ≡ 0 → lent_set (set_of m f) set ≡ set_of m f

module _ {m : ℕ} {f : List ℕ} {method basis n : ℕ} {set : List ℤ} (read : ReadToForecast m f method basis n set) (z : n ≡ 0) where
  pub passed_settings : settings_refusal m f method basis ≡ 0
  passed_settings = sym read.refusal ∙ z

  valid : Valid m (lent_set (set_of m f) set)
  valid = subst (Valid m) (sym (read.holds z)) (valid_set m f (settings_so m f method basis passed_settings).0)

  pub read_sized : (2 ≤ m) × (m ≤ 20)
  read_sized = (least m (lent_set (set_of m f) set) valid, few m (lent_set (set_of m f) set) valid)

  pub read_in_range : InRange m set method
  unfolding set_of
  read_in_range = in_range_lem m (set_of m f) set method basis valid (settings_so m f method basis passed_settings).1
