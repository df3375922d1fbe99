-- What the inner contracts ask of a transaction.
use Rattle.std.specs.Prelude.{ℕ, ◌^◌, ◌<◌, ◌≤◌, pos}
use Rattle.integers.specs.Parts.{◌⩽◌}
use Rattle.model.specs.declared.Transaction.{Transaction}

-- question 16 got a yes, where m is up to 20
pub record Good (m : ℕ) (x : Transaction) : Type 0 where
  pub few : m ≤ 20
  pub claim_is : x.claim < 4096
  pub kind_is : x.kind < 2
  pub year_is : 1 ≤ x.accident
  pub order : x.accident ≤ x.calendar
  pub calendar_is : x.calendar ≤ m
  pub least : pos 0 ⩽ x.amount
  pub most : x.amount ⩽ pos (10 ^ 10)
