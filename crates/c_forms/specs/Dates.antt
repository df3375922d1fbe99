-- A date as three numbers.
use Rattle.std.specs.Prelude.{ℕ, List, get_or}
use Rattle.model.specs.declared.Date.{Date}

-- year, month and day, in this order
abbrev pub date_in : List ℕ → Date
date_in xs = record { year = get_or xs 0 0; month = get_or xs 1 0; day = get_or xs 2 0 }
