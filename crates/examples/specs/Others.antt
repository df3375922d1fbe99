-- 01, Examples: those that are not marked (P), but for that of `closing`. Assumes nothing.
use Rattle.std.specs.Prelude.{List, [], ◌∷◌, T, pos}
use Rattle.model.specs.Examples.{Row, row, right, count_g, refusal, shares_refused, tested, tested_cell, thousand, thousand_less, past, opened}

unfoldable pub others : List Row
others =
    -- g(0) of counts below 10^6, and 10^6
    row thousand (count_g 0) (pos 999001) ∷ row thousand (refusal 0 1) (pos 11) ∷ row thousand_less shares_refused (pos 0)
    -- the back-test: its number of cells, the cell's forecast, and the three errors
    ∷ row past (tested 1 0 1 0) (pos 1) ∷ row past (tested_cell 1 0 1 2 1) (pos 440)
    ∷ row past (tested 1 0 1 1) (pos 10) ∷ row past (tested 1 0 1 2) (pos 10) ∷ row past (tested 1 0 1 3) (pos 10)
    ∷ []

pub other_examples : T (right others)
unfolding opened others
other_examples = tt
