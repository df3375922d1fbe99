-- What this crate's functions hand back of the triangles of a set of size m.
use Rattle.std.specs.Prelude.{ℕ, ◌≡◌, true, false, List, ℤ, Option, MatchOption}
use Rattle.model.specs.Shares as Shares
use Rattle.model.specs.Questions.{first_no, of_shares, q13}
use Rattle.model.specs.Lent.{triangle_in}
use Rattle.ladder.specs.Ladder.{Ladder}

-- the first no of questions 9 to 11 of a lent set; where there is none, those of counts, cl and cg,
-- and of paid, dl and dg
pub record Developed (m : ℕ) (set : List ℤ) (n : ℕ) (cl cg dl dg : List ℤ) : Type 0 where
  pub refusal : n ≡ first_no (of_shares m (triangle_in 0 set) (triangle_in 1 set))
  pub counts : n ≡ 0 → Ladder m (triangle_in 0 set) cl cg
  pub paid : n ≡ 0 → Ladder m (triangle_in 1 set) dl dg

-- W of incurred t, where question 13 gets a yes
abbrev pub IncurredOf : ℕ → List ℤ → Option (List ℤ) → Type 0
IncurredOf m t given = MatchOption given (q13 m t ≡ false) (λ w. (q13 m t ≡ true) × (w ≡ Shares.ultimates m t))
