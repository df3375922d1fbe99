-- What counts c and paid d give the cells under every method: their chain ladders and the delays,
-- from either side, or the first no of questions 9 to 11 and 12 or 20.
use Rattle.std.specs.Prelude.{ℕ, ◌≡◌, Option, List, [], ◌++◌, ℤ}
use Rattle.std.specs.Option.{option_map_or}
use Rattle.model.specs.Records.{set_of}
use Rattle.model.specs.Shares.{b_list}
use Rattle.model.specs.Delays.{delays}
use Rattle.model.specs.Questions.{Question, first_no, of_shares, of_delays, of_given_delays}
use Rattle.model.specs.Calls.{if_accepted, call_refusal}
use Rattle.model.specs.Lent.{triangle_in}
use Rattle.ladder.specs.Ladder.{Ladder}
use Rattle.solver.specs.Solved.{placed}

-- the delays of counts and paid
abbrev pub pair_delays : ℕ → List ℤ → List ℤ → List ℤ
pair_delays m c d = delays m (b_list m c) (b_list m d)

-- the question that the delays are asked: the lent ones 20, where some are given, else those solved
-- here 12
unfoldable pub asks_delays : ℕ → List ℤ → List ℤ → Option (List ℤ) → List Question
asks_delays m c d given = option_map_or (of_given_delays m c d) given (of_delays m (pair_delays m c d))

-- the delays, in a list of 20 places
unfoldable pub delays_from : ℕ → List ℤ → List ℤ → Option (List ℤ) → List ℤ
delays_from m c d given = option_map_or (placed m) given (pair_delays m c d)

-- the first no of questions 9 to 11 and that one
unfoldable pub refusal_from : ℕ → List ℤ → List ℤ → Option (List ℤ) → ℕ
refusal_from m c d given = first_no (of_shares m c d ++ asks_delays m c d given)

-- that of questions 9 to 12
unfoldable pub prepared_refusal : ℕ → List ℤ → List ℤ → ℕ
prepared_refusal m c d = first_no (of_shares m c d ++ of_delays m (pair_delays m c d))

-- of a lent set whose first no is `number`: the refusal n, and where there is none the chain ladder
-- of counts, cl and cg, of paid, dl and dg, and the delays p, which are as before beside a refusal
pub record PreparedBy (m : ℕ) (set : List ℤ) (number : ℕ) (made : List ℤ) (n : ℕ) (cl cg dl dg before p : List ℤ) : Type 0 where
  pub refusal : n ≡ number
  pub counts : n ≡ 0 → Ladder m (triangle_in 0 set) cl cg
  pub paid : n ≡ 0 → Ladder m (triangle_in 1 set) dl dg
  pub delays_are : p ≡ if_accepted n made before

-- with the delays from either side
abbrev pub PreparedFrom : ℕ → List ℤ → Option (List ℤ) → ℕ → List ℤ → List ℤ → List ℤ → List ℤ → List ℤ → List ℤ → Type 0
PreparedFrom m set given =
    let c = triangle_in 0 set in
    let d = triangle_in 1 set in
    PreparedBy m set (refusal_from m c d given) (delays_from m c d given)

-- with those solved here
abbrev pub Prepared : ℕ → List ℤ → ℕ → List ℤ → List ℤ → List ℤ → List ℤ → List ℤ → List ℤ → Type 0
Prepared m set =
    let c = triangle_in 0 set in
    let d = triangle_in 1 set in
    PreparedBy m set (prepared_refusal m c d) (pair_delays m c d)

-- of a file: its refusal n, and its delays from either side, which are as before beside a refusal
pub record ReadDelays (m : ℕ) (f : List ℕ) (given : Option (List ℤ)) (n : ℕ) (before p : List ℤ) : Type 0 where
  pub refusal : let s = set_of m f in n ≡ call_refusal m f [] (of_shares m s.counts s.paid ++ asks_delays m s.counts s.paid given)
  pub delays_are : let s = set_of m f in p ≡ if_accepted n (delays_from m s.counts s.paid given) before
