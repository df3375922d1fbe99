-- Laws of Solved: how large the numbers get that a line of the system is made of. Assumes nothing.
use Rattle.std.specs.Prelude.{◌≡◌, true, List, [], ◌∷◌, ℕ, suc, ◌+◌, ◌-◌, ◌*◌, ◌^◌, ◌≤◌, ◌<◌, ℤ, nat_abs, ◌+ℤ◌, ◌*ℤ◌}
use Rattle.std.proofs.Common.{mul-le-mul, arith}
use Rattle.std.proofs.Math.IntN.{pos}
use Rattle.integers.specs.Parts.{◌⩽◌}
use Rattle.integers.specs.Linear.{lin, stmt, ◌&◌}
use Rattle.integers.specs.Order.{≤ℤ_trans, ≤ℤ_of-≡, nat_abs_mono, nat_abs-≤, nat_abs-*ℤ}
use Rattle.integers.specs.Sums.{sum, sum_cong, sum_suc, sum_split, sum_part, sum_nonneg, sum_weighted}
use Rattle.model.specs.Lists.{at}
use Rattle.model.specs.Rounding.{S}
use Rattle.model.specs.QuestionsLaws.{within_so}
use Rattle.solver.specs.Solved.{Solvable, Weighed, Next, weighed_sum, held}

pub held_small : (z : ℤ) → held z ≡ true → nat_abs z ≤ 8 * 10 ^ 9
held_small z e = let w = within_so _ _ z e in nat_abs-≤.1 (w.1, w.0)

-- the sum of delay_after, and that of solves_at
pub from_one : (b p : List ℤ) (l : ℕ) → weighed_sum b p 1 l ≡ sum l (λ k. at b (suc k) *ℤ at p (l - suc k))
unfolding weighed_sum
from_one b p l =
    let e : suc l - 1 ≡ l = omega arith in
    rw e (sum_cong l (λ k h. let d : 1 + k ≡ suc k = omega arith in rw d))

pub from_zero : (b p : List ℤ) (l : ℕ) → weighed_sum b p 0 l ≡ sum (suc l) (λ k. at b k *ℤ at p (l - k))
unfolding weighed_sum
from_zero b p l =
    let e : suc l - 0 ≡ suc l = omega arith in
    rw e (sum_cong (suc l) (λ k h. let d : 0 + k ≡ k = omega arith in rw d))

module _ {first l : ℕ} {b p : List ℤ} (w : Weighed first l b p) where
  -- a share
  pub share_small : (k : ℕ) → k ≤ l → nat_abs (at b k) ≤ 10 ^ 9
  unfolding S
  share_small k h =
      nat_abs_mono (w.shares k (omega arith))
      (≤ℤ_trans one (≤ℤ_trans (sum_part (suc k) (suc l) (at b) (omega arith) w.shares) w.whole))
    where
      one : at b k ⩽ sum (suc k) (at b)
      one =
          rw (sum_suc k (at b))
          (lin (sum k (at b) ∷ at b k ∷ []) (sum_nonneg k (at b) (λ i u. w.shares i (omega arith))) (search stmt depth 20) (omega arith))

  -- the first i shares of the sum
  shares_small : (i : ℕ) → i ≤ suc l - first → nat_abs (sum i (λ k. at b (first + k))) ≤ 10 ^ 9
  unfolding S
  shares_small i h =
      nat_abs_mono {y = pos (10 ^ 9)} (sum_nonneg i (λ k. at b (first + k)) (λ k u. w.shares (first + k) (omega (arith, w.some))))
      (lin (sum first (at b) ∷ sum i (λ k. at b (first + k)) ∷ [])
      (sum_nonneg first (at b) (λ k u. w.shares k (omega (arith, w.some))) & all) (search stmt depth 20) (omega arith))
    where
      all : sum first (at b) +ℤ sum i (λ k. at b (first + k)) ⩽ pos (10 ^ 9)
      all = rw (← sum_split first i (at b)) (≤ℤ_trans (sum_part (first + i) (suc l) (at b) (omega (arith, w.some)) w.shares) w.whole)

  -- a product, and the sum so far
  pub product_small : (k : ℕ) → first ≤ k → k ≤ l → nat_abs (at b k *ℤ at p (l - k)) ≤ 8 * 10 ^ 18
  product_small k f h =
      rw (nat_abs-*ℤ (at b k) (at p (l - k))) (omega (arith, mul-le-mul (share_small k h) (w.delays (l - k) (omega arith))))

  pub part_small : (i : ℕ) → i ≤ suc l - first → nat_abs (sum i (λ k. at b (first + k) *ℤ at p (l - (first + k)))) ≤ 8 * 10 ^ 18
  part_small i h =
      omega (
        arith,
        sum_weighted i (8 * 10 ^ 9) (λ k. at b (first + k)) (λ k. at p (l - (first + k))) (λ k u. w.shares (first + k) (omega (arith, w.some)))
            (λ k u. w.delays (l - (first + k)) (omega (arith, w.some))),
        shares_small i h,
      )

  pub sum_small : nat_abs (weighed_sum b p first l) ≤ 8 * 10 ^ 18
  unfolding weighed_sum
  sum_small = part_small (suc l - first) (omega arith)

-- what line l is made of, where the delays that it looks at are in their bounds
module _ {m : ℕ} {b q : List ℤ} (s : Solvable m b q) (l : ℕ) (h : l < m) where
  pub next_of : (first : ℕ) (p : List ℤ) → first ≤ suc l → ((k : ℕ) → k + first ≤ l → nat_abs (at p k) ≤ 8 * 10 ^ 9) → Next first l b q p
  unfolding S
  next_of first p some held =
      record {
        weights = all;
        divisor = (lin (at b 0 ∷ []) s.first (search stmt depth 20) (omega arith), share_small all 0 (omega arith));
        target = nat_abs_mono (s.targets l h).0 (s.targets l h).1;
      }
    where
      all : Weighed first l b p
      all = record {
        few = omega (arith, s.few);
        some = some;
        shares = λ k u. s.shares k (omega arith);
        whole = ≤ℤ_trans (sum_part (suc l) m (at b) h s.shares) (≤ℤ_of-≡ s.whole);
        delays = held;
      }
