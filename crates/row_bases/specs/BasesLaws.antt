-- Laws of Bases: a row base and a leftover in each case, and the sizes of what is divided. Assumes
-- nothing.
use Rattle.std.specs.Prelude.{◌≡◌, true, false, [], ◌∷◌, ℕ, ◌*◌, ◌^◌, ◌≤◌, ◌<◌, ℤ, pos, negsuc, nat_abs, ◌-ℤ◌, ◌*ℤ◌}
use Rattle.std.proofs.Common.{⊎_elim, arith, ne_eqb}
use Rattle.integers.specs.Parts.{◌⩽◌, ◌⋖◌, ints}
use Rattle.integers.specs.Solver.{ring, form}
use Rattle.integers.specs.Linear.{lin, stmt, ◌&◌}
use Rattle.integers.specs.Order.{<ℤ_or-≥, ≤ℤ_antisym}
use Rattle.model.specs.Rounding.{r}
use Rattle.model.specs.RowBases.{is_zero}
use Rattle.row_bases.specs.Bases.{base_from, left_from, Year}

above_zero : (z : ℤ) → pos 0 ⋖ z → is_zero z ≡ false
above_zero (pos n) h = ne_eqb n 0 (λ e. let k : 0 < n = omega (arith, ints) in omega arith)
above_zero (negsuc n) h = absurd h.lt

none_left : (u c : ℤ) → u ≡ c → is_zero (u -ℤ c) ≡ true
none_left u c e = rw (e, zero_diff c)
  where
    zero_diff : (c : ℤ) → c -ℤ c ≡ pos 0
    zero_diff c = ring (c ∷ []) (search form depth 20) tt

module _ (method : ℕ) (u1 w1 u w c : ℤ) where
  pub base_paid : method ≡ 0 → base_from method u1 w1 u w c ≡ u
  unfolding base_from
  base_paid e = rw e

  pub base_incurred : method ≡ 1 → base_from method u1 w1 u w c ≡ r (u1 *ℤ w) w1
  unfolding base_from
  base_incurred e = rw e

  pub base_settled : method ≡ 2 → u ≡ c → base_from method u1 w1 u w c ≡ u
  unfolding base_from
  base_settled e k = rw (e, none_left u c k)

  pub base_open : method ≡ 2 → pos 0 ⋖ u -ℤ c → base_from method u1 w1 u w c ≡ r (u *ℤ (w -ℤ c)) (u -ℤ c)
  unfolding base_from
  base_open e k = rw (e, above_zero (u -ℤ c) k)

module _ (method : ℕ) (u w c : ℤ) where
  pub left_none : method < 2 → left_from method u w c ≡ pos 0
  unfolding left_from
  left_none h = rw (ne_eqb method 2 (λ e. omega arith))

  pub left_settled : method ≡ 2 → u ≡ c → left_from method u w c ≡ w -ℤ c
  unfolding left_from
  left_settled e k = rw (e, none_left u c k)

  pub left_open : method ≡ 2 → pos 0 ⋖ u -ℤ c → left_from method u w c ≡ pos 0
  unfolding left_from
  left_open e k = rw (e, above_zero (u -ℤ c) k)

module _ {method : ℕ} {u w c : ℤ} (z : Year method u w c) where
  pub incurred_small : nat_abs (w -ℤ c) ≤ 2 * 10 ^ 14
  incurred_small = lin (u ∷ w ∷ c ∷ []) (z.high.0 & z.high.1 & z.low & z.paid.0 & z.paid.1) (search stmt depth 20) (omega arith)

  pub reserve_small : nat_abs (u -ℤ c) ≤ 2 * 10 ^ 14
  reserve_small = lin (u ∷ c ∷ []) (z.high.0 & z.paid.0 & z.paid.1) (search stmt depth 20) (omega arith)

  pub reserve_pos : (u ≡ c → ⊥) → pos 0 ⋖ u -ℤ c
  reserve_pos n =
      ⊎_elim (λ (h : c ⋖ u). lin (u ∷ c ∷ []) h (search stmt depth 20) (omega arith)) (λ (h : u ⩽ c). absurd (n (≤ℤ_antisym h z.paid.1))) (<ℤ_or-≥ c u)
