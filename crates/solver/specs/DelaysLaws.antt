-- Laws of Delays. Assumes nothing.
use Rattle.std.specs.Prelude.{◌≡◌, true, pos, ◌+ℤ◌, ◌*ℤ◌, ◌-ℤ◌, length, take}
use Rattle.std.proofs.Math.Path.{sym, ap}
use Rattle.std.proofs.Common.{◌∙◌, eq-eqb, get_or-take, length-take-le}
use mathlib.Core.List.{List, [], ◌∷◌}
use Prim.Native.Nat.{ℕ, zero, suc, ◌+◌, ◌-◌, ◌≤◌, ◌<◌}
use native.Mathlib.Omega.{arith}
use Rattle.std.proofs.Math.IntN.{ℤ}
use Rattle.std.proofs.Math.ListN.{length-set, length-replicate, get_or-replicate}
use Rattle.std.proofs.Math.Seq.{get_or-set_same, get_or-set_other}
use Rattle.std.specs.Int.Signed.{le_z}
use Rattle.integers.specs.Parts.{◌⩽◌, ◌⋖◌}
use Rattle.integers.specs.Solver.{ring, form}
use Rattle.integers.specs.Order.{le_yes, le_z_true}
use Rattle.integers.specs.Absolute.{∣◌∣, by_half, half_is, half_neg}
use Rattle.integers.specs.Sums.{sum, conv, sum_cong, sum_first}
use Rattle.model.specs.Lists.{at, every}
use Rattle.model.specs.ListsLaws.{every_at, every_all, every_ext}
use Rattle.model.specs.Rounding.{S, r}
use Rattle.model.specs.Delays.{delay_after, delays_to, delays, solves_at}
use Rattle.model.specs.Questions.{q12, q20}
use Rattle.rounding.specs.RoundingLaws.{r_near}

-- what the theorems use of m delays p, and nothing else: 2 |b(0) p(l) + .. + b(l) p(0) - S q(l)| ≤
-- b(0)
abbrev pub Solves : ℕ → List ℤ → List ℤ → List ℤ → Type 0
Solves m b q p = (l : ℕ) → l < m → pos 2 *ℤ ∣ conv (at b) (at p) l -ℤ S *ℤ at q l ∣ ⩽ at b 0

module _ (b q : List ℤ) where
  pub length_delays : (n : ℕ) → length (delays_to b q n) ≡ 20
  unfolding delays_to
  length_delays zero = length-replicate 20 (pos 0)
  length_delays (suc n) = length-set (delays_to b q n) n (delay_after b q (delays_to b q n) n) ∙ length_delays n

  -- a delay that is solved stays as it is
  kept : (e n l : ℕ) → l < n → at (delays_to b q (e + n)) l ≡ at (delays_to b q n) l
  unfolding delays_to
  kept zero n l h = let d : 0 + n ≡ n = omega arith in rw d
  kept (suc e) n l h =
      let d : suc e + n ≡ suc (e + n) = omega arith in
      rw d
      (get_or-set_other (delays_to b q (e + n)) (e + n) l (delay_after b q (delays_to b q (e + n)) (e + n)) (pos 0) (λ q. omega arith)
      ∙ kept e n l h)

  pub delay_kept : (m n l : ℕ) → n ≤ m → l < n → at (delays_to b q m) l ≡ at (delays_to b q n) l
  delay_kept m n l h k = let d : m ≡ m - n + n = omega arith in ap (λ (i : ℕ). at (delays_to b q i) l) d ∙ kept (m - n) n l k

  -- places that are not solved hold 0
  pub delay_past : (n l : ℕ) → n ≤ l → l < 20 → at (delays_to b q n) l ≡ pos 0
  unfolding delays_to
  delay_past zero l h k = get_or-replicate 20 l (pos 0) (pos 0) k
  delay_past (suc n) l h k =
      get_or-set_other (delays_to b q n) n l (delay_after b q (delays_to b q n) n) (pos 0) (λ e. omega arith) ∙ delay_past n l (omega arith) k

  -- 01's formula, from delays p that agree with those solved before l
  same_formula : (p p' : List ℤ) (l : ℕ) → ((k : ℕ) → k < l → at p k ≡ at p' k) → delay_after b q p l ≡ delay_after b q p' l
  unfolding delay_after
  same_formula p p' l h =
      ap (λ (x : ℤ). r (S *ℤ at q l -ℤ x) (at b 0)) (sum_cong l (λ k u. ap (λ (x : ℤ). at b (suc k) *ℤ x) (h (l - suc k) (omega arith))))

  -- from those solved before l
  pub delay_from : (m l : ℕ) → m ≤ 20 → l < m → at (delays m b q) l ≡ delay_after b q (delays_to b q l) l
  unfolding delays delays_to
  delay_from m l h k =
      delay_kept m (suc l) l k (omega arith)
      ∙ get_or-set_same (delays_to b q l) l (delay_after b q (delays_to b q l) l) (pos 0) (rw (length_delays l) (omega arith))

  -- p(l) by its formula, from all the delays
  pub delay_is_lem : (m l : ℕ) → m ≤ 20 → l < m → at (delays m b q) l ≡ delay_after b q (delays m b q) l
  unfolding delays
  delay_is_lem m l h k = delay_from m l h k ∙ same_formula (delays_to b q l) (delays_to b q m) l (λ j u. sym (delay_kept m l j (omega arith) u))

  past : List ℤ → ℕ → ℤ
  past p l = sum l (λ k. at b (suc k) *ℤ at p (l - suc k))

  conv_is : (p : List ℤ) (l : ℕ) → conv (at b) (at p) l ≡ at b 0 *ℤ at p l +ℤ past p l
  unfolding conv past
  conv_is p l = sum_first l (λ k. at b k *ℤ at p (l - k)) ∙ (let e : l - 0 ≡ l = omega arith in rw e)

  -- the delays solved here
  pub solved : (m : ℕ) → m ≤ 20 → pos 0 ⋖ at b 0 → Solves m b q (delays m b q)
  unfolding delay_after past
  solved m h b_pos l k = (half_is e (by_half (r_near.near (S *ℤ at q l -ℤ past p l) (at b 0) b_pos))).half
    where
      p : List ℤ
      p = delays m b q

      regroup : (x : ℤ) → at b 0 *ℤ x -ℤ (S *ℤ at q l -ℤ past p l) ≡ at b 0 *ℤ x +ℤ past p l -ℤ S *ℤ at q l
      regroup x = ring (at b 0 ∷ x ∷ S ∷ at q l ∷ past p l ∷ []) (search form depth 20) tt

      e : at b 0 *ℤ r (S *ℤ at q l -ℤ past p l) (at b 0) -ℤ (S *ℤ at q l -ℤ past p l) ≡ conv (at b) (at p) l -ℤ S *ℤ at q l
      e = rw (conv_is p l) (ap (λ (x : ℤ). at b 0 *ℤ x -ℤ (S *ℤ at q l -ℤ past p l)) (sym (delay_is_lem m l h k)) ∙ regroup (at p l))

-- ---- question 20

-- either way round
turned : (x y c : ℤ) → pos 2 *ℤ ∣ x -ℤ y ∣ ⩽ c → pos 2 *ℤ ∣ y -ℤ x ∣ ⩽ c
turned x y c h = (half_is {y = y -ℤ x} (ring (x ∷ y ∷ []) (search form depth 20) tt) (half_neg (by_half {x = x -ℤ y} {c = c} h))).half

module _ (m : ℕ) (b q p : List ℤ) where
  abbrev all : ℕ → ℤ
  all l = sum (suc l) (λ k. at b k *ℤ at p (l - k))

  -- each line is solved where the theorems' condition holds, and only there
  pub solves_so : every m (solves_at b q p) ≡ true → Solves m b q p
  unfolding solves_at conv
  solves_so e l h = turned (S *ℤ at q l) (all l) (at b 0) (le_yes (every_at (solves_at b q p) m l e h))

  pub solves_yes : Solves m b q p → every m (solves_at b q p) ≡ true
  unfolding solves_at conv
  solves_yes solves = every_all (solves_at b q p) m (λ l h. le_z_true (turned (all l) (S *ℤ at q l) (at b 0) (solves l h)))

-- a line looks at the delays up to its own alone
pub same_line : (b q p p' : List ℤ) (l : ℕ) → ((k : ℕ) → k ≤ l → at p k ≡ at p' k) → solves_at b q p l ≡ solves_at b q p' l
unfolding solves_at
same_line b q p p' l same =
    ap (λ (x : ℤ). le_z (pos 2 *ℤ ∣ S *ℤ at q l -ℤ x ∣) (at b 0)) (sum_cong (suc l) (λ k u. ap (λ (x : ℤ). at b k *ℤ x) (same (l - k) (omega arith))))

-- 20, of the first m of delays that pass 12 and solve the system
pub own_accepted : (m : ℕ) (b q p : List ℤ) → m ≤ length p → q12 m p ≡ true → Solves m b q p → q20 m b q (take m p) ≡ true
unfolding q20 q12
own_accepted m b q p h in_range_lem solves =
    rw (eq-eqb _ _ (length-take-le m p h), ranges ∙ in_range_lem, lines ∙ solves_yes m b q p solves)
  where
    here : (k : ℕ) → k < m → at (take m p) k ≡ at p k
    here k l = get_or-take m p k (pos 0) l

    ranges : q12 m (take m p) ≡ q12 m p
    ranges = every_ext _ _ m (λ l u. rw (here l u))

    lines : every m (solves_at b q (take m p)) ≡ every m (solves_at b q p)
    lines = every_ext _ _ m (λ l u. same_line b q (take m p) p l (λ k v. here k (omega arith)))
