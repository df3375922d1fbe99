-- Laws of Cells.pairs: the sum over some of the reporting delays. Assumes nothing.
use Rattle.std.specs.Prelude.{◌≡◌, Bool, true, false, ◌&&◌, cond, ◌⊎◌, List, [], ◌∷◌, ℕ, zero, suc, ◌+◌, ◌-◌, ◌*◌, ◌^◌, ◌≤◌, ◌<◌, eqb, ℤ, pos, ◌+ℤ◌, ◌-ℤ◌, ◌*ℤ◌}
use Rattle.std.proofs.Math.Path.{refl}
use Rattle.std.proofs.Common.{sym, ◌∙◌, ap, ⊎_elim, mul_comm}
use Rattle.std.proofs.Math.Bool.{and-false}
use Rattle.std.proofs.Math.Nat.{mul-le-mul_left}
use native.Mathlib.Omega.{arith}
use borrow.Author.Tests.{eqb-true, eqb-false, le-leb, lt-leb, le-ltb, lt-ltb, leb-true, leb-false, ltb-true}
use Rattle.std.proofs.Math.Dec.{leb, ltb}
use Rattle.std.proofs.Math.IntN.{nat_abs, +ℤ_idl, +ℤ_idr}
use Rattle.integers.specs.Linear.{lin₀, stmt}
use Rattle.integers.specs.Order.{nat_abs-*ℤ, nat_abs_mono, nat_abs_plus, ≤ℤ_trans}
use Rattle.integers.specs.Sums.{sum, sum_suc, sum_cong, sum_nothing, sum_part, sum_nonneg, sum_dominated, sum-+ℤ}
use Rattle.model.specs.Lists.{at}
use Rattle.model.specs.ListsLaws.{and_right}
use Rattle.model.specs.Cells.{pairs}
use Rattle.model.specs.Tests.{by_test}
use Rattle.cells.specs.Weights.{Weights, Delays}

-- one weight is at most what all are
pub weight_small : (x : List ℤ) → Weights x → (k : ℕ) → k < 20 → nat_abs (at x k) ≤ 10 ^ 9 + 20
weight_small x w k h =
    let a = nat_abs_plus (sum_nonneg k (at x) (λ i l. w.low i (omega arith))) (w.low k h) in
    let b = nat_abs_mono (sum_nonneg (suc k) (at x) (λ i l. w.low i (omega arith))) (≤ℤ_trans (sum_part (suc k) 20 (at x) h w.low) w.sum_high) in
    omega (arith, ap nat_abs (sum_suc k (at x)))

module _ (m j : ℕ) (ok : ℕ → Bool) (x p : List ℤ) where
  -- the term of k: 0 where ok says no, and where j - k is no delay
  unfoldable pub term : ℕ → ℤ
  term k = cond (ok k && leb k j && ltb (j - k) m) (at x k *ℤ at p (j - k)) (pos 0)

  pub pairs_terms : pairs m j ok x p ≡ sum m term
  unfolding pairs term
  pairs_terms = refl

  pub term_in : (k : ℕ) → ok k ≡ true → k ≤ j → j < k + m → term k ≡ at x k *ℤ at p (j - k)
  unfolding term
  term_in k a c d = let e : j - k < m = omega arith in rw (a, le-leb k j c, lt-ltb (j - k) m e)

  pub term_no : (k : ℕ) → ok k ≡ false → term k ≡ pos 0
  unfolding term
  term_no k h = rw h

  -- j - k is past the last delay
  pub term_before : (k : ℕ) → k + m ≤ j → term k ≡ pos 0
  unfolding term
  term_before k h = let e : m ≤ j - k = omega arith in rw (le-ltb (j - k) m e, and-false (ok k && leb k j))

  -- k is past j
  pub term_after : (k : ℕ) → j < k → term k ≡ pos 0
  unfolding term
  term_after k h = rw (lt-leb k j h, and-false (ok k))

  module _ (w : Weights x) (d : Delays p) where
    sizes : (k : ℕ) → k < 20 → (c : Bool) → (ok k && leb k j && ltb (j - k) m) ≡ c → m ≤ 20
        → nat_abs (cond c (at x k *ℤ at p (j - k)) (pos 0)) ≤ 8 * 10 ^ 9 * nat_abs (at x k)
    sizes k l false e few = omega arith
    sizes k l true e few =
        let b : j - k < m = ltb-true (j - k) m (and_right (ok k && leb k j) (ltb (j - k) m) e) in
        let s = mul-le-mul_left (nat_abs (at x k)) (d (j - k) (omega arith)) in
        rw (nat_abs-*ℤ (at x k) (at p (j - k)), mul_comm (8 * 10 ^ 9) (nat_abs (at x k))) s

    -- a sum of the first terms fits 64 bits
    pub sum_small : m ≤ 20 → (n : ℕ) → n ≤ 20 → nat_abs (sum n term) ≤ 8 * 10 ^ 9 * (10 ^ 9 + 20)
    unfolding term
    sum_small few n l =
        let a = sum_dominated n (8 * 10 ^ 9) term (at x) (λ k u. w.low k (omega arith)) (λ k u. sizes k (omega arith) (ok k && leb k j && ltb (j - k) m) refl few) in
        let b = nat_abs_mono (sum_nonneg n (at x) (λ k u. w.low k (omega arith))) (sum_part n 20 (at x) l w.low) in
        let c = nat_abs_mono (sum_nonneg 20 (at x) w.low) w.sum_high in
        let e : nat_abs (sum n (at x)) ≤ 10 ^ 9 + 20 = omega arith in
        let f = mul-le-mul_left (8 * 10 ^ 9) e in
        omega arith

    pub pairs_small : m ≤ 20 → nat_abs (pairs m j ok x p) ≤ 9 * 10 ^ 18
    pairs_small few = rw pairs_terms (omega (arith, sum_small few m few))

-- terms that differ at c alone, where those of g are 0
sum_but_one : (n c : ℕ) (f g : ℕ → ℤ) → c < n → g c ≡ pos 0 → ((k : ℕ) → (k ≡ c → ⊥) → f k ≡ g k) → sum n f ≡ sum n g +ℤ f c
sum_but_one zero c f g h z same = absurd (let k : ⊥ = omega arith in k)
sum_but_one (suc n) c f g h z same =
    by_test (eqb c n)
    (λ e. let d : c ≡ n = eqb-true c n e in
    rw (sum_suc n f, sum_suc n g, ← d, z, sum_cong c (λ k l. same k (λ y. omega arith))) (lin₀ (sum c g ∷ f c ∷ []) (search stmt) (omega arith)))
    (λ e. let d = eqb-false c n e in
    rw (sum_suc n f, sum_suc n g, same n (λ y. d (sym y)), sum_but_one n c f g (omega arith) z same) (lin₀ (sum n g ∷ f c ∷ g n ∷ []) (search stmt) (omega arith)))

-- ---- the reporting delays from c on
module _ (m j : ℕ) (x p : List ℤ) where
  abbrev from : ℕ → ℕ → ℤ
  from c = term m j (leb c) x p

  -- one delay more changes the term of that delay alone
  other_terms : (c k : ℕ) → (k ≡ c → ⊥) → from c k ≡ from (suc c) k
  unfolding term
  other_terms c k n =
      by_test (leb (suc c) k) (λ e. let h = leb-true (suc c) k e in rw (e, le-leb c k (omega arith)))
      (λ e. let h = leb-false (suc c) k e in rw (e, lt-leb c k (omega arith)))

  without : (c : ℕ) → from (suc c) c ≡ pos 0
  without c = term_no m j (leb (suc c)) x p c (lt-leb (suc c) c (omega arith))

  pub one_more : (c : ℕ) → c < m → c ≤ j → j < c + m → pairs m j (leb c) x p ≡ pairs m j (leb (suc c)) x p +ℤ at x c *ℤ at p (j - c)
  one_more c h a b =
      rw (pairs_terms m j (leb c) x p, pairs_terms m j (leb (suc c)) x p)
      (sum_but_one m c (from c) (from (suc c)) h (without c) (other_terms c)
      ∙ ap (λ (z : ℤ). sum m (from (suc c)) +ℤ z) (term_in m j (leb c) x p c (le-leb c c (omega arith)) a b))

  pub no_more : (c : ℕ) → (j < c) ⊎ (c + m ≤ j) → pairs m j (leb c) x p ≡ pairs m j (leb (suc c)) x p
  no_more c o = rw (pairs_terms m j (leb c) x p, pairs_terms m j (leb (suc c)) x p) (sum_cong m (λ k l. by_test (eqb k c) (λ e. rw (eqb-true k c e) (nothing ∙ sym (without c))) (λ e. other_terms c k (eqb-false k c e))))
    where
      nothing : from c c ≡ pos 0
      nothing = ⊎_elim (term_after m j (leb c) x p c) (term_before m j (leb c) x p c) o

  pub none_left : pairs m j (leb m) x p ≡ pos 0
  none_left = pairs_terms m j (leb m) x p ∙ sum_nothing m (λ k l. term_no m j (leb m) x p k (lt-leb m k l))

  -- the delays up to n are all delays but the later ones
  up_or_later : (n k : ℕ) → from 0 k ≡ term m j (λ k. leb k n) x p k +ℤ from (n + 1) k
  unfolding term
  up_or_later n k =
      by_test (leb k n) (λ e. let h = leb-true k n e in rw (le-leb 0 k (omega arith), e, lt-leb (n + 1) k (omega arith)) (sym (+ℤ_idr _)))
      (λ e. let h = leb-false k n e in rw (le-leb 0 k (omega arith), e, le-leb (n + 1) k (omega arith)) (sym (+ℤ_idl _)))

  pub less_later : (n : ℕ) → pairs m j (λ k. leb k n) x p ≡ pairs m j (leb 0) x p -ℤ pairs m j (leb (n + 1)) x p
  less_later n =
      let a = sum m (term m j (λ k. leb k n) x p) in
      let b = sum m (from (n + 1)) in
      let e : sum m (from 0) ≡ a +ℤ b = sum_cong m (λ k l. up_or_later n k) ∙ sum-+ℤ m (term m j (λ k. leb k n) x p) (from (n + 1)) in
      rw (pairs_terms m j (λ k. leb k n) x p, pairs_terms m j (leb 0) x p, pairs_terms m j (leb (n + 1)) x p, e)
      (lin₀ (a ∷ b ∷ []) (search stmt) (omega arith))
