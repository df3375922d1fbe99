-- From a quotient to the nearest number. Assumes nothing.
use Rattle.std.specs.Prelude.{◌≡◌, refl, true, false, cond, [], ◌∷◌, ℕ, zero, suc, ◌%◌, ◌≤◌, ℤ, pos, neg_ℤ, nat_abs, ◌+ℤ◌, ◌-ℤ◌, ◌*ℤ◌}
use Rattle.std.proofs.Common.{sym, ap, ◌∙◌, arith}
use Rattle.std.specs.Int.Signed.{lt_z}
use Rattle.integers.specs.Parts.{◌⩽◌, ◌⋖◌, add_parts, abs_parts, lt_parts}
use Rattle.integers.specs.Solver.{ring, form}
use Rattle.integers.specs.Linear.{◌&◌}
use Rattle.integers.specs.Monomials.{nlin, nstmt}
use Rattle.integers.specs.Order.{lt_yes, lt_no, ≤ℤ_antisym, nat_abs-neg_ℤ}
use Rattle.model.specs.Rounding.{r}
use Rattle.model.specs.Tests.{by_test}
use Rattle.rounding.specs.RoundingLaws.{r_mirror, r_quotient, r_even}

-- how many numbers on, with so much left above q and so much missing to the next number: none where
-- less is left, one where more, and at a half one where q is odd
abbrev pub step_of : ℤ → ℤ → ℤ → ℤ
step_of q left missing = cond (lt_z left missing) (pos 0) (cond (lt_z missing left) (pos 1) (pos (nat_abs q % 2)))

pub step_less : (q left missing : ℤ) → lt_z left missing ≡ true → step_of q left missing ≡ pos 0
step_less q left missing h = rw h

pub step_more : (q left missing : ℤ) → lt_z left missing ≡ false → (left ≡ missing → ⊥) → step_of q left missing ≡ pos 1
step_more q left missing h d =
    by_test (lt_z missing left) (λ e. rw (h, e))
    (λ e. absurd (d (≤ℤ_antisym (lt_no {a = missing} {b = left} e) (lt_no {a = left} {b = missing} h))))

pub step_half : (q x : ℤ) → step_of q x x ≡ pos (nat_abs q % 2)
step_half q x = by_test (lt_z x x) (λ e. absurd (omega (arith, lt_parts (lt_yes {a = x} {b = x} e)))) (λ e. rw e)

pub step_most : (q left missing : ℤ) → nat_abs (step_of q left missing) ≤ 1
step_most q left missing =
    by_test (lt_z left missing) (λ e. rw e (omega arith))
    (λ e. by_test (lt_z missing left) (λ f. rw (e, f) (omega arith)) (λ f. rw (e, f) (omega arith)))

odd_next : (q : ℤ) → nat_abs q % 2 ≡ 1 → nat_abs (q +ℤ pos 1) % 2 ≡ 0
odd_next q h = omega (arith, add_parts q (pos 1), abs_parts q, abs_parts (q +ℤ pos 1))

-- with c from 0 up left above q times b
pub r_step : (q c b : ℤ) → pos 0 ⋖ b → pos 0 ⩽ c → c ⋖ b → q +ℤ step_of q c (b -ℤ c) ≡ r (q *ℤ b +ℤ c) b
r_step q c b h l u =
    by_test (lt_z c (b -ℤ c))
    (λ e. rw e (same ∙ sym (r_quotient q c b h (nlin (c ∷ b ∷ []) (l & h) (search nstmt depth 20) (omega arith)) (nlin (c ∷ b ∷ []) (lt_yes {a = c} {b = b -ℤ c} e) (search nstmt depth 20) (omega arith)))))
    (λ e. by_test (lt_z (b -ℤ c) c)
    (λ f. rw (e, f) (sym (next ∙ r_quotient (q +ℤ pos 1) (c -ℤ b) b h (nlin (c ∷ b ∷ []) (lt_yes {a = b -ℤ c} {b = c} f) (search nstmt depth 20) (omega arith)) (nlin (c ∷ b ∷ []) (u & h) (search nstmt depth 20) (omega arith)))))
    (λ f. rw (e, f) (half (lt_no {a = c} {b = b -ℤ c} e) (lt_no {a = b -ℤ c} {b = c} f))))
  where
    same : q +ℤ pos 0 ≡ q
    same = ring (q ∷ []) (search form depth 20) tt

    next : r (q *ℤ b +ℤ c) b ≡ r ((q +ℤ pos 1) *ℤ b +ℤ (c -ℤ b)) b
    next = ap (λ (z : ℤ). r z b) (ring (q ∷ c ∷ b ∷ []) (search form depth 20) tt)

    half : b -ℤ c ⩽ c → c ⩽ b -ℤ c → q +ℤ pos (nat_abs q % 2) ≡ r (q *ℤ b +ℤ c) b
    half f g = go (nat_abs q % 2) refl (omega arith)
      where
        go : (n : ℕ) → nat_abs q % 2 ≡ n → n ≤ 1 → q +ℤ pos n ≡ r (q *ℤ b +ℤ c) b
        go zero e t = same ∙ sym (r_even q c b h e (nlin (c ∷ b ∷ []) (l & h) (search nstmt depth 20) (omega arith)) (nlin (c ∷ b ∷ []) g (search nstmt depth 20) (omega arith)))
        go (suc zero) e t = sym (next ∙ r_even (q +ℤ pos 1) (c -ℤ b) b h (odd_next q e) (nlin (c ∷ b ∷ []) f (search nstmt depth 20) (omega arith)) (nlin (c ∷ b ∷ []) (u & h) (search nstmt depth 20) (omega arith)))
        go (suc (suc n)) e t = absurd (omega arith)

-- and with c below 0, by the sign
pub r_step_down : (q c b : ℤ) → pos 0 ⋖ b → c ⋖ pos 0 → neg_ℤ b ⋖ c → q -ℤ step_of q (pos 0 -ℤ c) (b +ℤ c) ≡ r (q *ℤ b +ℤ c) b
r_step_down q c b h l u =
    let left : pos 0 -ℤ c ≡ neg_ℤ c = ring (c ∷ []) (search form depth 20) tt in
    let missing : b +ℤ c ≡ b -ℤ neg_ℤ c = ring (c ∷ b ∷ []) (search form depth 20) tt in
    let n = r_step (neg_ℤ q) (neg_ℤ c) b h (nlin (c ∷ []) l (search nstmt depth 20) (omega arith)) (nlin (c ∷ b ∷ []) u (search nstmt depth 20) (omega arith)) in
    rw (left, missing) (turned (step_of q (neg_ℤ c) (b -ℤ neg_ℤ c)) ∙ ap neg_ℤ (rw nat_abs-neg_ℤ at n) ∙ sym (r_mirror q c b h))
  where
    turned : (k : ℤ) → q -ℤ k ≡ neg_ℤ (neg_ℤ q +ℤ k)
    turned k = ring (q ∷ k ∷ []) (search form depth 20) tt
