-- The answer of a function that hands a number back only up to a cap. Assumes nothing.
use Rattle.std.specs.Prelude.{◌≡◌, cond, ℕ, ◌≤◌, ◌<◌, leb, ℤ, nat_abs, Option, Some, None}
use Rattle.std.proofs.Common.{leb-true, leb-false, le-leb}
use Rattle.std.proofs.lemmas.Bool.{lt-leb}
use Rattle.model.specs.Tests.{by_test}

-- z, if its magnitude is at most cap
unfoldable pub capped : ℕ → ℤ → Option ℤ
capped cap z = cond (leb (nat_abs z) cap) (Some z) None

pub capped_within : (cap : ℕ) (z : ℤ) → nat_abs z ≤ cap → capped cap z ≡ Some z
unfolding capped
capped_within cap z h = rw (le-leb (nat_abs z) cap h)

pub capped_over : (cap : ℕ) (z : ℤ) → cap < nat_abs z → capped cap z ≡ None
unfolding capped
capped_over cap z h = rw (lt-leb (nat_abs z) cap h)

-- what each answer says of z
pub within_is : (cap : ℕ) (z k : ℤ) → capped cap z ≡ Some k → (z ≡ k) × (nat_abs z ≤ cap)
unfolding capped
within_is cap z k e =
    by_test (leb (nat_abs z) cap) (λ t. let w : Some z ≡ Some k = rw t at e in (cc, leb-true (nat_abs z) cap t))
    (λ t. let w : None ≡ Some k = rw t at e in cc)

pub over_is : (cap : ℕ) (z : ℤ) → capped cap z ≡ None → cap < nat_abs z
unfolding capped
over_is cap z e =
    by_test (leb (nat_abs z) cap) (λ t. let w : Some z ≡ None = rw t at e in absurd cc) (λ t. leb-false (nat_abs z) cap t)
