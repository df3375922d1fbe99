-- Values in the ranges of question 5. Assumes nothing.
use Rattle.std.specs.Prelude.{ℕ, ◌-◌, ◌^◌, ◌≤◌, ◌≡◌, true, cond, ltb, eqb, ℤ, pos, negsuc}
use Rattle.std.proofs.Common.{arith, leb-true, SFits}
use Rattle.std.proofs.lemmas.Bool.{false≢true}
use Rattle.std.specs.Int.Signed.{le_z}
use Rattle.std.specs.Int.{w64}
use Rattle.model.specs.ListsLaws.{and_left, and_right}
use Rattle.model.specs.Records.{in_range}
use Rattle.model.specs.Tests.{by_test}

-- a value in range fits 64 bits
pub range_fits : (t : ℕ) (v : ℤ) → in_range t v ≡ true → SFits w64 v
unfolding in_range
range_fits t (pos n) e =
    let h = leb-true n (cond (eqb t 0) (10 ^ 7) (10 ^ 10)) (and_right (le_z (cond (ltb t 2) (pos 0) (negsuc (10 ^ 10 - 1))) (pos n)) _ e) in
    by_test (eqb t 0) (λ y. let l : n ≤ 10 ^ 7 = rw y at h in record { sfits = omega arith })
    (λ y. let l : n ≤ 10 ^ 10 = rw y at h in record { sfits = omega arith })
range_fits t (negsuc n) e =
    let h = and_left (le_z (cond (ltb t 2) (pos 0) (negsuc (10 ^ 10 - 1))) (negsuc n)) _ e in
    by_test (ltb t 2) (λ y. absurd (false≢true (rw y at h))) (λ y. let l = leb-true n (10 ^ 10 - 1) (rw y at h) in record { sfits = omega arith })
