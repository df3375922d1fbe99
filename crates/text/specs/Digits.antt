-- Laws of the decimal digits of a number: their two equations, how many there are, and that they
-- read back as the number. Assumes nothing.
use Rattle.std.specs.Prelude.{◌≡◌, refl, List, [], ◌∷◌, ◌++◌, ◌⊎◌, ℕ, zero, suc, ◌+◌, ◌-◌, ◌*◌, ◌/◌, ◌%◌, ◌^◌, ◌≤◌, ◌<◌, length, get_or}
use Rattle.std.proofs.Common.{sym, ap, ◌∙◌, inl, inr, ⊎_elim, pow-suc, not-suc-le-zero, length-append, lt-ltb, le-ltb}
use native.Mathlib.Omega.{arith, not-le}
use Rattle.std.proofs.Math.Nat.{pow-le-pow_right}
use Rattle.std.proofs.Math.Decide.{dec_lt}
use Rattle.std.proofs.Math.ListN.{get_or-append}
use Rattle.model.specs.Calendar.{digits_in, digits, value_from}

-- the last digit
abbrev pub units : ℕ → List ℕ
units n = (48 + n % 10) ∷ []

in_small : (fuel n : ℕ) → n < 10 → digits_in (suc fuel) n ≡ (48 + n) ∷ []
unfolding digits_in
in_small fuel n h = rw (lt-ltb n 10 h, digits_in)

in_large : (fuel n : ℕ) → 10 ≤ n → digits_in (suc fuel) n ≡ digits_in fuel (n / 10) ++ units n
unfolding digits_in
in_large fuel n h = rw (le-ltb n 10 h, digits_in)

small_or_large : (n : ℕ) → (n < 10) ⊎ (10 ≤ n)
small_or_large n = elim (dec_lt n 10) [ yes h ↦ inl h | no h ↦ inr (omega (arith, not-le (suc n) 10 h)) ]

-- more fuel than n says no more
in_fuel : (f g n : ℕ) → n < f → n < g → digits_in f n ≡ digits_in g n
in_fuel zero g n h k = absurd (not-suc-le-zero h)
in_fuel (suc f) zero n h k = absurd (not-suc-le-zero k)
in_fuel (suc f) (suc g) n h k =
    ⊎_elim
    (λ s. in_small f n s ∙ sym (in_small g n s))
    (λ l. in_large f n l ∙ ap (λ (t : List ℕ). t ++ units n) (in_fuel f g (n / 10) (omega arith) (omega arith)) ∙ sym (in_large g n l))
    (small_or_large n)

-- ---- the two equations of digits

pub digits_small : (n : ℕ) → n < 10 → digits n ≡ (48 + n) ∷ []
unfolding digits
digits_small n h = in_small n n h

pub digits_large : (n : ℕ) → 10 ≤ n → digits n ≡ digits (n / 10) ++ units n
unfolding digits
digits_large n h = in_large n n h ∙ ap (λ (t : List ℕ). t ++ units n) (in_fuel n (suc (n / 10)) (n / 10) (omega arith) (omega arith))

-- induction along the digits: what holds of one digit, and of n where it holds of n / 10, holds of
-- every number
pub digits_ind : (P : ℕ → Type 0) → ((n : ℕ) → n < 10 → P n) → ((n : ℕ) → 10 ≤ n → P (n / 10) → P n) → (n : ℕ) → P n
digits_ind P one more n = go (suc n) n (omega arith)
  where
    go : (fuel n : ℕ) → n < fuel → P n
    go zero n h = absurd (not-suc-le-zero h)
    go (suc f) n h = ⊎_elim (one n) (λ l. more n l (go f (n / 10) (omega arith))) (small_or_large n)

-- ---- how many digits

pub length_small : (n : ℕ) → n < 10 → length (digits n) ≡ 1
length_small n h = ap length (digits_small n h)

pub length_large : (n : ℕ) → 10 ≤ n → length (digits n) ≡ length (digits (n / 10)) + 1
length_large n h = ap length (digits_large n h) ∙ length-append (digits (n / 10)) (units n)

-- a number below 10^(k+1) has at most k + 1 digits
pub digits_length : (k n : ℕ) → n < 10 ^ suc k → length (digits n) ≤ suc k
digits_length zero n h = omega (arith, length_small n (omega arith))
digits_length (suc j) n h =
    ⊎_elim
    (λ s. omega (arith, length_small n s))
    (λ l.
    let q : n / 10 < 10 ^ suc j = omega (arith, pow-suc 10 (suc j)) in
    omega (arith, length_large n l, digits_length j (n / 10) q))
    (small_or_large n)

-- a number from 10^k on has more than k digits
more_digits : (k n : ℕ) → 10 ^ k ≤ n → k < length (digits n)
more_digits zero n h = ⊎_elim (λ s. omega (arith, length_small n s)) (λ l. omega (arith, length_large n l)) (small_or_large n)
more_digits (suc j) n h =
    let p : 10 ^ suc j ≡ 10 ^ j * 10 = pow-suc 10 j in
    let q : 10 ^ j ≤ n / 10 = omega arith in
    let l : 1 ≤ 10 ^ j = pow-le-pow_right {n = 10} (omega arith) {i = 0} {j = j} (omega arith) in
    omega (arith, length_large n (omega arith), more_digits j (n / 10) q)

pub digits_count : (k n : ℕ) → 10 ^ k ≤ n → n < 10 * 10 ^ k → length (digits n) ≡ k + 1
digits_count k n h l =
    let p : 10 ^ suc k ≡ 10 ^ k * 10 = pow-suc 10 k in
    omega (arith, more_digits k n h, digits_length k n (omega arith))

-- ---- reading back

value_append : (v : ℕ) (a b : List ℕ) → value_from v (a ++ b) ≡ value_from (value_from v a) b
unfolding value_from
value_append v [] b = refl
value_append v (x ∷ a) b = value_append (v * 10 + (x - 48)) a b

value_one : (n : ℕ) → n < 10 → value_from 0 (digits n) ≡ n
unfolding value_from
value_one n h = rw (digits_small n h) (omega arith)

value_more : (n : ℕ) → 10 ≤ n → value_from 0 (digits (n / 10)) ≡ n / 10 → value_from 0 (digits n) ≡ n
unfolding value_from
value_more n h e = rw (digits_large n h, value_append 0 (digits (n / 10)) (units n), e) (omega arith)

pub value_digits : (n : ℕ) → value_from 0 (digits n) ≡ n
value_digits n = digits_ind (λ m. value_from 0 (digits m) ≡ m) value_one value_more n

-- there is a digit, the first is a digit, and it is 0 only in the number 0
pub record Leads (n : ℕ) : Type 0 where
  pub some : 0 < length (digits n)
  pub digit : 48 ≤ get_or (digits n) 0 0
  pub nonzero : 0 < n → 49 ≤ get_or (digits n) 0 0

leads_one : (n : ℕ) → n < 10 → Leads n
leads_one n h =
    let e = digits_small n h in
    record { some = rw e (omega arith); digit = rw e (omega arith); nonzero = λ k. rw e (omega arith) }

leads_more : (n : ℕ) → 10 ≤ n → Leads (n / 10) → Leads n
leads_more n h before =
    let first : get_or (digits n) 0 0 ≡ get_or (digits (n / 10)) 0 0 =
    ap (λ (l : List ℕ). get_or l 0 0) (digits_large n h) ∙ get_or-append (digits (n / 10)) (units n) 0 0 before.some in
    let z : 49 ≤ get_or (digits (n / 10)) 0 0 = before.nonzero (omega arith) in
    record { some = omega (arith, length_large n h); digit = omega arith; nonzero = λ k. omega arith }

pub leads : (n : ℕ) → Leads n
leads n = digits_ind Leads leads_one leads_more n
