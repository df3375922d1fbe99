-- Laws of TallyAdd: when a sum of two signed 64-bit numbers is one, by the difference of one of
-- them and the end of the range, and the tally in each case. Assumes nothing.
use Rattle.std.specs.Prelude.{◌≡◌, refl, Bool, true, false, ◌⊎◌, ℕ, zero, suc, ◌+◌, ◌-◌, ◌^◌, ◌<◌, ◌≤◌, leb, ltb, ℤ, pos, negsuc, ◌+ℤ◌, ◌-ℤ◌, get_or, set}
use Rattle.std.proofs.Common.{sym, ◌∙◌, ⊎_elim, inl, inr, arith, SFits, ltb-true, ltb-false, lt-ltb, le-ltb, le-leb}
use Rattle.std.proofs.Math.IntN.{sub_ℕ}
use Rattle.std.specs.Int.Signed.{le_z, lt_z}
use Rattle.std.specs.Int.{w64}
use Rattle.std.proofs.lemmas.Bool.{lt-leb}
use denote.Floats.{passes}
use Rattle.year_tally.specs.TallyAdd.{fits64, tally_add}
use Rattle.year_tally.specs.declared.Tally.{Tally}

by_bool : (a b : ℕ) (t : Bool) → ltb a b ≡ t → (a < b) ⊎ (b ≤ a)
by_bool a b true e = inl (ltb-true a b e)
by_bool a b false e = inr (ltb-false a b e)

pub lt_or_ge : (a b : ℕ) → (a < b) ⊎ (b ≤ a)
lt_or_ge a b = by_bool a b (ltb a b) refl

pub sub_lt : (a b : ℕ) → a < b → sub_ℕ a b ≡ negsuc (b - suc a)
sub_lt a b h = rw (lt-ltb a b h)

pub sub_ge : (a b : ℕ) → b ≤ a → sub_ℕ a b ≡ pos (a - b)
sub_ge a b h = rw (le-ltb a b h)

-- two tests that pass together are equal
pub leb_ltb : (a b c d : ℕ) → (a ≤ b → c < d) → (c < d → a ≤ b) → leb a b ≡ ltb c d
leb_ltb a b c d f g =
    ⊎_elim (λ h. lt-leb a b h ∙ sym (le-ltb c d (⊎_elim (λ l. let w : a ≤ b = g l in omega arith) (λ l. l) (lt_or_ge c d))))
    (λ h. le-leb a b h ∙ sym (lt-ltb c d (f h))) (lt_or_ge b a)

pub fits_so : (z : ℤ) → fits64 z ≡ true → SFits w64 z
unfolding fits64
fits_so (pos n) e = record { sfits = ltb-true n (2 ^ 63) e }
fits_so (negsuc n) e = record { sfits = ltb-true n (2 ^ 63) e }

pub so_fits : (z : ℤ) → SFits w64 z → fits64 z ≡ true
unfolding fits64
so_fits (pos n) h = lt-ltb n (2 ^ 63) h.sfits
so_fits (negsuc n) h = lt-ltb n (2 ^ 63) h.sfits

abbrev pub lowest : ℤ
lowest = negsuc (2 ^ 63 - 1)

abbrev pub highest : ℤ
highest = pos (2 ^ 63 - 1)

-- a difference of two numbers below 2 ^ 63 fits
sub_fits : (a b : ℕ) → a < 2 ^ 63 → b ≤ 2 ^ 63 → SFits w64 (sub_ℕ a b)
sub_fits a b ha hb =
    ⊎_elim (λ l. rw (sub_lt a b l) (record { sfits = omega arith })) (λ l. rw (sub_ge a b l) (record { sfits = omega arith })) (lt_or_ge a b)

low_nat : (k : ℕ) → k < 2 ^ 63 → SFits w64 (sub_ℕ (suc k) (2 ^ 63))
low_nat k h =
    ⊎_elim (λ l. rw (sub_lt (suc k) (2 ^ 63) l) (record { sfits = omega arith })) (λ l. rw (sub_ge (suc k) (2 ^ 63) l) (record { sfits = omega arith }))
    (lt_or_ge (suc k) (2 ^ 63))

low_is : (a : ℤ) (k : ℕ) → SFits w64 a → k < 2 ^ 63 → le_z (sub_ℕ (suc k) (2 ^ 63)) a ≡ fits64 (a +ℤ negsuc k)
unfolding fits64
low_is (pos n) k ha h =
    ⊎_elim (λ l. rw (sub_lt (suc k) (2 ^ 63) l) (sym (so_fits (sub_ℕ n (suc k)) (sub_fits n (suc k) ha.sfits h))))
    (λ l. rw (sub_ge (suc k) (2 ^ 63) l) (le-leb (suc k - 2 ^ 63) n (omega arith) ∙ sym (so_fits (sub_ℕ n (suc k)) (sub_fits n (suc k) ha.sfits h))))
    (lt_or_ge (suc k) (2 ^ 63))
low_is (negsuc n) k ha h =
    ⊎_elim (λ l. rw (sub_lt (suc k) (2 ^ 63) l) (leb_ltb n (2 ^ 63 - suc (suc k)) (suc (n + k)) (2 ^ 63) (λ p. omega arith) (λ p. omega arith)))
    (λ l. rw (sub_ge (suc k) (2 ^ 63) l) (sym (le-ltb (suc (n + k)) (2 ^ 63) (omega arith))))
    (lt_or_ge (suc k) (2 ^ 63))

high_is : (a : ℤ) (k : ℕ) → SFits w64 a → k < 2 ^ 63 → le_z a (pos (2 ^ 63 - 1 - k)) ≡ fits64 (a +ℤ pos k)
unfolding fits64
high_is (pos n) k ha h = leb_ltb n (2 ^ 63 - 1 - k) (n + k) (2 ^ 63) (λ p. omega arith) (λ p. omega arith)
high_is (negsuc n) k ha h = sym (so_fits (sub_ℕ k (suc n)) (sub_fits k (suc n) h ha.sfits))

high_sub_is : (k : ℕ) → k < 2 ^ 63 → highest -ℤ pos k ≡ pos (2 ^ 63 - 1 - k)
high_sub_is zero h = refl
high_sub_is (suc k) h = sub_ge (2 ^ 63 - 1) (suc k) (omega arith)

pub low_sub : (b : ℤ) → lt_z b (pos 0) ≡ true → SFits w64 b → SFits w64 (lowest -ℤ b)
low_sub (pos k) e h = let l : k < 0 = ltb-true k 0 e in omega arith
low_sub (negsuc k) e h = low_nat k h.sfits

pub low_test : (a b : ℤ) → lt_z b (pos 0) ≡ true → SFits w64 a → SFits w64 b → le_z (lowest -ℤ b) a ≡ fits64 (a +ℤ b)
low_test a (pos k) e ha h = let l : k < 0 = ltb-true k 0 e in absurd (let z : ⊥ = omega arith in z)
low_test a (negsuc k) e ha h = low_is a k ha h.sfits

pub high_sub : (b : ℤ) → lt_z b (pos 0) ≡ false → SFits w64 b → SFits w64 (highest -ℤ b)
high_sub (pos k) e h = rw (high_sub_is k h.sfits) (record { sfits = omega arith })
high_sub (negsuc k) e h = absurd (passes false (sym e))

pub high_test : (a b : ℤ) → lt_z b (pos 0) ≡ false → SFits w64 a → SFits w64 b → le_z a (highest -ℤ b) ≡ fits64 (a +ℤ b)
high_test a (pos k) e ha h = rw (high_sub_is k h.sfits) (high_is a k ha h.sfits)
high_test a (negsuc k) e ha h = absurd (passes false (sym e))

by_fits : (z : ℤ) (t : Bool) → fits64 z ≡ t → (SFits w64 z → ⊥) → fits64 z ≡ false
by_fits z true e none = absurd (none (fits_so z e))
by_fits z false e none = e

pub no_fits : (z : ℤ) → (SFits w64 z → ⊥) → fits64 z ≡ false
no_fits z none = by_fits z (fits64 z) refl none

-- ---- the cases of a tally with a cell added

module _ (t : Tally) (year : ℕ) (x y : ℤ) where
  pub year_low : year < 1 → t ≡ tally_add t year x y
  unfolding tally_add
  year_low h = rw (lt-leb 1 year h)

  pub year_high : 1 ≤ year → 38 < year → t ≡ tally_add t year x y
  unfolding tally_add
  year_high l h = rw (le-leb 1 year l, lt-leb year 38 h)

  module _ (low : 1 ≤ year) (high : year ≤ 38) where
    abbrev a : ℤ
    a = get_or t.rbns (year - 1) (pos 0) +ℤ x

    abbrev b : ℤ
    b = get_or t.ibnr (year - 1) (pos 0) +ℤ y

    pub rbns_past : (SFits w64 a → ⊥) → t ≡ tally_add t year x y
    unfolding tally_add
    rbns_past none = rw (le-leb 1 year low, le-leb year 38 high, no_fits a none)

    pub ibnr_past : SFits w64 a → (SFits w64 b → ⊥) → t ≡ tally_add t year x y
    unfolding tally_add
    ibnr_past f none = rw (le-leb 1 year low, le-leb year 38 high, so_fits a f, no_fits b none)

    pub both_fit : SFits w64 a → SFits w64 b → record { rbns = set t.rbns (year - 1) a; ibnr = set t.ibnr (year - 1) b } ≡ tally_add t year x y
    unfolding tally_add
    both_fit f g = rw (le-leb 1 year low, le-leb year 38 high, so_fits a f, so_fits b g)
