-- Laws of sums_from: the sums over the reporting delays after k, and what they become as each
-- payment delay l adds b(k) × p(l). Assumes nothing.
use Rattle.std.specs.Prelude.{◌≡◌, refl, Bool, true, false, ◌&&◌, cond, ◌⊎◌, List, leb, ltb, ℤ, pos, nat_abs, ◌+ℤ◌, ◌-ℤ◌, ◌*ℤ◌, set, replicate}
use Rattle.std.proofs.Math.Path.{sym, ap}
use Rattle.std.proofs.Common.{◌∙◌, le-leb, le-ltb, lt-ltb, leb-true, leb-false, ltb-true, ltb-false}
use Rattle.std.proofs.Math.Bool.{and-false}
use Rattle.std.proofs.Math.Logic.{⊎_elim, inl, inr}
use Prim.Native.Nat.{ℕ, suc, ◌+◌, ◌-◌, ◌*◌, ◌^◌, ◌≤◌, ◌<◌}
use native.Mathlib.Omega.{arith}
use Rattle.std.proofs.lemmas.Bool.{lt-leb}
use Rattle.model.specs.Lists.{at, tabulate, listed}
use Rattle.model.specs.ListsLaws.{get_d_tabulate, tabulate_ext, set_tabulate, listed_none}
use Rattle.model.specs.Cells.{pairs}
use Rattle.cells.specs.Weights.{Weights, Delays, Summed}
use Rattle.cells.specs.CellOf.{Year, sums_from}
use Rattle.cells.specs.PairLaws.{one_more, no_more, none_left, less_later, pairs_small}

-- no reporting delay is left
pub no_sums : (m : ℕ) (b p : List ℤ) → replicate 39 (pos 0) ≡ sums_from m m b p
unfolding sums_from listed
no_sums m b p =
    listed_none 39 (λ _. pos 0) (pos 0)
    ∙ tabulate_ext 39 (λ k. cond (ltb k 0) (pos 0) (pos 0)) (λ j. pairs m j (leb m) b p) (λ j h. rw (le-ltb j 0 (omega arith)) (sym (none_left m j b p)))

pub sum_at : (m c : ℕ) (b p : List ℤ) (j : ℕ) → j < 39 → at (sums_from m c b p) j ≡ pairs m j (leb c) b p
unfolding sums_from
sum_at m c b p j h = get_d_tabulate 39 (λ j. pairs m j (leb c) b p) j (pos 0) h

pub sums_fit : (m c : ℕ) (b p : List ℤ) → m ≤ 20 → Weights b → Delays p → Summed (sums_from m c b p)
sums_fit m c b p few w d j h = rw (sum_at m c b p j h) (pairs_small m j (leb c) b p w d few)

-- the reported claims of a year
module _ {m i basis : ℕ} {whole u s p : List ℤ} (year : Year m i basis whole u s p) (j : ℕ) where
  pub reported_small : nat_abs (pairs m j (λ k. leb k (m - i)) s p) ≤ 9 * 10 ^ 18
  reported_small = pairs_small m j (λ k. leb k (m - i)) s p year.weights year.delays year.few

  -- under basis 1
  pub whole_less_later : basis ≡ 1 → j < 39 → at whole j -ℤ at u j ≡ pairs m j (λ k. leb k (m - i)) s p
  whole_less_later b h =
      rw (year.whole_is b, year.later_is b, sum_at m 0 s p j h, sum_at m (m - i + 1) s p j h) (sym (less_later m j s p (m - i)))

module _ (m k : ℕ) (b p : List ℤ) where
  -- place j after the payment delays below l
  abbrev mixed : ℕ → ℕ → ℤ
  mixed l j = cond (leb k j && ltb j (k + l)) (pairs m j (leb k) b p) (pairs m j (leb (k + 1)) b p)

  unfoldable pub partly : ℕ → List ℤ
  partly l = tabulate 39 (mixed l)

  inside : (l j : ℕ) → k ≤ j → j < k + l → mixed l j ≡ pairs m j (leb k) b p
  inside l j h u = rw (le-leb k j h, lt-ltb j (k + l) u)

  outside : (l j : ℕ) → (j < k) ⊎ (k + l ≤ j) → mixed l j ≡ pairs m j (leb (k + 1)) b p
  outside l j (inl h) = rw (lt-leb k j h)
  outside l j (inr h) = rw (le-ltb j (k + l) h, and-false (leb k j))

  places : (l j : ℕ) → ((k ≤ j) × (j < k + l)) ⊎ ((j < k) ⊎ (k + l ≤ j))
  places l j = go (leb k j) refl (ltb j (k + l)) refl
    where
      go : (s : Bool) → leb k j ≡ s → (t : Bool) → ltb j (k + l) ≡ t → ((k ≤ j) × (j < k + l)) ⊎ ((j < k) ⊎ (k + l ≤ j))
      go true e true u = inl (leb-true k j e, ltb-true j (k + l) u)
      go true e false u = inr (inr (ltb-false j (k + l) u))
      go false e t u = inr (inl (leb-false k j e))

  pub start : sums_from m (k + 1) b p ≡ partly 0
  unfolding sums_from partly
  start = tabulate_ext 39 (λ j. pairs m j (leb (k + 1)) b p) (mixed 0) (λ j h. ⊎_elim (λ y. absurd (let z : ⊥ = omega arith in z)) (λ o. sym (outside 0 j o)) (places 0 j))

  module _ (l : ℕ) (h : l < m) (few : k + l < 39) (k<m : k < m) where
    pub here : at (partly l) (k + l) ≡ pairs m (k + l) (leb (k + 1)) b p
    unfolding partly
    here = get_d_tabulate 39 (mixed l) (k + l) (pos 0) few ∙ outside l (k + l) (inr (omega arith))

    pub added : at (partly l) (k + l) +ℤ at b k *ℤ at p l ≡ pairs m (k + l) (leb k) b p
    added =
        let e : k + l - k ≡ l = omega arith in
        let f : k + 1 ≡ suc k = omega arith in
        rw (here, f) (sym (one_more m (k + l) b p k k<m (omega arith) (omega arith) ∙ rw e))

    pub next : set (partly l) (k + l) (at (partly l) (k + l) +ℤ at b k *ℤ at p l) ≡ partly (l + 1)
    unfolding partly
    next =
        ap (set (partly l) (k + l)) (added ∙ sym (inside (l + 1) (k + l) (omega arith) (omega arith)))
        ∙ set_tabulate 39 (k + l) (mixed l) (mixed (l + 1)) few
        (λ j n. ⊎_elim (λ y. inside (l + 1) j y.0 (omega arith) ∙ sym (inside l j y.0 y.1)) (λ o. outside (l + 1) j (⊎_elim inl (λ a. inr (omega arith)) o) ∙ sym (outside l j o)) (places l j))

  pub all : partly m ≡ sums_from m k b p
  unfolding sums_from partly
  all = tabulate_ext 39 (mixed m) (λ j. pairs m j (leb k) b p) (λ j h. ⊎_elim (λ y. inside m j y.0 y.1) (λ o. outside m j o ∙ sym (no_more m j b p k o ∙ rw e)) (places m j))
    where
      e : suc k ≡ k + 1
      e = omega arith
