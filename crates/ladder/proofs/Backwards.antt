-- A list that is filled from a place backwards: places j to m - 1 of n hold f, the others 0.
-- Assumes nothing.
use Rattle.std.proofs.Common.{◌≡◌, refl, sym, ◌∙◌, ap₂, Bool, true, false, ◌&&◌, cond, List, ⊎_elim, ℕ, suc, ◌≤◌, ◌<◌, eq-or-lt_of_le, arith, le-leb, lt-ltb, le-ltb, leb-true, leb-false, leb, ltb, ℤ, pos, set, replicate}
use borrow.Author.Tests.{lt-leb}
use Rattle.model.specs.Lists.{tabulate, listed, at}
use Rattle.model.specs.ListsLaws.{tabulate_ext, set_tabulate, listed_none, get_d_tabulate}

unfoldable pub listed_from : ℕ → ℕ → ℕ → (ℕ → ℤ) → List ℤ
listed_from n j m f = tabulate n (λ k. cond (leb j k && ltb k m) (f k) (pos 0))

module _ (n m : ℕ) (f : ℕ → ℤ) where
  entry : ℕ → ℕ → ℤ
  entry j k = cond (leb j k && ltb k m) (f k) (pos 0)

  pub from_none : replicate n (pos 0) ≡ listed_from n m m f
  unfolding listed_from listed entry
  from_none = listed_none n f (pos 0) ∙ tabulate_ext n (λ k. cond (ltb k 0) (f k) (pos 0)) (entry m) (λ k h. rw (le-ltb k 0 (omega arith)) (sym (none k (leb m k) refl)))
    where
      none : (k : ℕ) (t : Bool) → leb m k ≡ t → cond (t && ltb k m) (f k) (pos 0) ≡ pos 0
      none k true e = let l : m ≤ k = leb-true m k e in rw (le-ltb k m l)
      none k false e = refl

  pub from_at : (j k : ℕ) → k < n → j ≤ k → k < m → at (listed_from n j m f) k ≡ f k
  unfolding listed_from entry
  from_at j k h l u = get_d_tabulate n (entry j) k (pos 0) h ∙ rw (le-leb j k l, lt-ltb k m u)

  -- a store at the place before the first
  pub from_next : (j : ℕ) {out : List ℤ} {v : ℤ} → j < n → j < m → out ≡ listed_from n (suc j) m f → v ≡ f j → set out j v ≡ listed_from n j m f
  unfolding listed_from entry
  from_next j h l p q =
      let here : f j ≡ entry j j = rw (le-leb j j (omega arith), lt-ltb j m l) in
      ap₂ (λ (l : List ℤ) (x : ℤ). set l j x) p (q ∙ here) ∙ set_tabulate n j (entry (suc j)) (entry j) h (λ k o. other k (leb j k) refl o)
    where
      next : (k : ℕ) → j ≤ k → (k ≡ j → ⊥) → suc j ≤ k
      next k l o = ⊎_elim (λ q. absurd (o (sym q))) (λ q. omega arith) (eq-or-lt_of_le l)

      other : (k : ℕ) (t : Bool) → leb j k ≡ t → (k ≡ j → ⊥) → entry j k ≡ entry (suc j) k
      other k true e o = let l : j ≤ k = leb-true j k e in rw (e, le-leb (suc j) k (next k l o))
      other k false e o = let l : k < j = leb-false j k e in rw (e, lt-leb (suc j) k (omega arith))

  pub from_all : listed_from n 0 m f ≡ listed n m f (pos 0)
  unfolding listed_from listed entry
  from_all = tabulate_ext n (entry 0) (λ k. cond (ltb k m) (f k) (pos 0)) (λ k h. rw (le-leb 0 k (omega arith)))
