-- Lists made place by place, tests of every number below a bound, and counts. Used by all sections.
use Rattle.std.specs.Prelude.{ℕ, zero, suc, ◌+◌, Bool, true, ◌&&◌, cond, List, [], ◌∷◌, ◌++◌, ltb, ℤ, pos, get_or}

-- f 0, f 1, .. f (n - 1)
unfoldable pub tabulate : {A : Type 0} → ℕ → (ℕ → A) → List A
tabulate zero f = []
tabulate (suc n) f = f 0 ∷ tabulate n (λ k. f (suc k))

-- n places: f k at each of the first m, d at the others (01, Cell forecasts: short lists)
unfoldable pub listed : {A : Type 0} → ℕ → ℕ → (ℕ → A) → A → List A
listed n m f d = tabulate n (λ k. cond (ltb k m) (f k) d)

-- the lists f 0, .. f (n - 1), one after the other
unfoldable pub chained : {A : Type 0} → ℕ → (ℕ → List A) → List A
chained zero f = []
chained (suc n) f = chained n f ++ f n

-- the number at a place of a list, 0 past its end
abbrev pub at : List ℤ → ℕ → ℤ
at xs k = get_or xs k (pos 0)

-- p says yes to each number below n
unfoldable pub every : ℕ → (ℕ → Bool) → Bool
every zero p = true
every (suc n) p = every n p && p n

-- f 0 + .. + f (n - 1), of numbers from 0 up
unfoldable pub total : ℕ → (ℕ → ℕ) → ℕ
total zero f = 0
total (suc n) f = total n f + f n

-- how many numbers below n p says yes to
unfoldable pub count : ℕ → (ℕ → Bool) → ℕ
count n p = total n (λ k. cond (p k) 1 0)
