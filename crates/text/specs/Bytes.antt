-- Texts in which every byte passes a test. Assumes nothing.
use Rattle.std.specs.Prelude.{ℕ, zero, suc, ◌≡◌, Bool, true, not, List, [], ◌∷◌, ◌++◌, eqb, replicate}

-- p says yes to every byte
pub data All (p : ℕ → Bool) : List ℕ → Type 0 where
  none : All p []
  more : {b : ℕ} {s : List ℕ} → p b ≡ true → All p s → All p (b ∷ s)

-- another byte than e
abbrev pub other : ℕ → ℕ → Bool
other e b = not (eqb b e)

module _ {p : ℕ → Bool} where
  pub all_append : {a b : List ℕ} → All p a → All p b → All p (a ++ b)
  all_append none d = d
  all_append (more e d) f = more e (all_append d f)

  pub all_same : (n b : ℕ) → p b ≡ true → All p (replicate n b)
  all_same zero b e = none
  all_same (suc n) b e = more e (all_same n b e)

  pub all_pass : {q : ℕ → Bool} → ((b : ℕ) → p b ≡ true → q b ≡ true) → {s : List ℕ} → All p s → All q s
  all_pass h none = none
  all_pass h (more e d) = more (h _ e) (all_pass h d)
