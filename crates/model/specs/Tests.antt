-- Laws of tests. Assumes nothing.
use Rattle.std.specs.Prelude.{◌≡◌, refl, Bool, true, false, not}
use Rattle.std.proofs.Common.{sym, ◌∙◌}
use Rattle.std.proofs.lemmas.Bool.{not-true, not-false}

-- a proof by cases on a test
pub by_test {ℓ} : {X : Type ℓ} (b : Bool) → (b ≡ true → X) → (b ≡ false → X) → X
by_test true f g = f refl
by_test false f g = g refl

-- two tests that say yes together
pub same_test : (a b : Bool) → (a ≡ true → b ≡ true) → (b ≡ true → a ≡ true) → a ≡ b
same_test true b f g = sym (f refl)
same_test false true f g = g refl
same_test false false f g = refl

-- the answer u of a test that the code turned around
pub refused : {t u : Bool} → not t ≡ true → t ≡ u → u ≡ false
refused {t} h e = sym e ∙ not-true t h

pub passed : {t u : Bool} → not t ≡ false → t ≡ u → u ≡ true
passed {t} h e = sym e ∙ not-false t h
