-- `every`, `total` and `sum` are one fold, that of a commutative monoid: its laws, and that it does
-- not depend on the order. Assumes nothing.
use Rattle.std.specs.Prelude.{◌≡◌, Bool, true, ◌&&◌, List, [], ◌∷◌, ℕ, zero, suc, ◌+◌, ◌<◌, ℤ, pos, ◌+ℤ◌}
use Rattle.std.proofs.Math.Path.{refl, sym, ap}
use Rattle.std.proofs.Common.{◌∙◌, ap₂, add-zero, add-suc, zero-add, add_assoc, add_comm, not-suc-le-zero, eq-or-lt_of_le, le_of_suc-le-suc, arith}
use Rattle.std.proofs.Math.Bool.{and-true, and_assoc, and_comm, true-and}
use mathlib.Core.List.{Permᴰ}
use Rattle.std.proofs.Math.Logic.{⊎_elim}
use Rattle.std.proofs.Math.IntN.{+ℤ_idl, +ℤ_idr, +ℤ_assoc, +ℤ_comm}
use Rattle.integers.specs.Sums.{sum}
use Rattle.model.specs.Lists.{tabulate, every, total}

pub record Monoid (A : Type 0) : Type 0 where
  pub op : A → A → A
  pub unit : A
  pub left : (x : A) → op unit x ≡ x
  pub right : (x : A) → op x unit ≡ x
  pub assoc : (x y z : A) → op (op x y) z ≡ op x (op y z)
  pub comm : (x y : A) → op x y ≡ op y x

abbrev pub alls : Monoid Bool
alls = record { op = ◌&&◌; unit = true; left = true-and; right = and-true; assoc = and_assoc; comm = and_comm }

abbrev pub totals : Monoid ℕ
totals = record { op = ◌+◌; unit = 0; left = zero-add; right = add-zero; assoc = add_assoc; comm = add_comm }

abbrev pub sums : Monoid ℤ
sums = record { op = ◌+ℤ◌; unit = pos 0; left = +ℤ_idl; right = +ℤ_idr; assoc = +ℤ_assoc; comm = +ℤ_comm }

-- F 0, .. F (n - 1), joined from the left
unfoldable pub fold : {A : Type 0} → Monoid A → ℕ → (ℕ → A) → A
fold M zero F = M.unit
fold M (suc n) F = M.op (fold M n F) (F n)

pub every_fold : (n : ℕ) (p : ℕ → Bool) → every n p ≡ fold alls n p
unfolding every fold
every_fold zero p = refl
every_fold (suc n) p = rw (every_fold n p)

pub total_fold : (n : ℕ) (f : ℕ → ℕ) → total n f ≡ fold totals n f
unfolding total fold
total_fold zero f = refl
total_fold (suc n) f = rw (total_fold n f)

pub sum_fold : (n : ℕ) (f : ℕ → ℤ) → sum n f ≡ fold sums n f
unfolding sum fold
sum_fold zero f = refl
sum_fold (suc n) f = rw (sum_fold n f)

module _ {A : Type 0} (M : Monoid A) where
  -- both operands replaced
  pub joined : {a b c d : A} → a ≡ b → c ≡ d → M.op a c ≡ M.op b d
  joined e f = ap₂ (λ (x y : A). M.op x y) e f

  pub fold_ext : (n : ℕ) (F G : ℕ → A) → ((k : ℕ) → k < n → F k ≡ G k) → fold M n F ≡ fold M n G
  unfolding fold
  fold_ext zero F G h = refl
  fold_ext (suc n) F G h = joined (fold_ext n F G (λ k l. h k (omega arith))) (h n (omega arith))

  pub fold_unit : (n : ℕ) (F : ℕ → A) → ((k : ℕ) → k < n → F k ≡ M.unit) → fold M n F ≡ M.unit
  unfolding fold
  fold_unit zero F h = refl
  fold_unit (suc n) F h = joined (fold_unit n F (λ k l. h k (omega arith))) (h n (omega arith)) ∙ M.left M.unit

  pub fold_split : (n k : ℕ) (F : ℕ → A) → fold M (n + k) F ≡ M.op (fold M n F) (fold M k (λ i. F (n + i)))
  unfolding fold
  fold_split n zero F = ap (λ (i : ℕ). fold M i F) (add-zero n) ∙ sym (M.right (fold M n F))
  fold_split n (suc k) F =
      ap (λ (i : ℕ). fold M i F) (add-suc n k) ∙ joined (fold_split n k F) refl
      ∙ M.assoc (fold M n F) (fold M k (λ i. F (n + i))) (F (n + k))

  -- all but F p are the unit
  pub fold_pick : (n p : ℕ) (F : ℕ → A) → p < n → ((k : ℕ) → k < n → (k ≡ p → ⊥) → F k ≡ M.unit) → fold M n F ≡ F p
  unfolding fold
  fold_pick zero p F l h = absurd (not-suc-le-zero l)
  fold_pick (suc n) p F l h =
      ⊎_elim
      (λ e. joined (fold_unit n F (λ k b. h k (omega arith) (λ q. omega arith))) (ap F (sym e)) ∙ M.left (F p))
      (λ b. joined (fold_pick n p F b (λ k c. h k (omega arith))) (h n (omega arith) (λ q. omega arith)) ∙ M.right (F p))
      (eq-or-lt_of_le (le_of_suc-le-suc l))

  -- ---- over a list
  unfoldable pub fold_list : {B : Type 0} → (B → A) → List B → A
  fold_list F [] = M.unit
  fold_list F (x ∷ xs) = M.op (F x) (fold_list F xs)

  fold_first : (n : ℕ) (F : ℕ → A) → fold M (suc n) F ≡ M.op (F 0) (fold M n (λ k. F (suc k)))
  unfolding fold
  fold_first zero F = M.comm M.unit (F 0)
  fold_first (suc n) F = joined (fold_first n F) refl ∙ M.assoc (F 0) (fold M n (λ k. F (suc k))) (F (suc n))

  pub fold_list_lem : {B : Type 0} (F : B → A) (n : ℕ) (h : ℕ → B) → fold M n (λ k. F (h k)) ≡ fold_list F (tabulate n h)
  unfolding tabulate fold_list
  fold_list_lem F zero h = fold_unit 0 (λ k. F (h k)) (λ k l. absurd (not-suc-le-zero l))
  fold_list_lem F (suc n) h = fold_first n (λ k. F (h k)) ∙ joined refl (fold_list_lem F n (λ k. h (suc k)))

  -- the order of a list changes nothing
  pub fold_list_perm : {B : Type 0} (F : B → A) {l r : List B} → Permᴰ l r → fold_list F l ≡ fold_list F r
  unfolding fold_list
  fold_list_perm F Permᴰ.nil = refl
  fold_list_perm F (Permᴰ.cons e d) = joined (ap F e) (fold_list_perm F d)
  fold_list_perm F (Permᴰ.swap {a} {b} {a'} {b'} {l} d e) =
      sym (M.assoc (F a) (F b) (fold_list F l)) ∙ joined (M.comm (F a) (F b) ∙ joined (ap F e) (ap F d)) refl
      ∙ M.assoc (F a') (F b') (fold_list F l)
  fold_list_perm F (Permᴰ.trans d e) = fold_list_perm F d ∙ fold_list_perm F e
