-- Laws of the machine's signed division. Assumes nothing.
use Rattle.std.specs.Prelude.{◌≡◌, [], ◌∷◌, ℕ, suc, ◌*◌, ◌/◌, ◌%◌, ◌≤◌, ◌<◌, ℤ, pos, negsuc, neg_ℤ, nat_abs, ◌+ℤ◌, ◌*ℤ◌}
use Rattle.std.proofs.Common.{ap, ◌∙◌, div-le_self, mod-lt, div-add-mod', arith, of_z}
use Rattle.std.specs.Int.Signed.{quot_z, rem_z}
use Rattle.std.specs.Int.{w64}
use Rattle.integers.specs.Parts.{◌⋖◌, ints}
use Rattle.integers.specs.Order.{nat_abs-neg_ℤ}
use Rattle.integers.specs.Solver.{ring, form}

-- division toward zero, of a by b above zero
pub record Truncated (a b : ℤ) : Type 0 where
  pub whole : quot_z a b *ℤ b +ℤ rem_z a b ≡ a
  pub quot : nat_abs (quot_z a b) ≤ nat_abs a
  pub times : nat_abs (quot_z a b) * nat_abs b ≤ nat_abs a
  pub rem : nat_abs (rem_z a b) < nat_abs b
  pub some : 0 < of_z w64 b

pub truncated : (a b : ℤ) → pos 0 ⋖ b → Truncated a b
truncated a (negsuc b) h = absurd h.lt
truncated (pos a) (pos b) h =
    let b>0 : 0 < b = omega (arith, ints) in
    record { whole = ap pos (div-add-mod' a b); quot = div-le_self a b; times = omega (arith, div-add-mod' a b); rem = mod-lt a b>0; some = b>0 }
truncated (negsuc a) (pos b) h =
    let b>0 : 0 < b = omega (arith, ints) in
    record {
      whole = opposite (pos (suc a / b)) (pos b) (pos (suc a % b)) ∙ ap (λ (n : ℕ). neg_ℤ (pos n)) (div-add-mod' (suc a) b);
      quot = rw nat_abs-neg_ℤ (div-le_self (suc a) b);
      times = rw nat_abs-neg_ℤ (omega (arith, div-add-mod' (suc a) b));
      rem = rw nat_abs-neg_ℤ (mod-lt (suc a) b>0);
      some = b>0;
    }
  where
    opposite : (x b y : ℤ) → neg_ℤ x *ℤ b +ℤ neg_ℤ y ≡ neg_ℤ (x *ℤ b +ℤ y)
    opposite x b y = ring (x ∷ b ∷ y ∷ []) (search form depth 20) tt
