-- What a probe's test of a range says. Assumes nothing.
use Rattle.std.proofs.Common.{◌≡◌, true, ℕ, ◌≤◌, ◌<◌, arith, ℤ, pos, negsuc, neg_ℤ, nat_abs}
use Rattle.integers.specs.Parts.{◌⩽◌, ◌⋖◌, ints}
use Rattle.integers.specs.Order.{pos_mono, nat_abs-≤}
use Rattle.model.specs.Questions.{within}
use Rattle.model.specs.QuestionsLaws.{within_so}
use Rattle.probes.specs.Probes.{up_to}

pub up_to_is : (n : ℕ) (x : ℤ) → up_to n x ≡ true → nat_abs x ≤ n
up_to_is n x e = let h = within_so (neg_ℤ (pos n)) (pos n) x e in nat_abs-≤.1 (h.1, h.0)

-- a range from zero up, by magnitudes
pub record Range (low high : ℕ) (x : ℤ) : Type 0 where
  pub from : low ≤ nat_abs x
  pub to : nat_abs x ≤ high
  pub sign : pos low ⩽ x

pub range_is : (low high : ℕ) (x : ℤ) → within (pos low) (pos high) x ≡ true → Range low high x
range_is low high (pos x) e = let h = within_so (pos low) (pos high) (pos x) e in record { from = pos_mono.1 h.0; to = pos_mono.1 h.1; sign = h.0 }
range_is low high (negsuc x) e = absurd (within_so (pos low) (pos high) (negsuc x) e).0.le

pub above_zero : {low high : ℕ} {x : ℤ} → Range low high x → 0 < low → pos 0 ⋖ x
above_zero {x} h l = let s = h.sign in omega (arith, ints)
