-- What each probe answers: in its range the rounded quotient, and `outside` elsewhere.
use Rattle.std.specs.Prelude.{ℕ, ◌*◌, ◌^◌, ◌-◌, Bool, cond, ◌&&◌, leb, ℤ, pos, negsuc, neg_ℤ, ◌*ℤ◌, Option}
use Rattle.std.specs.Option.{unwrap_or}
use Rattle.model.specs.Questions.{within}
use Rattle.model.specs.Rounding.{S, r}
use Rattle.arithmetic.specs.Capped.{capped}

abbrev pub outside : ℤ
outside = negsuc (2 ^ 63 - 1)

-- |x| <= n
abbrev pub up_to : ℕ → ℤ → Bool
up_to n x = within (neg_ℤ (pos n)) (pos n) x

unfoldable pub round_div : ℤ → ℤ → ℤ
round_div a b = cond (up_to (9 * 10 ^ 18) a && within (pos 1) (pos (10 ^ 18)) b) (r a b) outside

-- a number past its cap stands as the largest word
abbrev pub as_number : Option ℤ → ℤ
as_number k = unwrap_or k (pos (2 ^ 63 - 1))

unfoldable pub share : ℤ → ℤ → ℤ → ℤ
share g a b =
    cond (within (pos 0) (pos (4 * 10 ^ 9)) g && up_to (4 * 10 ^ 12) a && within (pos 1) (pos (4 * 10 ^ 12)) b)
    (as_number (capped (4 * 10 ^ 9) (r (g *ℤ a) b))) outside

unfoldable pub ultimate : ℤ → ℤ → ℤ
ultimate c g = cond (within (pos 0) (pos (2 * 10 ^ 11)) c && within (pos (10 ^ 6)) (pos (4 * 10 ^ 9)) g) (r (c *ℤ S) g) outside

unfoldable pub row_base : ℤ → ℤ → ℤ → ℕ → ℤ
row_base u w d cap =
    cond (up_to (21 * 10 ^ 13) u && up_to (21 * 10 ^ 13) w && within (pos 1) (pos (21 * 10 ^ 13)) d && leb cap (21 * 10 ^ 13))
    (as_number (capped cap (r (u *ℤ w) d))) outside

unfoldable pub cell : ℤ → ℤ → ℤ
cell v x = cond (up_to (2 * 10 ^ 14) v && up_to (9 * 10 ^ 18) x) (r (v *ℤ x) (S *ℤ S)) outside
