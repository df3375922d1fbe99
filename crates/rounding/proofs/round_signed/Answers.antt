-- `rounding::round_signed` meets its contract. Assumes nothing.
use Rattle.std.proofs.Common.{◌≡◌, sym, ap, ◌∙◌, [], ◌∷◌, ℕ, ◌+◌, ◌*◌, ◌^◌, ◌≤◌, ◌<◌, suc-mul, arith, ℤ, pos, negsuc, nat_abs, ◌+ℤ◌, ◌*ℤ◌, w64, to_z, of_z, to_z-of_z}
use mir.Facts.{to_z_pos}
use Rattle.integers.specs.Parts.{◌⋖◌}
use Rattle.integers.specs.Solver.{ring, form}
use Rattle.model.specs.Rounding.{r}
use Rattle.rounding.specs.RoundingLaws.{r_abs}
use Rattle.rounding.specs.Signed.{turned, r_turned}
use Rattle.rounding.proofs.round_signed.Goals as goal
use Rattle.rounding.proofs.round_signed.Goals.{After-round_quotient, Start}

-- the number that a quotient and a remainder make
made : (q n : ℕ) (d : ℤ) → pos 0 ⋖ d → pos q *ℤ d +ℤ pos n ≡ pos (q * nat_abs d + n)
made q n (pos d) h = ring (pos q ∷ pos n ∷ pos d ∷ []) (search form depth 20) tt
made q n (negsuc d) h = absurd h.lt

module _ (c : Start) where
  q_back : to_z w64 c.args.q ≡ pos c.args.q
  q_back = let h : c.args.q < 2 ^ 63 = omega arith in to_z_pos w64 h

  rem_back : to_z w64 c.args.rem ≡ pos c.args.rem
  rem_back = let h : c.args.rem < 2 ^ 63 = omega arith in to_z_pos w64 h

  abbrev rounded : ℤ
  rounded = r (pos (c.args.q * nat_abs c.args.d + c.args.rem)) c.args.d

  small : nat_abs rounded ≤ c.args.q + 1
  small = r_abs _ c.args.d (c.args.q + 1) c.requires.0 (omega (arith, suc-mul c.args.q (nat_abs c.args.d)))

-- the rounded magnitude
k_is : (c : After-round_quotient) → to_z w64 (of_z w64 c.round_quotient.result) ≡ rounded c.before
k_is c =
    let s = c.before in
    to_z-of_z {w = w64} (record { sfits = c.round_quotient.type_inv })
    ∙ (rw (to_z-of_z s.ranges.d, q_back s, rem_back s) at c.round_quotient.ensures)
    ∙ ap (λ (z : ℤ). r z s.args.d) (made s.args.q s.args.rem s.args.d s.requires.0)

pub returns : goal.returns
returns c =
    to_z-of_z {w = w64} (record { sfits = c.with_sign.type_inv }) ∙ c.with_sign.ensures ∙ ap (turned c.args.negative) (k_is c.before)
    ∙ sym (r_turned c.args.negative _ c.args.d c.requires.0)

pub with_sign-requires : goal.with_sign-requires
with_sign-requires c = rw (k_is c) (omega (arith, small c.before))
