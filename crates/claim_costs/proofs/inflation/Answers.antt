-- `inflation` meets its contract, by its two tests. Assumes nothing.
use Rattle.std.proofs.Common.{◌≡◌, refl, sym, ◌∙◌, ap, true, false, ne_eqb, ℤ, pos, negsuc, w64, SFits, to_z, of_z, to_z-of_z}
use Rattle.model.specs.RowBases.{is_zero}
use Rattle.claim_costs.specs.Costs.{inflation_of}
use Rattle.claim_costs.proofs.inflation.Goals as goal

-- what a test for zero says of a signed number
zero_yes : {z : ℤ} → SFits w64 z → of_z w64 z ≡ 0 → is_zero z ≡ true
zero_yes h e = ap is_zero (sym (to_z-of_z h) ∙ ap (to_z w64) e)

zero_no : (z : ℤ) → (of_z w64 z ≡ 0 → ⊥) → is_zero z ≡ false
zero_no (pos n) o = ne_eqb n 0 o
zero_no (negsuc n) o = refl

pub returns-then-i-eq1 : goal.returns-then-i-eq1
unfolding inflation_of
returns-then-i-eq1 c = rw c.if-i-eq1.true

pub returns-then-ultimate-eq0 : goal.returns-then-ultimate-eq0
unfolding inflation_of
returns-then-ultimate-eq0 c = rw (ne_eqb _ 1 c.if-i-eq1.false, zero_yes c.ranges.ultimate c.if-ultimate-eq0.true)

pub returns : goal.returns
unfolding inflation_of
returns c = rw (ne_eqb _ 1 c.if-i-eq1.false, zero_no c.args.ultimate c.if-ultimate-eq0.false)
