-- `split` meets its contract. Assumes nothing.
use Rattle.std.proofs.Common.{◌≡◌, ◌∙◌, arith}
use Rattle.std.specs.Float.Ieee.{of_bits}
use Rattle.model.specs.ListsLaws.{listed_none, listed_next, listed_whole}
use Rattle.model.specs.ClaimCosts.{no_float}
use Rattle.c_forms.specs.Inflations.{kinds_of, ratios_of}
use Rattle.c_forms.proofs.split.Goals as goal

pub loop-k-init : goal.loop-k-init
unfolding of_bits
loop-k-init c = record { kinds_made = listed_none 20 _ 0; ratios_made = listed_none 20 _ no_float }

pub loop-k-preserved : goal.loop-k-preserved
loop-k-preserved c =
    let l = c.loop-k in record {
      kinds_made = listed_next 20 l.k _ 0 (omega arith) l.invariant.kinds_made c.kind.ensures;
      ratios_made = listed_next 20 l.k _ no_float (omega arith) l.invariant.ratios_made c.ratio.ensures;
    }

pub returns : goal.returns
unfolding kinds_of ratios_of
returns c =
    let l = c.loop-k in
    let all : l.k ≡ 20 = omega arith in
    record { kinds_after = rw all at l.invariant.kinds_made ∙ listed_whole 20 _ 0; ratios_after = rw all at l.invariant.ratios_made ∙ listed_whole 20 _ no_float }
