-- `put` meets its contract: the first k bytes are copied. Assumes nothing.
use Rattle.std.proofs.Common.{ℕ, ◌≡◌, refl, ◌∙◌, List, length, length-set, add-one, arith, rules}
use Rattle.std.proofs.Math.Seq.{paste, paste-zero, paste-suc, take_all}
use Rattle.model.specs.Overlay.{overlay}
use Rattle.writer.proofs.put.Goals as goal

whole : (d : List ℕ) (a : ℕ) (s : List ℕ) (k : ℕ) → k ≡ 16 → length s ≡ 16 → paste d a s k ≡ overlay d a s
unfolding overlay
whole d a s k e l = rw (e, l, take_all 16 s (omega arith))

pub loop-k-init : goal.loop-k-init
loop-k-init c = (paste-zero c.args.out.now c.args.a c.args.bytes, refl)

pub loop-k-preserved : goal.loop-k-preserved
loop-k-preserved c =
    let l : length c.args.bytes ≡ 16 = search rules in
    (rw (c.loop-k.invariant.0, add-one) (paste-suc c.args.out.now c.args.a c.args.bytes c.loop-k.k 0 (omega arith) (omega arith)), simp length-set c.loop-k.invariant.1)

pub returns : goal.returns
returns c =
    let e : c.loop-k.k ≡ 16 = omega arith in
    let l : length c.args.bytes ≡ 16 = search rules in
    c.loop-k.invariant.0 ∙ whole _ _ _ _ e l
