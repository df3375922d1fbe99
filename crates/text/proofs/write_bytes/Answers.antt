-- `text::write_bytes` meets its contract: the bytes of s stand in the place of as many. Assumes
-- nothing.
use Rattle.std.proofs.Common.{◌≡◌, refl, ◌+◌, ◌-◌, length, arith}
use Rattle.text.specs.Written.{written_over}
use Rattle.text.proofs.write_bytes.Goals as goal

pub returns : goal.returns
returns c =
    let k : c.args.at + length c.args.s.now - c.args.at ≡ length c.args.s.now = omega arith in
    rw (c.copy_from_slice.ensures.after, k) (written_over _ _ _ _ refl (omega arith))
