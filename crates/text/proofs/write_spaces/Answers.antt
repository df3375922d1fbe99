-- `text::write_spaces` meets its contract: spaces stand in the place of as many bytes. Assumes
-- nothing.
use Rattle.std.proofs.Common.{◌≡◌, sym, ℕ, ◌+◌, ◌-◌, arith, replicate, rules}
use Rattle.std.proofs.lemmas.List.{length-replicate}
use Rattle.text.specs.Written.{written_over}
use Rattle.text.proofs.write_spaces.Goals as goal

pub returns : goal.returns
returns c =
    let k : c.args.at + c.args.n - c.args.at ≡ c.args.n = omega arith in
    let e : c.fill.new.self ≡ replicate {A = ℕ} (c.args.at + c.args.n - c.args.at) 32 = search rules in
    rw (e, k) (written_over _ _ _ _ (sym (length-replicate c.args.n 32)) (omega arith))
