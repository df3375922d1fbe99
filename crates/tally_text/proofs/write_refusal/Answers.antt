-- `tally_text::write_refusal` meets its contract: the word, the number, a newline. Assumes nothing.
use Rattle.std.proofs.Common.{arith}
use Rattle.model.specs.Calendar.{refusal_text}
use Rattle.text.specs.Written.{written_then, written_whole}
use Rattle.tally_text.specs.TallyTextLaws.{refusal_size}
use Rattle.tally_text.proofs.write_refusal.Goals as goal

pub write_bytes-next-requires : goal.write_bytes-next-requires
write_bytes-next-requires c = omega (arith, refusal_size c.args.n)

pub write_digits-end-requires : goal.write_digits-end-requires
write_digits-end-requires c = omega (arith, refusal_size c.args.n, c.write_bytes-next.ensures.end)

pub put-requires : goal.put-requires
put-requires c = omega (arith, refusal_size c.args.n, c.write_bytes-next.ensures.end, c.write_digits-end.ensures.end)

pub returns : goal.returns
unfolding refusal_text
returns c = written_whole (written_then (written_then c.write_bytes-next.ensures c.write_digits-end.ensures) c.put.ensures)
