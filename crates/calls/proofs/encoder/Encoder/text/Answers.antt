use Rattle.std.proofs.Common.{arith}
use Rattle.std.proofs.lemmas.Grind.{common_steps}
use Rattle.calls.proofs.Texts.{text_bytes}
use Rattle.calls.proofs.encoder.Encoder.text.Goals as goal

pub returns-in_err-bytes : goal.returns-in_err-bytes
returns-in_err-bytes c = rw (← text_bytes c.args.first.now c.args.second.now) (grind (arith, common_steps))

pub returns-in_err-bytes-2 : goal.returns-in_err-bytes-2
returns-in_err-bytes-2 c = rw (← text_bytes c.args.first.now c.args.second.now) (grind (arith, common_steps))

pub returns : goal.returns
returns c = rw (← text_bytes c.args.first.now c.args.second.now) (grind (arith, common_steps))
