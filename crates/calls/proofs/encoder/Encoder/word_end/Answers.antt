use Rattle.std.proofs.Common.{◌++◌, arith, length-append}
use Rattle.std.proofs.lemmas.Grind.{common_steps}
use Rattle.calls.proofs.Texts.{short_bytes, end_bytes}
use Rattle.calls.proofs.encoder.Encoder.word_end.Goals as goal

pub returns-then-name-tail-le-MOST_TEXT : goal.returns-then-name-tail-le-MOST_TEXT
returns-then-name-tail-le-MOST_TEXT c = rw (← short_bytes (c.args.name.now ++ c.args.tail.now) (simp length-append (omega arith))) c.text.ensures

pub returns-in_err-bytes : goal.returns-in_err-bytes
returns-in_err-bytes c =
    let parts = end_bytes c.args.name.now c.args.tail.now c.split_at.result.0.now c.split_at.result.1.now c.split_at.ensures.by_index.0 (omega arith) (omega arith) (omega arith) in
    rw (← parts) (grind (arith, common_steps))

pub returns-in_err-text : goal.returns-in_err-text
returns-in_err-text c =
    let parts = end_bytes c.args.name.now c.args.tail.now c.split_at.result.0.now c.split_at.result.1.now c.split_at.ensures.by_index.0 (omega arith) (omega arith) (omega arith) in
    rw (← parts) (grind (arith, common_steps))

pub returns : goal.returns
returns c =
    let parts = end_bytes c.args.name.now c.args.tail.now c.split_at.result.0.now c.split_at.result.1.now c.split_at.ensures.by_index.0 (omega arith) (omega arith) (omega arith) in
    rw (← parts) (grind (arith, common_steps))
