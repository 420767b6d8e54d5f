use Rattle.std.proofs.Common.{sym}
use Rattle.doc.proofs.Parsing.{none_left, tag_at}
use Rattle.doc.proofs.reader.Source.tag.Goals as goal

pub returns-in_err-byte : goal.returns-in_err-byte
returns-in_err-byte c = rw c.from_residual.ensures (none_left _ _ c.in_err-byte.ensures)

pub returns : goal.returns
returns c = let b = c.in_ok-byte.ensures in rw c.ok.ensures.value (tag_at _ _ _ b.0 (sym b.1) _ c.try_from.ensures)
