use Rattle.doc.proofs.Parsing.{whole_long, whole_none, whole_more, whole_read}
use Rattle.doc.proofs.nodes.Nodes.whole.Goals as goal

pub returns-then-spelled-gt-MOST_BYTES : goal.returns-then-spelled-gt-MOST_BYTES
returns-then-spelled-gt-MOST_BYTES c = whole_long _ c.if-spelled-gt-MOST_BYTES.true

pub returns-in_err-end : goal.returns-in_err-end
returns-in_err-end c = rw c.from_residual.ensures (whole_none _ c.if-spelled-gt-MOST_BYTES.false c.in_err-end.ensures)

pub returns-then-end-spelled : goal.returns-then-end-spelled
returns-then-end-spelled c = whole_more _ _ _ _ c.if-spelled-gt-MOST_BYTES.false c.in_ok-end.ensures c.if-end-spelled.true

pub returns : goal.returns
returns c = whole_read _ _ _ _ c.if-spelled-gt-MOST_BYTES.false c.in_ok-end.ensures c.if-end-spelled.false c.requires
