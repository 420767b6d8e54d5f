use Rattle.std.proofs.Common.{◌-◌, length}
use Rattle.doc.proofs.nodes.Nodes.+document.Given as goal

abbrev pub decreases-document : goal.decreases-document
decreases-document l = length l.source.now.bytes.now - l.at
