use Rattle.std.proofs.Common.{◌-◌, length}
use Rattle.compare.proofs.plain.Document.+part.Given as goal

abbrev pub decreases-part : goal.decreases-part
decreases-part g l = length l.self.now.nodes.now - l.at
