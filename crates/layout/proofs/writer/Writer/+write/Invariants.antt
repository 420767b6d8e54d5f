use Rattle.std.proofs.Common.{◌-◌, length}
use Rattle.layout.proofs.writer.Writer.+write.Given as goal

abbrev pub decreases-write : goal.decreases-write
decreases-write l = length l.plan.now.nodes.now - l.at
