use Rattle.std.proofs.Common.{◌-◌, length}
use Rattle.layout.proofs.search.Search.+search.Given as goal

abbrev pub decreases-search : goal.decreases-search
decreases-search l = length l.tree.now.nodes.now - l.at
