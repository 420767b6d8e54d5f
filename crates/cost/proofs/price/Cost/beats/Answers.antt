use Rattle.std.proofs.Common.{arith}
use Rattle.std.proofs.lemmas.Bool.Decides.{nat_tests}
use Rattle.cost.specs.Best.{wins}
use Rattle.cost.proofs.price.Cost.beats.Goals as goal

pub returns : goal.returns
unfolding wins
returns c = grind (arith, nat_tests)
