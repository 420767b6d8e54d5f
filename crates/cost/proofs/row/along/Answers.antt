use Rattle.std.proofs.Common.{arith}
use Rattle.std.proofs.lemmas.Bool.Decides.{nat_tests}
use Rattle.cost.specs.Row.{along}
use Rattle.cost.proofs.row.along.Goals as goal

pub returns-then-column-last : goal.returns-then-column-last
unfolding along
returns-then-column-last c = grind (arith, nat_tests)

pub returns-else-column-last : goal.returns-else-column-last
unfolding along
returns-else-column-last c = grind (arith, nat_tests)
