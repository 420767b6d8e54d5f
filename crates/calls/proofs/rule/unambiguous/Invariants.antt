use Rattle.std.proofs.Common.{◌≡◌, length}
use Rattle.calls.specs.Values.{unambiguous}
use Rattle.calls.proofs.rule.unambiguous.Given as goal

-- what is left decides
abbrev pub invariant-loop-rule : goal.invariant-loop-rule
invariant-loop-rule l = unambiguous l.left ≡ unambiguous l.fn.rules

abbrev pub decreases-loop-rule : goal.decreases-loop-rule
decreases-loop-rule l = length l.left
