use Rattle.std.proofs.Common.{refl}
use Rattle.cost.specs.Layout.{through, layouts}
use Rattle.cost.specs.Best.{wins, best_of, first_best}
use Rattle.cost.specs.Worked.{cats, values, call, worked_call, worked_tail, on_lines, BestIs, slice_flat, all_broken}
use Rattle.cost.proofs.Bracketing.{brackets_alike}
use Rattle.cost.proofs.Chosen.{chosen_best}
use Rattle.cost.proofs.Counts.{counted_right}
use Rattle.cost.proofs.First.{best_is_first}
use Rattle.cost.proofs.OneLine.{fits_on_one, not_needlessly_broken}
use Rattle.cost.proofs.Signs.{same_signs}
use Rattle.cost.proofs.ToGo.{best_to_go}
use Rattle.cost.proofs.Wider.{wider_no_worse}
use Rattle.cost.proofs.laws.laws.Goals as goal

pub returns-clause-worked_layouts : goal.returns-clause-worked_layouts
unfolding through layouts wins best_of first_best cats values call worked_call worked_tail on_lines BestIs slice_flat all_broken
returns-clause-worked_layouts c = ((refl, refl, refl), (refl, refl, refl), (refl, refl, refl), (refl, refl, refl), (refl, refl, refl))

pub returns-clause-best_is_to_go : goal.returns-clause-best_is_to_go
returns-clause-best_is_to_go c = best_to_go

pub returns-clause-decisions_are_best : goal.returns-clause-decisions_are_best
returns-clause-decisions_are_best c = chosen_best

pub returns-clause-best_is_first : goal.returns-clause-best_is_first
returns-clause-best_is_first c = best_is_first

pub returns-clause-same_signs : goal.returns-clause-same_signs
returns-clause-same_signs c = same_signs

pub returns-clause-counted_right : goal.returns-clause-counted_right
returns-clause-counted_right c = counted_right

pub returns-clause-brackets_alike : goal.returns-clause-brackets_alike
returns-clause-brackets_alike c = brackets_alike

pub returns-clause-fits_on_one : goal.returns-clause-fits_on_one
returns-clause-fits_on_one c = fits_on_one

pub returns-clause-wider_no_worse : goal.returns-clause-wider_no_worse
returns-clause-wider_no_worse c = wider_no_worse

pub returns-clause-not_needlessly_broken : goal.returns-clause-not_needlessly_broken
returns-clause-not_needlessly_broken c = not_needlessly_broken
