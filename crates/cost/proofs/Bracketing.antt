-- How documents behind each other are bracketed does not matter to their layouts.
use Rattle.std.proofs.Common.{ap}
use Rattle.cost.specs.Layout.{empty, layouts}
use Rattle.cost.specs.Best.{first_best}
use Rattle.cost.specs.Laws.{BracketsAlike}
use Rattle.cost.specs.declared.price.Mode.TheVariants.{Broken}
use Rattle.cost.proofs.Choosing.{through_through, through_one, through_alone}

pub brackets_alike : BracketsAlike
unfolding layouts
brackets_alike w a b c =
    let alike = through_through (layouts w c 0 Broken) (layouts w b 0 Broken) (layouts w a 0 Broken empty) in
    record {
      layouts_alike = alike;
      best_alike = ap (first_best w) alike;
      nothing_before = through_one (layouts w a 0 Broken) empty;
      nothing_after = through_alone (layouts w a 0 Broken empty);
    }
