use Rattle.std.proofs.Common.{◌≡◌, ◌+◌, ◌++◌, length}
use Rattle.cost.specs.Chosen.{below}
use Rattle.cost.proofs.Merging.{Replaced, taken, noted}
use Rattle.cost.proofs.row.merge.Given as goal

-- the columns below c are merged and noted, and those from c on are as they were
abbrev pub invariant-loop-c : goal.invariant-loop-c
invariant-loop-c g l =
    Replaced (taken l.flat l.reach l.initial.broken l.shift) l.initial.broken l.c l.broken
    × (g.N.Pushed.items l.notes ≡ g.N.Pushed.items l.initial.notes ++ below (noted l.flat l.reach l.initial.broken l.shift) l.c)
    × (length (g.N.Pushed.items l.notes) ≡ length (g.N.Pushed.items l.initial.notes) + l.c)
    × (g.N.Pushed.room l.notes ≡ g.N.Pushed.room l.initial.notes)
