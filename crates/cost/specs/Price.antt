-- Costs as the code has them: exact below a limit, and all alike from there on. Assumes nothing: these are definitions.
use Rattle.std.specs.Prelude.{ℕ, suc, ◌+◌, min, Bool, cond, nat_lt}
use Rattle.cost.specs.Layout.{Layout}
use Rattle.cost.specs.Best.{beyond, wins}
use Rattle.cost.specs.declared.price.Cost.{Cost}

-- one cost is less than another
abbrev pub beats : Cost → Cost → Bool
beats a b = wins a.beyond a.lines b.beyond b.lines

-- more bytes beyond the width than the longest layout that is not refused has bytes
abbrev pub limit : ℕ
limit = 131073

-- more lines than any document has
abbrev pub most_lines : ℕ
most_lines = 4294967295

-- so many beyond and so many lines; from the limit on, costs are not told apart
abbrev pub capped : (beyond lines : ℕ) → Cost
capped b l = cond (nat_lt b limit) (record { beyond = b; lines = min l most_lines }) (record { beyond = limit; lines = 0 })

-- what a layout costs
abbrev pub price : ℕ → Layout → Cost
price w s = capped (beyond w s) s.lines

-- a cost with n bytes more beyond the width
abbrev pub further : Cost → ℕ → Cost
further a n = capped (a.beyond + n) a.lines

-- a cost with one line more
abbrev pub line_more : Cost → Cost
line_more a = capped a.beyond (suc a.lines)

-- of two the cheaper, and of equals the first
abbrev pub cheaper : Cost → Cost → Cost
cheaper a b = cond (beats b a) b a
