-- Costs that are capped: what is added to them, and which of two is the cheaper. Assumes nothing.
use Rattle.std.proofs.Common.{◌≡◌, ℕ, suc, ◌+◌, Bool, true, false, cond, arith}
use Rattle.std.proofs.lemmas.Bool.Decides.{nat_tests}
use Rattle.cost.specs.Layout.{Layout}
use Rattle.cost.specs.Best.{beyond, wins, better, first_of}
use Rattle.cost.specs.Price.{capped, price, further, line_more, cheaper}

-- a cost that was capped before more is added is as good as one that was not
pub further_capped : (b l n : ℕ) → further (capped b l) n ≡ capped (b + n) l
further_capped b l n = grind (arith, nat_tests)

pub line_more_capped : (b l : ℕ) → line_more (capped b l) ≡ capped b (suc l)
line_more_capped b l = grind (arith, nat_tests)

-- the better of two costs what the cheaper does
cheaper_capped : (b l c m : ℕ) → cheaper (capped b l) (capped c m) ≡ cond (wins c m b l) (capped c m) (capped b l)
unfolding wins
cheaper_capped b l c m = grind (arith, nat_tests)

pub cheaper_price : (w : ℕ) (s t : Layout) → cheaper (price w s) (price w t) ≡ price w (first_of w s t)
cheaper_price w s t = go (better w t s) (cheaper_capped (beyond w s) s.lines (beyond w t) t.lines)
  where
    go : (b : Bool) → cheaper (price w s) (price w t) ≡ cond b (price w t) (price w s) → cheaper (price w s) (price w t) ≡ price w (cond b t s)
    go true e = e
    go false e = e
