-- Which layout of a list is the best: the order that decides it, and lists that are made of others.
use Rattle.std.proofs.Common.{◌≡◌, ℕ, ◌+◌, ◌<◌, Bool, true, false, cond, List, [], ◌∷◌, ◌++◌, length, sym, refl, ap, ◌∙◌, append_assoc, append-nil, arith}
use Rattle.std.proofs.lemmas.Bool.Decides.{nat_tests}
use Rattle.cost.specs.Layout.{Layout, through}
use Rattle.cost.specs.Best.{wins, better, first_of, best_of, first_best}

wins_trans : (a l b m c n : ℕ) → wins a l b m ≡ true → wins b m c n ≡ true → wins a l c n ≡ true
unfolding wins
wins_trans a l b m c n h k = grind (arith, nat_tests)

-- where neither wins against the next, the first does not against the last
pub wins_not_trans : (a l b m c n : ℕ) → wins a l b m ≡ false → wins b m c n ≡ false → wins a l c n ≡ false
unfolding wins
wins_not_trans a l b m c n h k = grind (arith, nat_tests)

-- what both have more of, alike, does not decide
pub wins_shift : (o l a m b n : ℕ) → wins (o + a) (l + m) (o + b) (l + n) ≡ wins a m b n
unfolding wins
wins_shift o l a m b n = grind (arith, nat_tests)

-- the first of three is the same, whichever two are compared first
first_of_assoc : (w : ℕ) (s t u : Layout) → first_of w (first_of w s t) u ≡ first_of w s (first_of w t u)
first_of_assoc w s t u = go (better w t s) (better w u t) refl refl
  where
    go : (p q : Bool) → better w t s ≡ p → better w u t ≡ q → first_of w (cond p t s) u ≡ first_of w s (cond q u t)
    go true true e f = let g : better w u s ≡ true = wins_trans _ _ _ _ _ _ f e in cc
    go true false e f = cc
    go false true e f = refl
    go false false e f = let g : better w u s ≡ false = wins_not_trans _ _ _ _ _ _ f e in cc

-- a layout in front can be compared last
pub best_of_first : (w : ℕ) (s t : Layout) (ts : List Layout) → best_of w (first_of w s t) ts ≡ first_of w s (best_of w t ts)
unfolding best_of
best_of_first w s t [] = refl
best_of_first w s t (u ∷ ts) = ap (λ v. best_of w v ts) (first_of_assoc w s t u) ∙ best_of_first w s (first_of w t u) ts

best_of_append : (w : ℕ) (s t : Layout) (ss ts : List Layout) → best_of w s (ss ++ (t ∷ ts)) ≡ first_of w (best_of w s ss) (best_of w t ts)
unfolding best_of
best_of_append w s t [] ts = best_of_first w s t ts
best_of_append w s t (u ∷ ss) ts = best_of_append w (first_of w s u) t ss ts

pub first_best_append : (w : ℕ) (ss ts : List Layout) → 0 < length ss → 0 < length ts → first_best w (ss ++ ts) ≡ first_of w (first_best w ss) (first_best w ts)
unfolding first_best
first_best_append w [] ts h k = absurd (omega arith)
first_best_append w (s ∷ ss) [] h k = absurd (omega arith)
first_best_append w (s ∷ ss) (t ∷ ts) h k = best_of_append w s t ss ts

module _ (f : Layout → List Layout) where
  pub through_append : (ss ts : List Layout) → through f (ss ++ ts) ≡ through f ss ++ through f ts
  unfolding through
  through_append [] ts = refl
  through_append (s ∷ ss) ts = ap (λ l. f s ++ l) (through_append ss ts) ∙ sym (append_assoc (f s) (through f ss) (through f ts))

  pub through_through : (g : Layout → List Layout) (ss : List Layout) → through f (through g ss) ≡ through (λ s. through f (g s)) ss
  unfolding through
  through_through g [] = refl
  through_through g (s ∷ ss) = through_append (g s) (through g ss) ∙ ap (λ l. through f (g s) ++ l) (through_through g ss)

  pub through_one : (s : Layout) → through f (s ∷ []) ≡ f s
  unfolding through
  through_one s = append-nil (f s)

pub through_alone : (ss : List Layout) → through (λ s. s ∷ []) ss ≡ ss
unfolding through
through_alone [] = refl
through_alone (s ∷ ss) = ap (λ l. s ∷ l) (through_alone ss)
