-- The best of all layouts is the first of those than which none is better.
use Rattle.std.proofs.Common.{◌≡◌, ℕ, ◌<◌, Bool, true, false, cond, List, [], ◌∷◌, ◌++◌, length, sym, refl, ap, subst, arith}
use Rattle.std.specs.List.{AllByRecursion}
use Rattle.std.proofs.ByRecursion.{All-weaker}
use Rattle.std.proofs.lemmas.Bool.Decides.{nat_tests}
use Rattle.cost.specs.Layout.{Layout, empty, all_layouts}
use Rattle.cost.specs.Best.{wins, better, first_of, best_of, first_best}
use Rattle.cost.specs.Laws.{BestIsFirst}
use Rattle.cost.specs.declared.price.Mode.TheVariants.{Broken}
use Rattle.cost.proofs.Choosing.{wins_not_trans, best_of_first, through_alone}
use Rattle.cost.proofs.ToGo.{met, stop_met}

wins_once : (a l b m : ℕ) → wins a l b m ≡ true → wins b m a l ≡ false
unfolding wins
wins_once a l b m h = grind (arith, nat_tests)

wins_not_itself : (a l : ℕ) → wins a l a l ≡ false
unfolding wins
wins_not_itself a l = grind (arith, nat_tests)

-- b is the first in a list of those than which none there is better
record FirstIn (w : ℕ) (ss : List Layout) (b : Layout) : Type 0 where
  pub before : List Layout
  pub after : List Layout
  pub is_one : ss ≡ before ++ (b ∷ after)
  pub none_better : AllByRecursion (λ s. better w s b ≡ false) ss
  pub first : AllByRecursion (λ s. better w b s ≡ true) before

-- a layout in front is the first unless the first behind it is better
first_in_more : (w : ℕ) (s : Layout) (ss : List Layout) (b : Layout) → FirstIn w ss b → FirstIn w (s ∷ ss) (first_of w s b)
first_in_more w s ss b h = go (better w b s) refl
  where
    go : (p : Bool) → better w b s ≡ p → FirstIn w (s ∷ ss) (cond p b s)
    go true e = record {
      before = s ∷ h.before;
      after = h.after;
      is_one = ap (λ l. s ∷ l) h.is_one;
      none_better = (wins_once _ _ _ _ e, h.none_better);
      first = (e, h.first);
    }
    go false e = record {
      before = [];
      after = ss;
      is_one = refl;
      none_better = (wins_not_itself _ _, All-weaker _ _ (λ t k. wins_not_trans _ _ _ _ _ _ k e) ss h.none_better);
      first = tt;
    }

first_in : (w : ℕ) (ss : List Layout) → 0 < length ss → FirstIn w ss (first_best w ss)
unfolding first_best best_of
first_in w [] h = absurd (omega arith)
first_in w (s ∷ []) h = record { before = []; after = []; is_one = refl; none_better = (wins_not_itself _ _, tt); first = tt }
first_in w (s ∷ t ∷ ts) h =
    subst (FirstIn w (s ∷ t ∷ ts)) (sym (best_of_first w s t ts)) (first_in_more w s (t ∷ ts) (best_of w t ts) (first_in w (t ∷ ts) (omega arith)))

pub best_is_first : BestIsFirst
best_is_first w d =
    let some : 0 < length (all_layouts w d) = rw through_alone at ((met w d 0 Broken _ _ (stop_met w)).some empty) in
    let f = first_in w (all_layouts w d) some in
    record { before = f.before; after = f.after; is_one = f.is_one; none_better = f.none_better; first = f.first }
