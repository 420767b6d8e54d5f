-- The list of a function's values below a number, by its length and its elements. Assumes nothing.
use Rattle.std.proofs.Common.{◌≡◌, ℕ, zero, suc, ◌<◌, List, [], ◌∷◌, length, get_or, sym, refl, ap, ◌∙◌, ⊎_elim, arith}
use Rattle.std.proofs.lemmas.List.{same_lists, length_push, get_or_push, get_or_append_left}
use Rattle.std.proofs.lemmas.Bool.{cases_lt}
use Rattle.cost.specs.Chosen.{below}

module _ {A : Type 0} (f : ℕ → A) where
  pub length_below : (n : ℕ) → length (below f n) ≡ n
  unfolding below
  length_below zero = refl
  length_below (suc n) = omega (arith, length_push (below f n) (f n), length_below n)

  pub get_or_below : (n c : ℕ) (d : A) → c < n → get_or (below f n) c d ≡ f c
  unfolding below
  get_or_below zero c d h = absurd (omega arith)
  get_or_below (suc n) c d h =
      ⊎_elim
      (λ under. get_or_append_left (below f n) (f n ∷ []) d c (omega (arith, length_below n)) ∙ get_or_below n c d under)
      (λ last. let e : n ≡ c = omega arith in get_or_push (below f n) (f n) d c (length_below n ∙ e) ∙ ap f e)
      (cases_lt c n)

  -- no other list has this length and these elements
  pub only_below : (n : ℕ) (xs : List A) → length xs ≡ n → ((c : ℕ) (d : A) → c < n → get_or xs c d ≡ f c) → xs ≡ below f n
  only_below n xs e h =
      same_lists xs (below f n) (e ∙ sym (length_below n)) (λ c d l. let under : c < n = omega arith in h c d under ∙ sym (get_or_below n c d under))
