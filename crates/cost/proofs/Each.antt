-- What holds of each layout of a list that is made of others.
use Rattle.std.proofs.Common.{ℕ, List, [], ◌∷◌}
use Rattle.std.specs.List.{AllByRecursion}
use Rattle.std.proofs.ByRecursion.{All-append}
use Rattle.cost.specs.Layout.{Layout, with_text, with_line, line_layouts, group_layouts, through}
use Rattle.cost.specs.declared.price.Mode.{Mode}
use Rattle.cost.specs.declared.price.Mode.TheVariants.{Flat, Broken}

pub each_through :
    (P Q : Layout → Type 0) (f : Layout → List Layout) → ((s : Layout) → P s → AllByRecursion Q (f s)) →
    (ss : List Layout) → AllByRecursion P ss → AllByRecursion Q (through f ss)
unfolding through
each_through P Q f g [] h = tt
each_through P Q f g (s ∷ ss) h = All-append Q (f s) (through f ss) (g s h.0) (each_through P Q f g ss h.1)

module _ (P : Layout → Type 0) where
  pub each_line : (w i : ℕ) (m : Mode) (s : Layout) → P (with_text (32 ∷ []) s) → P (with_line w i s) → AllByRecursion P (line_layouts w i m s)
  each_line w i Flat s h k = (h, tt)
  each_line w i Broken s h k = (k, tt)

  pub each_group : (m : Mode) (flat broken : List Layout) → AllByRecursion P flat → AllByRecursion P broken → AllByRecursion P (group_layouts m flat broken)
  each_group Flat flat broken h k = h
  each_group Broken flat broken h k = All-append P flat broken h k
