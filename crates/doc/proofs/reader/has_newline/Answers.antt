use Rattle.std.proofs.Common.{◌≡◌, eqb, refl}
use Rattle.std.proofs.lemmas.List.Elements.{contains_decides}
use Rattle.std.proofs.lemmas.Bool.Decides.{same_from_decides, Decides-by_or, Decides-eqb}
use Rattle.doc.specs.Encoding.{has_newline}
use Rattle.doc.proofs.reader.has_newline.Goals as goal

pub returns : goal.returns
returns c =
    same_from_decides _ _ (contains_decides eqb Decides-eqb c.args.text.now 10 c.contains.result c.contains.ensures.cases)
    (Decides-by_or (λ x. eqb x 10) (λ x. x ≡ 10) has_newline (λ x. Decides-eqb x 10) refl (λ _ _. refl) c.args.text.now)
