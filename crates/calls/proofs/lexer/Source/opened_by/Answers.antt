use Rattle.std.proofs.Common.{eqb, rules, tests, ◌∙◌}
use Rattle.std.proofs.lemmas.Iterator.{YieldsList-from_slice}
use Rattle.std.proofs.lemmas.Iterator.Search.{find_from_yields_List}
use Rattle.calls.proofs.lexer.Source.opened_by.Goals as goal

pub returns : goal.returns
returns c =
    c.copied.ensures
    ∙ find_from_yields_List (λ r. eqb c.args.byte r.open) _ _ c.find.result c.find.ensures.ran (YieldsList-from_slice c.args.self.now.rules.now cc) (λ x b q k. search (rules, tests))
