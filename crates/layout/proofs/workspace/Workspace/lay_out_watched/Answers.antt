use Rattle.std.proofs.Common.{length, refl, ap, ◌∙◌, arith}
use Rattle.layout.proofs.Answering.{no_document, too_wide, says_refused, answer_long, answer_short, answer_laid}
use Rattle.layout.proofs.workspace.Workspace.lay_out_watched.Goals as goal

pub returns-in_default-clause-laid : goal.returns-in_default-clause-laid
returns-in_default-clause-laid g c = says_refused _ _ _ _ _ _ (no_document _ _ _ c.in_default.ensures.1) refl

pub returns-in_default-narrow-clause-laid : goal.returns-in_default-narrow-clause-laid
returns-in_default-narrow-clause-laid g c = says_refused _ _ _ _ _ _ (too_wide _ _ _ _ c.in-Ok.ensures.decoded c.in_default-narrow.ensures) refl

pub returns-in_default-compose-clause-laid : goal.returns-in_default-compose-clause-laid
returns-in_default-compose-clause-laid g c =
    let w = c.in-Some.ensures in
    answer_long _ _ _ _ _ _ c.in-Ok.ensures.decoded w.0 w.1 c.in_default-compose.ensures refl

pub returns-in_default-copied-clause-laid : goal.returns-in_default-copied-clause-laid
returns-in_default-copied-clause-laid g c =
    let w = c.in-Some.ensures in
    let laid = c.in-Ok-compose.ensures in
    let lent = c.as_slice.ensures.items in
    let none = c.in_default-copied.ensures in
    answer_short _ _ _ _ _ _ c.in-Ok.ensures.decoded w.0 w.1 c.as_slice.result.now (lent ∙ laid.2) (omega (arith, ap length lent, laid.3)) none.0 none.1

pub returns-clause-laid : goal.returns-clause-laid
returns-clause-laid g c =
    let w = c.in-Some.ensures in
    let laid = c.in-Ok-compose.ensures in
    let lent = c.as_slice.ensures.items in
    let done = c.in-Some-copied.ensures in
    answer_laid _ _ _ _ _ _ c.in-Ok.ensures.decoded w.0 w.1 c.as_slice.result.now (lent ∙ laid.2) (omega (arith, ap length lent, laid.3)) _ laid.0 done.0 done.1 done.2
