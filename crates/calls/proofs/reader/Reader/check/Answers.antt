use Rattle.std.proofs.Common.{sym, ◌∙◌, subst}
use Rattle.calls.specs.Checking.{Told}
use Rattle.calls.proofs.Stacks.{machine_ends, machine_goes, machine_told, passed_on}
use Rattle.calls.proofs.reader.Reader.check.Goals as goal

pub returns-in_err-expects : goal.returns-in_err-expects
returns-in_err-expects c =
    subst (λ o. Told o c.from_residual.result) c.loop-lexeme.invariant
    (subst (Told _) (sym (passed_on _ _ c.from_residual.ensures.1))
    (machine_told _ _ _ _ _ _ _ c.step.new.self _ c.in-Some.ensures.steps c.in_err-expects.ensures))

pub loop-lexeme-preserved : goal.loop-lexeme-preserved
loop-lexeme-preserved c = sym (machine_goes _ _ _ _ _ _ _ _ _ c.in-Some.ensures.steps c.in_ok-expects.ensures) ∙ c.loop-lexeme.invariant

pub returns : goal.returns
returns c =
    subst (λ o. Told o c.at_end.result) (sym (machine_ends _ _ _ _ _ c.next.new.self c.in-None.ensures.steps.0) ∙ c.loop-lexeme.invariant) c.at_end.ensures.says
