use Rattle.std.proofs.Common.{sym, refl, ◌∙◌, subst}
use Rattle.calls.specs.Calling.{CallSays}
use Rattle.calls.proofs.Called.{faulty_answer, long_answer, laid_answer}
use Rattle.calls.proofs.Stacks.{passed_on}
use Rattle.calls.proofs.calling.set_call.Goals as goal

pub returns-in_err-check-clause-says : goal.returns-in_err-check-clause-says
returns-in_err-check-clause-says c =
    subst (λ r. CallSays c.args.rules.now c.args.source.now c.args.width c.args.out.now r c.args.out.now) (sym (passed_on _ _ c.from_residual.ensures.1))
    (faulty_answer _ _ c.args.width _ _ (sym c.unambiguous.ensures ∙ c.if-not-unambiguous.false) _ c.in_err-check.ensures refl)

pub returns-in_default-clause-says : goal.returns-in_default-clause-says
returns-in_default-clause-says c =
    long_answer _ _ _ _ _ (sym c.unambiguous.ensures ∙ c.if-not-unambiguous.false) c.in_ok-check.ensures c.in_default.ensures refl

pub returns-in_err-lay_out-clause-says : goal.returns-in_err-lay_out-clause-says
returns-in_err-lay_out-clause-says c =
    subst (λ r. CallSays c.args.rules.now c.args.source.now c.args.width c.args.out.now r c.lay_out.new.out) (sym (passed_on _ _ c.from_residual-in_err-lay_out.ensures.1))
    (laid_answer _ _ _ _ _ (sym c.unambiguous.ensures ∙ c.if-not-unambiguous.false) c.in_ok-check.ensures _ _ (c.as_slice-encoded.ensures.items ∙ c.in-Ok.ensures) c.in_err-lay_out.ensures.laid)

pub returns-clause-says : goal.returns-clause-says
returns-clause-says c =
    laid_answer _ _ _ _ _ (sym c.unambiguous.ensures ∙ c.if-not-unambiguous.false) c.in_ok-check.ensures _ _ (c.as_slice-encoded.ensures.items ∙ c.in-Ok.ensures) c.in_ok-lay_out.ensures.laid
