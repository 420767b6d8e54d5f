use Rattle.std.proofs.Common.{[], refl, ap, arith}
use Rattle.std.proofs.lemmas.Grind.{common_steps}
use Rattle.calls.specs.Values.{bare}
use Rattle.calls.specs.Parsing.{opened_by}
use Rattle.calls.specs.Lexing.{token_of, tokens_left}
use Rattle.calls.specs.Emitting.{held, empty_list, mark_bytes}
use Rattle.calls.proofs.Texts.{goes_on, whole_adds, word_emitted, mark_emitted, none_emitted}
use Rattle.calls.proofs.encoder.Encoder.encode.Goals as goal

pub returns-in_err-held-in-Word : goal.returns-in_err-held-in-Word
returns-in_err-held-in-Word c =
    let parts = word_emitted c.args.source.now.rules.now c.loop-lexeme.waiting.now _ _ _ _ _ c.in-Some.ensures.steps.read (ap token_of c.in-Word.is) in
    rw (← c.loop-lexeme.invariant, ← parts) (grind (arith, common_steps))

pub loop-lexeme-preserved-in-Word : goal.loop-lexeme-preserved-in-Word
loop-lexeme-preserved-in-Word c =
    let parts = word_emitted c.args.source.now.rules.now c.loop-lexeme.waiting.now _ _ _ _ _ c.in-Some.ensures.steps.read (ap token_of c.in-Word.is) in
    goes_on c.loop-lexeme.self.out _ (held c.loop-lexeme.waiting.now) _ _ _ c.in_ok-held-in-Word.ensures parts c.loop-lexeme.invariant

pub returns-in_err-mark-in-Mark : goal.returns-in_err-mark-in-Mark
returns-in_err-mark-in-Mark c =
    let parts = mark_emitted c.args.source.now.rules.now c.loop-lexeme.waiting.now _ _ _ _ _ _ c.in-Some.ensures.steps.read (ap token_of c.in-Mark.is) c.mark.ensures.left in
    rw (← c.loop-lexeme.invariant, ← parts) (grind (arith, common_steps, c.in_err-mark-in-Mark.ensures.adds))

pub loop-lexeme-preserved : goal.loop-lexeme-preserved
loop-lexeme-preserved c =
    let rules = c.args.source.now.rules.now in
    let opened = opened_by rules c.in-Mark.byte in
    let parts = mark_emitted c.args.source.now.rules.now c.loop-lexeme.waiting.now _ _ _ _ _ _ c.in-Some.ensures.steps.read (ap token_of c.in-Mark.is) c.mark.ensures.left in
    goes_on c.loop-lexeme.self.out _ (mark_bytes rules c.loop-lexeme.waiting.now c.in-Mark.byte opened (empty_list opened (bare (tokens_left c.next.new.self)))) _ _ _ c.in_ok-mark-in-Mark.ensures.adds parts c.loop-lexeme.invariant

pub returns : goal.returns
returns c =
    let parts = none_emitted c.args.source.now.rules.now c.loop-lexeme.waiting.now _ c.in_default.ensures.steps.0 in
    rw (← c.loop-lexeme.invariant, ← parts) (whole_adds [] c.loop-lexeme.self.out _ (held c.loop-lexeme.waiting.now) _ c.held-2.result refl c.held-2.ensures)
