use Rattle.std.proofs.Common.{◌≡◌, false, [], ◌++◌, length}
use Rattle.calls.specs.Tokens.{tokens}
use Rattle.calls.specs.Values.{bare}
use Rattle.calls.specs.Lexing.{tokens_left}
use Rattle.calls.specs.Emitting.{emit}
use Rattle.calls.proofs.encoder.Encoder.encode.Given as goal

-- what the tokens that are left make is to come
abbrev pub invariant-loop-lexeme : goal.invariant-loop-lexeme
invariant-loop-lexeme l =
    l.self.out ++ emit l.source.rules.now l.waiting false (bare (tokens_left l.lexemes))
    ≡ emit l.source.rules.now [] false (bare (tokens l.source.rules.now 0 l.source.bytes.now))

abbrev pub decreases-loop-lexeme : goal.decreases-loop-lexeme
decreases-loop-lexeme l = length (tokens_left l.lexemes)
