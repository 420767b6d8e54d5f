use Rattle.std.proofs.Common.{◌≡◌, [], length}
use Rattle.calls.specs.Tokens.{tokens}
use Rattle.calls.specs.Lexing.{tokens_left}
use Rattle.calls.specs.Machine.{machine, a_value}
use Rattle.calls.specs.Checking.{expects_of}
use Rattle.calls.proofs.reader.Reader.check.Given as goal

-- what is left decides
abbrev pub invariant-loop-lexeme : goal.invariant-loop-lexeme
invariant-loop-lexeme l =
    machine l.source.rules.now (length l.source.bytes.now) l.self (expects_of l.expects) (tokens_left l.lexeme-iterator)
    ≡ machine l.source.rules.now (length l.source.bytes.now) [] a_value (tokens l.source.rules.now 0 l.source.bytes.now)
