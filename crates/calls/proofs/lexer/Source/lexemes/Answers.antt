use Rattle.std.proofs.Common.{ap, arith}
use Rattle.calls.specs.Tokens.{tokens}
use Rattle.calls.specs.Lexing.{tokens_left}
use Rattle.calls.proofs.lexer.Source.lexemes.Goals as goal

pub returns : goal.returns
unfolding tokens_left
returns c = ap (λ n. tokens c.args.self.now.rules.now n c.args.self.now.bytes.now) (omega arith)
