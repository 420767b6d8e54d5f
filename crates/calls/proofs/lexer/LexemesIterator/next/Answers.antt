use Rattle.std.proofs.Common.{length, arith, rules, sym, ap, ◌∙◌}
use Rattle.std.proofs.lemmas.List.{nil_from_length}
use Rattle.std.proofs.lemmas.List.Sums.{prefix_len-le-length}
use Rattle.calls.specs.Tokens.{blank, in_word}
use Rattle.calls.specs.Lexing.{tokens_left}
use Rattle.calls.proofs.Scanning.{none_next, mark_next, word_next_is, word_formed}
use Rattle.calls.proofs.lexer.LexemesIterator.next.Goals as goal

pub split_at-requires : goal.split_at-requires
split_at-requires c = let le = prefix_len-le-length blank c.args.self.now.rest.now in omega (arith, le, c.blanks.ensures)

pub split_at-requires-2 : goal.split_at-requires-2
split_at-requires-2 c = let le = prefix_len-le-length (in_word c.args.self.now.source.rules.now) c.split_at.result.1.now in omega (arith, le, c.word_len.ensures)

pub returns-in_err-byte-clause-steps : goal.returns-in_err-byte-clause-steps
unfolding tokens_left
returns-in_err-byte-clause-steps c =
    let s = c.args.self.now in
    let none = none_next s.source.rules.now (length s.source.bytes.now) s.rest.now _ c.split_at.result.1.now s.within c.blanks.ensures c.split_at.ensures.back (nil_from_length _ c.in_err-byte.ensures.cases) in
    rw c.from_residual.ensures (none, none)

pub returns-then-is_mark-clause-steps : goal.returns-then-is_mark-clause-steps
unfolding tokens_left
returns-then-is_mark-clause-steps c =
    let s = c.args.self.now in
    let marked = sym c.is_mark.ensures ∙ c.if-is_mark.true in
    record {
      read = mark_next s.source.rules.now _ s.rest.now _ _ s.within c.blanks.ensures c.split_at.ensures.back _ _ c.in_ok-byte.ensures.cases.0 marked;
      formed = marked;
    }

pub returns-then-is_mark-clause-goes : goal.returns-then-is_mark-clause-goes
unfolding tokens_left
returns-then-is_mark-clause-goes c =
    let s = c.args.self.now in
    let step = mark_next s.source.rules.now (length s.source.bytes.now) s.rest.now _ c.split_at.result.1.now s.within c.blanks.ensures c.split_at.ensures.back _ c.in_ok-byte.behind.now c.in_ok-byte.ensures.cases.0 (sym c.is_mark.ensures ∙ c.if-is_mark.true) in
    let shorter = ap length step in search rules

pub returns-clause-steps : goal.returns-clause-steps
unfolding tokens_left
returns-clause-steps c =
    let s = c.args.self.now in
    let unmarked = sym c.is_mark.ensures ∙ c.if-is_mark.false in
    let front = c.split_at-2.ensures.front in
    let back = c.split_at-2.ensures.back in
    record {
      read = word_next_is s.source.rules.now _ s.rest.now _ _ s.within c.blanks.ensures c.split_at.ensures.back _ _ c.in_ok-byte.ensures.cases.0 _ _ _ unmarked c.word_len.ensures front back;
      formed = word_formed s.source.rules.now _ s.rest.now _ _ s.within c.blanks.ensures c.split_at.ensures.back _ _ c.in_ok-byte.ensures.cases.0 _ _ _ unmarked c.word_len.ensures front back;
    }

pub returns-clause-goes : goal.returns-clause-goes
unfolding tokens_left
returns-clause-goes c =
    let s = c.args.self.now in
    let unmarked = sym c.is_mark.ensures ∙ c.if-is_mark.false in
    let step = word_next_is s.source.rules.now (length s.source.bytes.now) s.rest.now _ c.split_at.result.1.now s.within c.blanks.ensures c.split_at.ensures.back _ _ c.in_ok-byte.ensures.cases.0 _ _ c.split_at-2.result.1.now unmarked c.word_len.ensures c.split_at-2.ensures.front c.split_at-2.ensures.back in
    let shorter = ap length step in search rules
