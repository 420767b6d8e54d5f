use Rattle.std.proofs.Common.{◌≡◌, ◌++◌, length}
use Rattle.doc.specs.Laws.{encode}
use Rattle.calls.specs.Values.{word_doc}
use Rattle.calls.proofs.encoder.Encoder.word.Given as goal

-- what is left of the word is to come
abbrev pub invariant-loop-rest : goal.invariant-loop-rest
invariant-loop-rest l =
    l.self.out ++ encode (word_doc (l.rest ++ l.tail)) ≡ l.fn.self.out ++ encode (word_doc (l.fn.name ++ l.tail))

abbrev pub decreases-loop-rest : goal.decreases-loop-rest
decreases-loop-rest l = length l.rest
