use Rattle.std.proofs.Common.{[], ◌∷◌, ◌++◌, refl, ap, ◌∙◌, arith}
use Rattle.std.proofs.lemmas.Grind.{common_steps}
use Rattle.doc.specs.Doc.{text}
use Rattle.doc.specs.Laws.{encode}
use Rattle.calls.specs.Values.{word_doc}
use Rattle.calls.proofs.Texts.{goes_on, whole_adds, part_bytes}
use Rattle.calls.proofs.encoder.Encoder.word.Goals as goal

pub returns-in_err-bytes : goal.returns-in_err-bytes
returns-in_err-bytes c =
    let now = c.loop-rest.self.out in
    let parts = part_bytes c.loop-rest.rest.now c.args.tail.now c.split_at.result.0.now c.split_at.result.1.now c.split_at.ensures.by_index.0 (omega arith) (omega arith) in
    whole_adds c.args.self.now.out now _ _ (encode (word_doc (c.args.name.now ++ c.args.tail.now))) c.from_residual.result (ap (λ z. now ++ z) parts ∙ c.loop-rest.invariant) (grind (arith, common_steps))

pub returns-in_err-text : goal.returns-in_err-text
returns-in_err-text c =
    let now = c.loop-rest.self.out in
    let parts = part_bytes c.loop-rest.rest.now c.args.tail.now c.split_at.result.0.now c.split_at.result.1.now c.split_at.ensures.by_index.0 (omega arith) (omega arith) in
    whole_adds c.args.self.now.out now _ _ (encode (word_doc (c.args.name.now ++ c.args.tail.now))) c.from_residual-in_err-text.result (ap (λ z. now ++ z) parts ∙ c.loop-rest.invariant) (grind (arith, common_steps))

pub loop-rest-preserved : goal.loop-rest-preserved
loop-rest-preserved c =
    let parts = part_bytes c.loop-rest.rest.now c.args.tail.now c.split_at.result.0.now c.split_at.result.1.now c.split_at.ensures.by_index.0 (omega arith) (omega arith) in
    goes_on c.bytes.new.self.out _ (encode (text (c.split_at.result.0.now ++ []))) _ _ _ c.in_ok-text.ensures refl
    (goes_on c.loop-rest.self.out _ (2 ∷ []) _ _ _ c.in_ok-bytes.ensures parts c.loop-rest.invariant)
