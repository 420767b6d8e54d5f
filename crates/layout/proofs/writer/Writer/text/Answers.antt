use Rattle.std.proofs.Common.{refl}
use Rattle.layout.proofs.Steps.{text_wrote}
use Rattle.layout.proofs.writer.Writer.text.Goals as goal

pub returns : goal.returns
returns c = λ l left h. text_wrote _ _ _ c.in_ok-try_extend_from_slice.ensures.takes refl refl refl h
