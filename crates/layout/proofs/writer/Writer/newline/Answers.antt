use Rattle.std.proofs.Common.{ℕ, ◌∷◌, replicate, refl, arith}
use lib.ListN.{length-replicate}
use Rattle.layout.proofs.Steps.{text_over, line_wrote, filled_up}
use Rattle.layout.proofs.writer.Writer.newline.Goals as goal

pub returns-then-end-gt-MOST_LAYOUT : goal.returns-then-end-gt-MOST_LAYOUT
returns-then-end-gt-MOST_LAYOUT c = λ w l left h.
    text_over (10 ∷ replicate c.args.indent 32) (omega (arith, length-replicate {A = ℕ} c.args.indent 32)) h

pub returns : goal.returns
returns c = λ w l left h.
    line_wrote _ _ w _ (filled_up _ _ _ _ c.args.indent c.push.ensures (omega (arith, c.len.ensures.count)) c.resize.ensures) refl refl refl h
