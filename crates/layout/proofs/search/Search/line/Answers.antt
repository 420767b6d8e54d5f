use Rattle.std.proofs.Common.{length, refl, ap, ◌∙◌, arith}
use lib.ListN.{length-replicate}
use Rattle.doc.proofs.Reserving.{given_back}
use Rattle.layout.proofs.Going.{line_row}
use Rattle.layout.proofs.search.Search.line.Goals as goal

pub returns : goal.returns
returns c =
    let is =
    line_row c.args.self.now.width _ _ _ _ _ _ _ c.as_slice.ensures.items c.as_mut_slice.ensures.items
    (omega (arith, c.args.self.now.long)) c.along.ensures c.line_more-cost.ensures c.collapse.ensures in
    record {
      width = refl;
      row = given_back c.args.self.now.row c.collapse.new.row (ap length c.collapse.ensures ∙ length-replicate _ _ ∙ ap length c.as_mut_slice.ensures.items) ∙ is;
      offset = (refl, refl);
      saved = refl;
      notes = refl;
    }
