use Rattle.std.proofs.Common.{◌+◌, refl, ap}
use Rattle.layout.proofs.Going.{begun}
use Rattle.layout.proofs.search.Search.begin.Goals as goal

pub returns : goal.returns
returns c =
    let e = c.default.ensures in
    record {
      width_is = refl;
      row_is = begun c.args.width _ _ _ _ (ap (λ n. n + 1) c.from.ensures) c.clear.ensures (λ i. record { beyond = e.0 i; lines = e.1 i }) c.resize.ensures;
      offset_is = refl;
      flat_is = refl;
      none_saved = c.clear-2.ensures;
      none_noted = c.clear-3.ensures;
    }
