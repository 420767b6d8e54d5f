-- What a row of reserved items ends as, where its items are lent for writing. Assumes nothing: this is a definition.
use Rattle.std.specs.Prelude.{List, length}
use Rattle.std.specs.List.{refill}
use Rattle.std.specs.Borrow.{Lends, Fml, RattleType, MutBor, Array}
use Rattle.doc.specs.contracts.reserved.Reserved.{the_row}

-- once r is given back, the items are those that r shows last
abbrev pub LendsItems : (T MOST : RattleType) → MutBor (List T.Denot) → MutBor (List T.Denot) → Fml
LendsItems T MOST v r = Lends (the_row T MOST) (Array T 0) v r (refill (length v.now) v.now)
