use Rattle.std.proofs.Common.{◌≡◌, length, vec_items, vec_len, rules}
use Rattle.calls.proofs.Stacks.{popped_last}
use Rattle.calls.proofs.reader.Reader.pop.Goals as goal

pub returns : goal.returns
returns c =
    let len : length (vec_items c.self.inside.stack) ≡ vec_len c.self.inside.stack = search rules in
    rw (← c.self.view_is) (popped_last _ (vec_items c.pop.new.self) _ len c.pop.ensures.rest)
