use Rattle.std.proofs.Common.{◌-◌, List, length, sym, subst}
use Rattle.std.specs.Slice.{IsGetResult}
use Rattle.calls.specs.Checking.{frames_of, Innermost}
use Rattle.calls.specs.declared.reader.Frame.{Frame}
use Rattle.calls.proofs.Stacks.{innermost_last}
use Rattle.calls.proofs.reader.Reader.innermost.Goals as goal

pub returns : goal.returns
returns c =
    rw (← c.self.view_is)
    (subst (Innermost (frames_of c.self.inside.stack.items)) (sym c.copied.ensures)
    (innermost_last _ c.last.result
    (subst (λ (fs : List Frame). IsGetResult fs 0 (length fs - 1) c.last.result) c.deref.ensures.value c.last.ensures.item)))
