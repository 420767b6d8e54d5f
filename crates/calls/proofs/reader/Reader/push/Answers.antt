use Rattle.std.proofs.Common.{[], vec_items, sym, ap, ◌∙◌}
use Rattle.calls.specs.Machine.{goes, a_value_or_close}
use Rattle.calls.specs.Checking.{frames_of}
use Rattle.calls.proofs.Stacks.{stacked_push}
use Rattle.calls.proofs.reader.Reader.push.Goals as goal

pub returns : goal.returns
returns c =
    rw (← c.self.view_is)
    (ap (λ fs. goes fs a_value_or_close)
    (sym (ap frames_of c.in_ok-push.ensures.items ∙ stacked_push (vec_items c.self.inside.stack) _ [])))
