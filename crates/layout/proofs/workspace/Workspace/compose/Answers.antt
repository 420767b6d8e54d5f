use Rattle.std.proofs.Common.{◌≡◌, ℕ, List, Ok, Err, sym, ◌∙◌, subst, arith}
use Rattle.doc.specs.Nodes.{RowOf}
use Rattle.doc.specs.declared.node.Node.{Node}
use Rattle.layout.specs.Entry.{the_best}
use Rattle.layout.proofs.Answering.{whole_quest, whole_notes, whole_task, whole_written}
use Rattle.layout.proofs.Tasks.{at_error}
use Rattle.layout.proofs.workspace.Workspace.compose.Goals as goal

-- the nodes that were read, as they are lent
lent : (s : List ℕ) (row ns : List Node) → ns ≡ row → RowOf s row → RowOf s ns
lent s row ns e r = subst (RowOf s) (sym e) r

pub search-requires : goal.search-requires
search-requires g c = whole_quest _ _ (lent _ _ _ c.as_slice-nodes.ensures c.requires) _ _ c.begin.ensures

pub write-requires : goal.write-requires
write-requires g c =
    let r = lent _ _ _ c.as_slice-nodes.ensures c.requires in
    whole_task _ r _ (c.as_slice-notes.ensures.items ∙ whole_notes _ _ r _ _ c.search.new.self c.begin.ensures c.search.ensures) c.begin-2.ensures.left_are

pub returns-in_err-write : goal.returns-in_err-write
returns-in_err-write g c =
    let r = lent _ _ _ c.as_slice-nodes.ensures c.requires in
    at_error c.from_residual.result _ _ c.from_residual.ensures.0
    (whole_written _ r c.begin-2.new.self c.write.new.self (Err _)
    (c.as_slice-notes.ensures.items ∙ whole_notes _ _ r _ _ c.search.new.self c.begin.ensures c.search.ensures) c.begin-2.ensures c.in_err-write.ensures)

pub returns : goal.returns
returns g c =
    let u = c.write.new.self in
    let r = lent _ _ _ c.as_slice-nodes.ensures c.requires in
    let best : (u.out ≡ (the_best c.args.spelled.now c.args.width).out) × (u.lines ≡ (the_best c.args.spelled.now c.args.width).lines) =
    whole_written _ r c.begin-2.new.self u (Ok tt)
    (c.as_slice-notes.ensures.items ∙ whole_notes _ _ r _ _ c.search.new.self c.begin.ensures c.search.ensures) c.begin-2.ensures c.in_ok-write.ensures in
    (best.1, omega (arith, u.fewer, u.short), best.0, omega (arith, u.short))
