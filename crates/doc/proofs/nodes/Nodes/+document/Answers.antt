use Rattle.std.proofs.Common.{ap, ◌∙◌, arith}
use Rattle.doc.proofs.Parsing.{nil_read, line_read, text_read, not_text, cat_read, not_first, not_second, nest_read, not_byte, not_nested, group_read, not_grouped, read_fits, longer}
use Rattle.doc.specs.Tags.{byte_of}
use Rattle.doc.proofs.nodes.Nodes.+document.Goals as goal

pub returns-in-Nil : goal.returns-in-Nil
returns-in-Nil t c = let b = c.in_ok-tag.ensures in rw c.leaf.ensures.end (nil_read _ _ b.0 (b.1 ∙ ap byte_of c.in-Nil.is) _ _ c.leaf.ensures.items)

pub returns-in-Line : goal.returns-in-Line
returns-in-Line t c = let b = c.in_ok-tag.ensures in rw c.leaf-in-Line.ensures.end (line_read _ _ b.0 (b.1 ∙ ap byte_of c.in-Line.is) _ _ c.leaf-in-Line.ensures.items)

pub returns-in_err-len-in-Text : goal.returns-in_err-len-in-Text
returns-in_err-len-in-Text t c =
    let b = c.in_ok-tag.ensures in
    rw c.from_residual-in_err-len-in-Text.ensures (not_text _ _ b.0 (b.1 ∙ ap byte_of c.in-Text.is) c.in_err-len-in-Text.ensures)

pub returns-in_ok-len-in-Text : goal.returns-in_ok-len-in-Text
returns-in_ok-len-in-Text t c =
    let b = c.in_ok-tag.ensures in
    let x = c.in_ok-len-in-Text.ensures in
    rw (c.leaf-in-Text.ensures.end, c.from.ensures)
    (text_read _ _ b.0 (b.1 ∙ ap byte_of c.in-Text.is) _ x.0 x.1 x.2 x.3 (omega arith) _ _ c.leaf-in-Text.ensures.items)

pub returns-in_err-middle-in-Cat : goal.returns-in_err-middle-in-Cat
returns-in_err-middle-in-Cat t c =
    let b = c.in_ok-tag.ensures in
    rw c.from_residual-in_err-middle-in-Cat.ensures (not_first _ _ b.0 (b.1 ∙ ap byte_of c.in-Cat.is) c.in_err-middle-in-Cat.ensures)

pub document-requires-in-Cat : goal.document-requires-in-Cat
document-requires-in-Cat t c =
    let b = c.in_ok-tag.ensures in
    let f = read_fits _ _ _ _ _ c.in_ok-middle-in-Cat.ensures (omega (arith, longer _ _ _ c.add-place.ensures.items, c.requires)) in
    (omega (arith, b.0, c.decreases, f.2), f.0)

pub returns-in_err-end-in-Cat : goal.returns-in_err-end-in-Cat
returns-in_err-end-in-Cat t c =
    let b = c.in_ok-tag.ensures in
    rw c.from_residual-in_err-end-in-Cat.ensures
    (not_second _ _ b.0 (b.1 ∙ ap byte_of c.in-Cat.is) _ _ _ c.in_ok-middle-in-Cat.ensures c.in_err-end-in-Cat.ensures)

pub returns-in_ok-end-in-Cat : goal.returns-in_ok-end-in-Cat
returns-in_ok-end-in-Cat t c =
    let b = c.in_ok-tag.ensures in
    cat_read _ _ b.0 (b.1 ∙ ap byte_of c.in-Cat.is) _ _ _ _ _ _ _ _ c.add-place.ensures.place c.add-place.ensures.items
    c.in_ok-middle-in-Cat.ensures c.in_ok-end-in-Cat.ensures c.close.ensures

pub returns-in_err-k-in-Nest : goal.returns-in_err-k-in-Nest
returns-in_err-k-in-Nest t c =
    let b = c.in_ok-tag.ensures in
    rw c.from_residual-in_err-k-in-Nest.ensures (not_byte _ _ b.0 (b.1 ∙ ap byte_of c.in-Nest.is) c.in_err-k-in-Nest.ensures)

pub returns-in_err-end-in-Nest : goal.returns-in_err-end-in-Nest
returns-in_err-end-in-Nest t c =
    let b = c.in_ok-tag.ensures in
    rw c.from_residual-in_err-end-in-Nest.ensures
    (not_nested _ _ b.0 (b.1 ∙ ap byte_of c.in-Nest.is) c.in_ok-k-in-Nest.ensures.0 c.in_err-end-in-Nest.ensures)

pub returns-in_ok-end-in-Nest : goal.returns-in_ok-end-in-Nest
returns-in_ok-end-in-Nest t c =
    let b = c.in_ok-tag.ensures in
    let k = c.in_ok-k-in-Nest.ensures in
    nest_read _ _ b.0 (b.1 ∙ ap byte_of c.in-Nest.is) _ k.0 k.1 (omega arith) _ _ _ _ _ _ c.add-place-in-Nest.ensures.place
    c.add-place-in-Nest.ensures.items c.in_ok-end-in-Nest.ensures c.close-in-Nest.ensures

pub returns-in_err-end-in-Group : goal.returns-in_err-end-in-Group
returns-in_err-end-in-Group t c =
    let b = c.in_ok-tag.ensures in
    rw c.from_residual-in_err-end-in-Group.ensures (not_grouped _ _ b.0 (b.1 ∙ ap byte_of c.in-Group.is) c.in_err-end-in-Group.ensures)

pub returns-in_ok-end-in-Group : goal.returns-in_ok-end-in-Group
returns-in_ok-end-in-Group t c =
    let b = c.in_ok-tag.ensures in
    group_read _ _ b.0 (b.1 ∙ ap byte_of c.in-Group.is) _ _ _ _ _ _ c.add-place-in-Group.ensures.place c.add-place-in-Group.ensures.items
    c.in_ok-end-in-Group.ensures c.close-in-Group.ensures
