use Rattle.std.proofs.Common.{◌+◌, sym, refl, ap, ◌∙◌, arith}
use Rattle.doc.specs.declared.node.Kind.TheVariants.{Nest}
use Rattle.layout.proofs.Going.{within, first_within, second_after, second_quest, first_quest, nest_quest, room_to_save, group_quest, group_ready, nil_found, text_found, line_found, nest_found, cat_found, group_found}
use Rattle.layout.proofs.search.Search.+search.Goals as goal

pub bounds-tree-at : goal.bounds-tree-at
bounds-tree-at t c = within _ _ _ _ c.requires

pub bounds-tree-at-in-Cat : goal.bounds-tree-at-in-Cat
bounds-tree-at-in-Cat t c = first_within _ _ _ _ c.requires c.in-Cat.is

pub search-requires : goal.search-requires
search-requires t c =
    (omega (arith, within _ _ _ _ c.requires, c.decreases, second_after _ _ _ _ c.requires c.in-Cat.is _ refl), second_quest _ _ _ _ c.requires c.in-Cat.is _ refl)

pub search-requires-in-Cat : goal.search-requires-in-Cat
search-requires-in-Cat t c =
    (omega (arith, within _ _ _ _ c.requires, c.decreases), first_quest _ _ _ _ c.requires c.in-Cat.is _ refl _ c.search.ensures)

pub search-requires-in-Nest : goal.search-requires-in-Nest
search-requires-in-Nest t c =
    (omega (arith, within _ _ _ _ c.requires, c.decreases), nest_quest _ _ _ _ c.requires _ (c.in-Nest.is ∙ ap Nest (sym c.from-in-Nest.ensures)))

pub save-requires : goal.save-requires
save-requires t c = room_to_save _ _ _ _ c.requires

pub search-requires-in-Group : goal.search-requires-in-Group
search-requires-in-Group t c =
    (omega (arith, within _ _ _ _ c.requires, c.decreases), group_quest _ _ _ _ c.requires c.in-Group.is _ c.save.ensures)

pub overflow_sub-self : goal.overflow_sub-self
overflow_sub-self t c = omega (arith, (group_ready _ _ _ _ c.requires c.in-Group.is _ c.save.ensures _ c.search-in-Group.ensures).further)

pub merge_saved-requires : goal.merge_saved-requires
merge_saved-requires t c =
    let ready = group_ready _ _ _ _ c.requires c.in-Group.is _ c.save.ensures _ c.search-in-Group.ensures in
    record {
      kept = ready.kept;
      room = ready.room;
      near = (omega (arith, c.search-in-Group.new.self.near, ready.short), omega (arith, ready.short));
    }

pub returns-in-Nil : goal.returns-in-Nil
returns-in-Nil t c = nil_found _ _ _ _ _ c.in-Nil.is refl refl refl refl refl refl

pub returns-in-Text : goal.returns-in-Text
returns-in-Text t c = text_found _ _ _ _ _ _ _ c.in-Text.is refl refl refl refl (ap (λ n. c.args.self.now.offset + n) c.from.ensures) (ap (λ n. c.args.self.now.flat + n) c.from-in-Text.ensures)

pub returns-in-Cat : goal.returns-in-Cat
returns-in-Cat t c = cat_found _ _ _ _ _ _ _ c.in-Cat.is refl c.search.ensures c.search-in-Cat.ensures

pub returns-in-Nest : goal.returns-in-Nest
returns-in-Nest t c = nest_found _ _ _ _ _ _ (c.in-Nest.is ∙ ap Nest (sym c.from-in-Nest.ensures)) c.search-in-Nest.ensures

pub returns-in-Line : goal.returns-in-Line
returns-in-Line t c =
    let e = c.line.ensures in
    line_found _ _ _ _ _ c.in-Line.is e.width e.saved e.notes e.row e.offset.0 e.offset.1

pub returns-in-Group : goal.returns-in-Group
returns-in-Group t c =
    group_found _ _ _ _ _ _ _ _ c.in-Group.is c.save.ensures c.search-in-Group.ensures refl c.merge_saved.ensures
