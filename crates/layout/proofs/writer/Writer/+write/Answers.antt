use Rattle.std.proofs.Common.{◌≡◌, ℕ, ◌+◌, ◌-◌, ◌≤◌, length, take, drop, sym, ap, ◌∙◌, arith, rules}
use Rattle.doc.specs.declared.node.Kind.TheVariants.{Text, Nest}
use Rattle.layout.proofs.Tasks.{place, text_ready, nil_writes, text_writes, line_writes, flat_line, broken_line, nest_ready, nest_writes, cat_places, first_ready, second_ready, cat_stops, cat_writes, group_places, group_ready, group_writes}
use Rattle.layout.proofs.writer.Writer.+write.Goals as goal

-- a part of the source is as long as its bounds say
cut : (a n : ℕ) → a + n - a ≡ n
cut a n = omega arith

pub offset_bounds-plan-at : goal.offset_bounds-plan-at
offset_bounds-plan-at n c = omega (arith, place c.requires, c.requires.few)

pub bounds-plan-at : goal.bounds-plan-at
bounds-plan-at n c = place c.requires

pub slice_bounds-text-end : goal.slice_bounds-text-end
slice_bounds-text-end n c =
    let q = text_ready _ _ _ c.args.mode c.args.self.now _ _ c.in-Text.is c.requires in
    let h : c.in-Text.start + c.in-Text.len ≤ length c.args.plan.now.source.now = q.0 in
    search rules

pub bounds-plan-at-in-Cat : goal.bounds-plan-at-in-Cat
bounds-plan-at-in-Cat n c = (cat_places _ _ _ c.args.mode c.args.self.now c.in-Cat.is c.requires).0

pub write-requires : goal.write-requires
write-requires n c = (omega (arith, place c.requires, c.decreases), first_ready _ _ _ c.args.mode c.args.self.now c.in-Cat.is c.requires)

pub write-requires-in-Cat : goal.write-requires-in-Cat
write-requires-in-Cat n c =
    let q = cat_places _ _ _ c.args.mode c.args.self.now c.in-Cat.is c.requires in
    (omega (arith, place c.requires, c.decreases, q.1), second_ready _ _ _ c.args.mode c.args.self.now c.in-Cat.is c.write.new.self c.in_ok-write-in-Cat.ensures c.requires)

pub write-requires-in-Nest : goal.write-requires-in-Nest
write-requires-in-Nest n c =
    (omega (arith, place c.requires, c.decreases), nest_ready _ _ _ c.args.mode c.args.self.now _ (c.in-Nest.is ∙ ap Nest (sym c.from-in-Nest.ensures)) c.requires)

pub decide-inner-requires-clause-some : goal.decide-inner-requires-clause-some
decide-inner-requires-clause-some n c = (group_places _ _ _ c.args.mode c.args.self.now c.in-Group.is c.requires).0

pub write-requires-in-Group : goal.write-requires-in-Group
write-requires-in-Group n c =
    (omega (arith, place c.requires, c.decreases), group_ready _ _ _ c.args.mode c.args.self.now c.in-Group.is c.decide-inner.new.self c.decide-inner.ensures.same c.requires)

pub returns-in-Nil : goal.returns-in-Nil
returns-in-Nil n c = nil_writes _ _ _ _ c.args.self.now c.in-Nil.is

pub returns-in-Text : goal.returns-in-Text
returns-in-Text n c =
    text_writes _ _ _ _ c.args.self.now _ _ c.text.new.self _ _ (c.in-Text.is ∙ ap (Text c.in-Text.start) (sym c.from.ensures))
    (ap (λ l. take l (drop c.in-Text.start c.args.plan.now.source.now)) (cut c.in-Text.start c.from.result)) c.text.ensures

pub returns-in_err-write-in-Cat : goal.returns-in_err-write-in-Cat
returns-in_err-write-in-Cat n c = cat_stops _ _ _ _ c.args.self.now c.in-Cat.is c.write.new.self _ c.in_err-write-in-Cat.ensures _ c.from_residual.ensures.0

pub returns-in_ok-write-in-Cat : goal.returns-in_ok-write-in-Cat
returns-in_ok-write-in-Cat n c = cat_writes _ _ _ _ c.args.self.now c.in-Cat.is c.write.new.self c.in_ok-write-in-Cat.ensures c.write-in-Cat.new.self _ c.write-in-Cat.ensures

pub returns-in-Nest : goal.returns-in-Nest
returns-in-Nest n c = nest_writes _ _ _ _ c.args.self.now _ c.write-in-Nest.new.self _ (c.in-Nest.is ∙ ap Nest (sym c.from-in-Nest.ensures)) c.write-in-Nest.ensures

pub returns-in-Flat : goal.returns-in-Flat
returns-in-Flat n c =
    line_writes _ _ _ _ c.args.self.now c.text-in-Flat.new.self _ c.in-Line.is
    (flat_line _ _ _ c.args.self.now c.text-in-Flat.new.self _ c.in-Flat.is c.text-in-Flat.ensures)

pub returns-in-Broken : goal.returns-in-Broken
returns-in-Broken n c =
    line_writes _ _ _ _ c.args.self.now c.newline.new.self _ c.in-Line.is
    (broken_line _ _ _ c.args.self.now c.newline.new.self _ c.in-Broken.is (c.newline.ensures c.args.plan.now.width))

pub returns-in-Group : goal.returns-in-Group
returns-in-Group n c =
    group_writes _ _ _ _ c.args.self.now c.in-Group.is c.decide-inner.new.self c.decide-inner.ensures.same c.write-in-Group.new.self c.decide-inner.result _ c.decide-inner.ensures.mode c.write-in-Group.ensures
