use Rattle.std.proofs.Common.{◌≡◌, ℕ, ap, ◌+◌, ◌-◌, length, refl, ◌∙◌, arith}
use Rattle.doc.proofs.Reserving.{given_back}
use Rattle.layout.proofs.Going.{under_kept, last_kept, merged_row, merged_long, merged_notes}
use Rattle.layout.proofs.search.Search.merge_saved.Goals as goal

pub returns : goal.returns
returns c = λ under kept is long.
    let w : ℕ = c.args.self.now.width in
    let reach : ℕ = c.args.reach in
    let shift : ℕ = c.args.self.now.offset in
    let base : ℕ = c.len.result - c.len-2.result in
    let base_is : base ≡ length c.args.self.now.saved - w - 1 = omega (arith, c.len.ensures.count, c.len-2.ensures.count, c.args.self.now.long) in
    let wide : length c.args.self.now.row ≡ w + 1 = omega (arith, c.args.self.now.long) in
    let lent = c.as_mut_slice.ensures.items in
    let flat = last_kept w base _ under kept is long base_is c.as_slice.result.now _ c.as_slice.ensures.items refl in
    record {
      same_width = refl;
      same_flat = refl;
      begins = refl;
      saved_is = c.truncate.ensures ∙ under_kept w base _ under kept is long base_is;
      row_is =
          given_back c.args.self.now.row c.merge.new.broken
          (merged_long w reach shift _ kept _ _ lent flat wide _ _ c.merge.ensures.row (ap length lent))
          ∙ merged_row w reach shift _ kept _ _ lent flat wide _ c.merge.ensures.row;
      notes_are = merged_notes w reach shift _ kept _ _ lent flat wide _ _ c.merge.ensures.notes;
    }
