use Rattle.std.proofs.Common.{ap, refl, length-append, ◌≡◌, ℕ, ◌+◌, ◌<◌, Bool, cond, List, length, sym, ◌∙◌, arith}
use Rattle.std.proofs.lemmas.Bool.{cond-true, cond-false}
use Rattle.cost.specs.Row.{along}
use Rattle.cost.specs.declared.price.Cost.{Cost}
use Rattle.cost.proofs.Merging.{along_kept, none_below, noted, picked, pushed_below, replaced_all, replaced_more, replaced_none, taken}
use Rattle.cost.proofs.row.merge.Goals as goal
use Rattle.cost.proofs.row.merge.Goals.{then-better, else-better}

pub loop-c-init : goal.loop-c-init
loop-c-init g c = (replaced_none _ _, none_below _ _, omega arith, refl)

pub loop-c-preserved : goal.loop-c-preserved
loop-c-preserved g c =
    let old : List Cost = c.args.broken.now in
    let row : List Cost = c.loop-c.broken in
    let at : ℕ = c.loop-c.c in
    let f : ℕ → Cost = taken c.args.flat.now c.args.reach old c.args.shift in
    let n : ℕ → Bool = noted c.args.flat.now c.args.reach old c.args.shift in
    let whole : Cost = c.along-whole.result in
    let parted : Cost = c.along-parted.result in
    let better : Bool = c.beats-better.result in
    let best : Cost = c.if-better.broken in
    let under : at < length row = omega arith in
    let unchanged : along row (at + c.args.shift) ≡ along old (at + c.args.shift) =
    along_kept row old at (at + c.args.shift) c.loop-c.auto.broken (omega arith) c.loop-c.invariant.0.kept (omega arith) in
    let way : best ≡ cond better parted whole =
    elim c.if-better.branch [
      | then-better w ↦ w.broken-is ∙ sym (cond-true better parted whole w.if-better.true)
      | else-better w ↦ w.broken-is ∙ sym (cond-false better parted whole w.if-better.false)
    ] in
    let is : (best ≡ f at) × (better ≡ n at) =
    picked whole parted best _ _ better c.along-whole.ensures (c.along-parted.ensures ∙ unchanged) c.beats-better.ensures way in
    let note : better ≡ n at = is.1 in
    let more = pushed_below n at (g.N.Pushed.items c.args.notes.now) in (
      replaced_more f old at row best under is.0 c.loop-c.invariant.0,
      (cc (c.push.ensures.items, c.loop-c.invariant.1)),
      omega (arith, ap length c.push.ensures.items ∙ length-append (g.N.Pushed.items c.loop-c.notes) _),
      c.push.ensures.room ∙ c.loop-c.invariant.3,
    )

pub returns : goal.returns
returns g c =
    let all : c.loop-c.c ≡ length c.args.broken.now = omega arith in
    record {
      row = rw all at (replaced_all _ _ c.loop-c.c c.loop-c.broken (omega arith) c.loop-c.invariant.0);
      notes = rw all at c.loop-c.invariant.1;
      capacity = c.loop-c.invariant.3;
    }
