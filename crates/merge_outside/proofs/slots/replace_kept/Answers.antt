use Rattle.std.proofs.Common.{◌∙◌, sym, ap}
use Rattle.std.specs.Prelude.{position}
use Rattle.merge_outside.specs.Slots.{is_slot}
use Rattle.merge_outside.proofs.Kept.{kept-before, kept-after, kept-others}
use Rattle.merge_outside.proofs.slots.replace_kept.Goals as goal

pub returns-clause-before : goal.returns-clause-before
returns-clause-before g c =
    c.replace.ensures.value ∙ kept-before c.args.slots.now.items c.args.site c.args.path.now c.in-Some.place c.index_mut.result.now (ap (position (is_slot c.args.site c.args.path.now)) (sym c.deref.ensures.value) ∙ sym c.place_of.ensures.place ∙ c.in-Some.is) c.index_mut.ensures.value

pub returns-clause-after : goal.returns-clause-after
returns-clause-after g c =
    rw c.replace.ensures.after (kept-after c.args.slots.now.items c.args.site c.args.path.now c.in-Some.place c.index_mut.result.now c.args.kept (ap (position (is_slot c.args.site c.args.path.now)) (sym c.deref.ensures.value) ∙ sym c.place_of.ensures.place ∙ c.in-Some.is) c.index_mut.ensures.value)

pub returns-clause-others : goal.returns-clause-others
returns-clause-others g c =
    kept-others c.args.slots.now.items c.args.site c.args.path.now c.in-Some.place c.index_mut.result.now c.replace.new.dest (ap (position (is_slot c.args.site c.args.path.now)) (sym c.deref.ensures.value) ∙ sym c.place_of.ensures.place ∙ c.in-Some.is) c.index_mut.ensures.value
